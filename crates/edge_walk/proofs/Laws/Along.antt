-- The walk along an edge's way: from its beginning all of its rows are ahead, past a floor those above it; so the first that is met is the first above the
-- floor. Assumes nothing.
use Prim.Native.Nat.{ℕ, zero, suc, ◌+◌, ◌*◌, ◌-◌, ◌≤◌, ◌<◌}
use native.Mathlib.Omega.{arith}
use mathlib.Core.Path.{◌≡◌, refl, sym, ap, subst, ◌∙◌}
use mathlib.Core.Logic.{◌⊎◌, inl, inr}
use mathlib.Core.Option.{none, some}
use mathlib.Core.List.{List, [], ◌∷◌}
use lib.ListN.{length, take}
use Rattle.automata.specs.Clocks.{at}
use Rattle.automata.specs.Row.{Row, IsRow, Before, Below}
use Rattle.automata.specs.Closed.{Mem}
use Rattle.automata.specs.Rows.{rows_at}
use Rattle.regions.specs.Values.{bounds_of, row_of, padded, region_of, sought}
use Rattle.regions.specs.Order.{numbers}
use Rattle.edge_walk.specs.Walk.{first_above}
use Rattle.edge_walk.specs.Choice.{Agree, allowsb, Candidate, Answers, Ready}
use Rattle.edge_walk.specs.Stand.{start, after, Later, Ahead, Standing}
use Rattle.edge_walk.specs.Way.{rows_on}
use Rattle.regions.specs.declared.region.Region.{Region}
use Rattle.std.specs.declared.option.Option as option_code
use Rattle.std.specs.declared.option.Option.TheVariants.{None}
use Rattle.edge_walk.specs.declared.search.Search.{Search}
use Rattle.edge_walk.specs.declared.way.Way.{Way}
use Rattle.automata.proofs.Laws.Members.{select_in, select_out, Sorted, sorted_select}
use Rattle.automata.proofs.Laws.Rows.{rows_at_in, rows_at_out, rows_at_sorted}
use Rattle.automata.proofs.Laws.Checks.{belowb_law}
use Rattle.regions.proofs.Laws.Values.{length_first, row_region}
use Rattle.edge_walk.proofs.Laws.Numbers.{before_at, before_where, below_before, before_below, count_numbers}
use Rattle.edge_walk.proofs.Laws.Choice.{not_yet}
use Rattle.edge_walk.proofs.Laws.Stand.{Four, later_back}
use Rattle.edge_walk.proofs.Laws.First.{Among, answer_is, no_answer}

-- numbers past others -------------------------------------------------------------------------------------------------------------------

module _ (ps xs : List ℕ) (alike : length ps ≡ length xs) (j : ℕ) (e : length ps ≡ j + 1) where
  later_before : Later ps j (at ps j + 1) xs → Before ps xs
  later_before (inl (a, h)) = before_at ps xs j alike (omega arith) (λ m l. sym (a m l)) (omega arith)
  later_before (inr (i, l, a, h)) = before_at ps xs i alike (omega arith) (λ m k. sym (a m k)) h

  before_later : Before ps xs → Later ps j (at ps j + 1) xs
  before_later b = let (i, l, a, h) = before_where ps xs alike b in go i l h (later_back ps xs (j + 1) j 0 refl (inr (i, omega arith, a, h)))
    where
      go : (i : ℕ) → i < length ps → at ps i < at xs i → Agree (j + 1) xs ps ⊎ Later ps j (at ps j + 1) xs → Later ps j (at ps j + 1) xs
      go i l h (inl a) = absurd (omega (arith, a i (omega arith)))
      go i l h (inr q) = q

-- a way ----------------------------------------------------------------------------------------------------------------------------------

abbrev zeros : List ℕ
zeros = 0 ∷ 0 ∷ 0 ∷ 0 ∷ []

padded_zeros : (n : ℕ) → n ≤ 4 → padded (take n zeros) ≡ zeros
padded_zeros zero h = refl
padded_zeros (suc zero) h = refl
padded_zeros (suc (suc zero)) h = refl
padded_zeros (suc (suc (suc zero))) h = refl
padded_zeros (suc (suc (suc (suc zero)))) h = refl
padded_zeros (suc (suc (suc (suc (suc n))))) h = absurd (omega arith)

module _ (w : Way) (ready : Ready w.search) where
  abbrev s : Search
  s = w.search

  abbrev n : ℕ
  n = s.clocks.count

  abbrev c : List ℕ
  c = bounds_of s.clocks

  pub way_sorted : Sorted Below (rows_on w)
  unfolding rows_on
  way_sorted = sorted_select Below (allowsb s) (rows_at c w.target) (rows_at_sorted c w.target)

  -- its rows are the candidates in the target
  on_way : (x : Row) → Candidate s x → x.location ≡ w.target → Mem x (rows_on w)
  unfolding rows_on
  on_way x q l = select_in (allowsb s) (rows_at_in c w.target x l q.is_row) q.placed

  of_way : (x : Row) → Mem x (rows_on w) → Candidate s x × (x.location ≡ w.target)
  unfolding rows_on
  of_way x m =
      let (k, t) = select_out (allowsb s) (rows_at c w.target) m in
      let (l, i) = rows_at_out c w.target x k in
      (record { is_row = i; placed = t }, l)

  -- from its beginning
  pub starts : Standing s (start w.target)
  starts = record {
    plain = let p = padded_zeros n ready.few.few in λ i. record { location = w.target; intervals = p i; ranks = p i };
    within = omega arith;
    over = λ z. absurd (omega arith);
    arrived = λ z. (refl, sym (not_yet s (start w.target).part 1 (omega arith)));
  }

  pub start_on : (x : Row) → Ahead s (start w.target) x → Mem x (rows_on w)
  start_on x q = on_way x q.held q.located

  pub on_start : (x : Row) → Mem x (rows_on w) → Ahead s (start w.target) x
  on_start x m = let (q, l) = of_way x m in record { held = q; located = l; later = inl (λ j h. let z : j ≡ 0 = omega arith in rw z l, omega arith) }

  -- there is no floor
  pub from_start : (r : option_code.Option Region) → Answers (Ahead s (start w.target)) r → r ≡ sought (first_above none (rows_on w))
  from_start r = answer_is none (rows_on w) way_sorted (Ahead s (start w.target)) r (λ x a. (start_on x a, refl)) (λ x m. on_start x m.0)

  module _ (floor : Region) where
    abbrev f : Row
    f = row_of n floor

    -- every row is below the floor
    pub all_below : w.target < floor.location → None ≡ sought (first_above (some f) (rows_on w))
    all_below h = no_answer (some f) (rows_on w) way_sorted (λ x q. not_below x (omega (arith, (of_way x q.0).1)) ((belowb_law f x).0 q.1))
      where
        not_below : (x : Row) → x.location < f.location → Below f x → ⊥
        not_below x l (inl b) = omega arith
        not_below x l (inr b) = omega arith

    -- every row is above it
    pub from_start_above : floor.location < w.target → (r : option_code.Option Region) → Answers (Ahead s (start w.target)) r
        → r ≡ sought (first_above (some f) (rows_on w))
    from_start_above h r =
        answer_is (some f) (rows_on w) way_sorted (Ahead s (start w.target)) r
        (λ x a. (start_on x a, (belowb_law f x).1 (inl (omega (arith, a.located))))) (λ x m. on_start x m.0)

    -- it is in the target
    module _ (fours : Four floor) (h : f.location ≡ w.target) where
      same : row_of n (region_of f) ≡ f
      same = row_region n f (length_first n floor.intervals ready.few.few fours.intervals) (length_first n floor.ranks ready.few.few fours.ranks)

      pub stands_after : Standing s (after n floor)
      stands_after = record {
        plain = ap region_of same;
        within = omega arith;
        over = λ z. rw z (omega arith);
        arrived = λ z. absurd (omega arith);
      }

      sized : (x : Row) → IsRow c x → length s.clocks.bounds ≡ 4 → length f.intervals ≡ length x.intervals
      sized x i four = length_first n floor.intervals ready.few.few fours.intervals ∙ sym (i.intervals_length ∙ length_first n s.clocks.bounds ready.few.few four)

      pub from_floor : length s.clocks.bounds ≡ 4 → (r : option_code.Option Region) → Answers (Ahead s (after n floor)) r
          → r ≡ sought (first_above (some f) (rows_on w))
      from_floor four r = answer_is (some f) (rows_on w) way_sorted (Ahead s (after n floor)) r to back
        where
          few : length (numbers f) ≡ 1 + 2 * n
          few = count_numbers n f (length_first n floor.intervals ready.few.few fours.intervals) (length_first n floor.ranks ready.few.few fours.ranks)

          count : (x : Row) → IsRow c x → length (numbers x) ≡ 1 + 2 * n
          count x i =
              let e = length_first n s.clocks.bounds ready.few.few four in
              count_numbers n x (i.intervals_length ∙ e) (i.ranks_length ∙ e)

          ps : numbers (row_of n (region_of f)) ≡ numbers f
          ps = ap numbers same

          to : (x : Row) → Ahead s (after n floor) x → Among (some f) (rows_on w) x
          to x q = (
            on_way x q.held (q.located ∙ h),
            ((belowb_law f x).1 (before_below f x (sized x q.held.is_row four)
                (later_before (numbers f) (numbers x) (few ∙ sym (count x q.held.is_row)) (1 + 2 * n - 1) (omega (arith, few)) (subst (λ (us : List ℕ). Later us (1 + 2 * n - 1) (at us (1 + 2 * n - 1) + 1) (numbers x)) ps q.later)))),
          )

          back : (x : Row) → Among (some f) (rows_on w) x → Ahead s (after n floor) x
          back x (m, u) = let (q, l) = of_way x m in record {
            held = q;
            located = l ∙ sym h;
            later = subst (λ (us : List ℕ). Later us (1 + 2 * n - 1) (at us (1 + 2 * n - 1) + 1) (numbers x)) (sym ps) (before_later (numbers f) (numbers x) (few ∙ sym (count x q.is_row)) (1 + 2 * n - 1) (omega (arith, few))
                (below_before f x (sized x q.is_row four) ((belowb_law f x).0 u)));
          }
