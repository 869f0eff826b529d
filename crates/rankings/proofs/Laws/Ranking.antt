-- The rows with the same location and intervals, by number: as many as the table has rankings of the clocks that are open, and each has the ranks of
-- one of these. Assumes nothing.
use Prim.Native.Nat.{ℕ, zero, suc, ◌+◌, ◌*◌, ◌-◌, ◌≤◌, ◌<◌}
use native.Mathlib.Numerals.{add-one}
use native.Mathlib.Omega.{arith}
use mathlib.Core.Path.{◌≡◌, refl, sym, ap, ◌∙◌}
use mathlib.Core.Bool.{Bool, true, false, cond, ◌&&◌}
use mathlib.Core.Logic.{◌⊎◌, inl, inr}
use mathlib.Core.List.Memᴰ
use mathlib.Core.List.{List, [], ◌∷◌, map}
use lib.ListN.{length, get_or, take, drop, length-map, length-drop, get_or-map}
use lib.Dec.{leb}
use lib.Seq.{get_or-take, get_or-drop, length-take-le}
use Rattle.automata.specs.Clocks.{at, allb}
use Rattle.automata.specs.Row.{Row, IsRow, Open}
use Rattle.automata.specs.Closed.{Mem}
use Rattle.automata.specs.Rows.{openb, isrowb, from, select, choices, rank_lists}
use Rattle.automata.specs.Rankings.{open_clocks, rankings}
use Rattle.regions.specs.Values.{bounds_of, row_of, padded}
use Rattle.regions.specs.declared.clocks.Clocks.{Clocks}
use Rattle.regions.specs.declared.region.Region.{Region}
use Rattle.rankings.specs.Ranking.{ranked_rows, rows_ranked, InRange, weight, pattern, pattern_of}
use Rattle.automata.proofs.Laws.Tests.{Says, never, eqb_law, leb_law, ltb_law, and_law, implies_law, allb_law, someb_law, same_test}
use Rattle.automata.proofs.Laws.Members.{select_out, map_out, gather_out, from_out, get_or_in}
use Rattle.automata.proofs.Laws.Clocks.{openb_law}
use Rattle.automata.proofs.Laws.Rows.{isrowb_law}
use Rattle.automata.proofs.Laws.Rankings.{fullb, ranked, opens, counted, row_full}
use Rattle.regions.proofs.Laws.Values.{at_take, length_first, length_bounds, take_padded}
use Rattle.rankings.specs.Table.{starts, table}
use Rattle.rankings.proofs.Laws.Table.{table_long, all_tabled}

-- lists ---------------------------------------------------------------------------------------------------------------------------------

-- what is chosen is one of each
pub choices_out : (f : ℕ → List ℕ) (n : ℕ) (xs : List ℕ) → Mem xs (choices f n) → (length xs ≡ n) × ((z : ℕ) → z < n → Mem (at xs z) (f z))
choices_out f zero xs m = go (Memᴰ.cases_cons m)
  where
    go : (xs ≡ []) ⊎ Mem xs [] → (length xs ≡ 0) × ((z : ℕ) → z < 0 → Mem (at xs z) (f z))
    go (inl e) = (ap length e, λ z h. absurd (omega arith))
    go (inr k) = absurd (Memᴰ.not-nil k)
choices_out f (suc n) xs m =
    let (x, h, k) = gather_out (λ (x : ℕ). map (λ (xs : List ℕ). x ∷ xs) (choices (λ (z : ℕ). f (suc z)) n)) (f 0) m in
    let (ys, i, e) = map_out (λ (xs : List ℕ). x ∷ xs) (choices (λ (z : ℕ). f (suc z)) n) k in
    let (p, q) = choices_out (λ (z : ℕ). f (suc z)) n ys i in
    rw e (ap suc p, each x ys h q)
  where
    each : (x : ℕ) (ys : List ℕ) → Mem x (f 0) → ((z : ℕ) → z < n → Mem (at ys z) (f (suc z))) → (z : ℕ) → z < suc n → Mem (at (x ∷ ys) z) (f z)
    each x ys h q zero l = h
    each x ys h q (suc z) l = q z (omega arith)

-- an element that is there is the same whatever stands for those that are not
any_default : {A : Type 0} (xs : List A) (i : ℕ) (d e : A) → i < length xs → get_or xs i d ≡ get_or xs i e
any_default [] i d e h = absurd (omega arith)
any_default (x ∷ xs) zero d e h = refl
any_default (x ∷ xs) (suc i) d e h = any_default xs i d e (omega arith)

module _ {A B : Type 0} (p : B → Bool) (f : A → B) where
  -- those of the mapped elements that pass are those of the elements of which it is known
  pub select_map : (q : A → Bool) (xs : List A) → ((x : A) → Mem x xs → p (f x) ≡ q x) → select p (map f xs) ≡ map f (select q xs)
  select_map q [] h = refl
  select_map q (x ∷ xs) h = go (p (f x)) (q x) (h x (Memᴰ.head refl)) (select_map q xs (λ y m. h y (Memᴰ.tail m)))
    where
      go : (a b : Bool) → a ≡ b → select p (map f xs) ≡ map f (select q xs)
          → cond a (f x ∷ select p (map f xs)) (select p (map f xs)) ≡ map f (cond b (x ∷ select q xs) (select q xs))
      go true true e d = ap (λ (l : List B). f x ∷ l) d
      go false false e d = d
      go true false e d = never (sym e)
      go false true e d = never e

-- rows ----------------------------------------------------------------------------------------------------------------------------------

module _ (c : List ℕ) (l : ℕ) (js : List ℕ) (long : length js ≡ length c) (within : (z : ℕ) → z < length c → at js z ≤ 2 * at c z + 1) where
  abbrev row : List ℕ → Row
  row ks = record { location = l; intervals = js; ranks = ks }

  -- ranks with none missing, of which those of the open clocks are above 0, are those of a row
  full_row : (ks : List ℕ) → Mem ks (rank_lists c js) → fullb (length c) ks ≡ true → IsRow c (row ks)
  unfolding fullb
  full_row ks m h = record {
    intervals_length = long;
    ranks_length = chosen.0;
    in_range = within;
    rank_open = λ z k o. risen z (openb (at c z) (at js z)) (openb_law (at c z) (at js z)) (chosen.1 z k) o;
    rank_shut = λ z k o. none z (openb (at c z) (at js z)) (openb_law (at c z) (at js z)) (chosen.1 z k) o;
    dense = λ z k i p q. held z i k q p;
  }
    where
      chosen : (length ks ≡ length c) × ((z : ℕ) → z < length c → Mem (at ks z) (cond (openb (at c z) (at js z)) (from 1 (length c)) (0 ∷ [])))
      chosen = choices_out (λ (z : ℕ). cond (openb (at c z) (at js z)) (from 1 (length c)) (0 ∷ [])) (length c) ks m

      risen : (z : ℕ) (b : Bool) → Says b (Open (at c z) (at js z)) → Mem (at ks z) (cond b (from 1 (length c)) (0 ∷ [])) → Open (at c z) (at js z) → 0 < at ks z
      risen z true s k o = let t = from_out 1 (length c) (at ks z) k in omega arith
      risen z false s k o = never (s.1 o)

      none : (z : ℕ) (b : Bool) → Says b (Open (at c z) (at js z)) → Mem (at ks z) (cond b (from 1 (length c)) (0 ∷ [])) → (Open (at c z) (at js z) → ⊥) → at ks z ≡ 0
      none z true s k o = absurd (o (s.0 refl))
      none z false s k o = go (Memᴰ.cases_cons k)
        where
          go : (at ks z ≡ 0) ⊎ Mem (at ks z) [] → at ks z ≡ 0
          go (inl e) = e
          go (inr i) = absurd (Memᴰ.not-nil i)

      held : (z : ℕ) → z < length c → (k : ℕ) → k < at ks z → 0 < k → (w : ℕ) × (w < length c) × (at ks w ≡ k)
      held = (allb_law (length c) _ (λ z. allb_law (at ks z) _ (λ k. implies_law _ _ (ltb_law 0 k) (someb_law (length c) _ (λ w. eqb_law (at ks w) k))))).0 h

  -- the rows are those of the rankings with none missing
  pub ranked_are : ranked_rows c l js ≡ map row (ranked (length c) (opens c js))
  unfolding ranked_rows
  ranked_are =
      select_map (isrowb c) row (fullb (length c)) (rank_lists c js)
      (λ ks m. same_test (isrowb c (row ks)) (fullb (length c) ks) (isrowb_law c (row ks)) (full_row ks m, row_full c (row ks)))

  -- there are as many as there are rankings of the clocks that are open
  pub ranked_count : length c ≤ 4 → length (ranked_rows c l js) ≡ rankings (open_clocks c js (length c))
  ranked_count h = ap length ranked_are ∙ length-map (ranked (length c) (opens c js)) row ∙ counted c js (length c) h

-- the number of a choice of open clocks ---------------------------------------------------------------------------------------------------

-- a clock's weight is above all numbers without it
pub pattern_less : (p : ℕ → Bool) (n : ℕ) → pattern p n < weight n
unfolding pattern
pattern_less p zero = omega arith
pattern_less p (suc n) = go (p n) (pattern_less p n)
  where
    go : (b : Bool) → pattern p n < weight n → pattern p n + cond b (weight n) 0 < 2 * weight n
    go true h = omega arith
    go false h = omega arith

pub weight_few : (n : ℕ) → n ≤ 4 → weight n ≤ 16
weight_few zero h = omega arith
weight_few (suc zero) h = omega arith
weight_few (suc (suc zero)) h = omega arith
weight_few (suc (suc (suc zero))) h = omega arith
weight_few (suc (suc (suc (suc zero)))) h = omega arith
weight_few (suc (suc (suc (suc (suc n))))) h = absurd (omega arith)

pub pattern_low : (p : ℕ → Bool) (n : ℕ) → n ≤ 4 → pattern p n < 16
pattern_low p n h = omega (arith, pattern_less p n, weight_few n h)

-- one clock more
pub sum_low : (z sum w : ℕ) (b : Bool) → sum < weight z → w ≡ cond b (weight z) 0 → sum + w < weight (z + 1)
sum_low z sum w true h e = rw add-one (omega arith)
sum_low z sum w false h e = rw add-one (omega arith)

pub pattern_more : (p : ℕ → Bool) (z sum w : ℕ) (b : Bool) → sum ≡ pattern p z → b ≡ p z → w ≡ cond b (weight z) 0 → sum + w ≡ pattern p (z + 1)
unfolding pattern
pattern_more p z sum w b e f g = rw (add-one, ← e, ← f, g)

-- the rankings of each choice are in the table
pub starts_rise : (m : ℕ) → m < 16 → (at starts m ≤ at starts (m + 1)) × (at starts (m + 1) ≤ 150)
unfolding allb starts
starts_rise =
    (allb_law 16 (λ (m : ℕ). leb (at starts m) (at starts (m + 1)) && leb (at starts (m + 1)) 150)
    (λ m. and_law _ _ (leb_law (at starts m) (at starts (m + 1))) (leb_law (at starts (m + 1)) 150))).0 refl

module _ (k : Clocks) (part : Region) where
  abbrev n : ℕ
  n = k.count

  abbrev js : List ℕ
  js = (row_of n part).intervals

  -- the test of one clock
  pub opens_at : (z : ℕ) (b : Bool) → z < n → b ≡ openb (at k.bounds z) (at part.intervals z) → b ≡ opens (bounds_of k) js z
  opens_at z b h f = rw (at_take n k.bounds z h, at_take n part.intervals z h) f

  module _ (few : n ≤ 4) (bounds : length k.bounds ≡ 4) (intervals : length part.intervals ≡ 4) (within : InRange k part) where
    abbrev c : List ℕ
    c = bounds_of k

    abbrev m : ℕ
    m = pattern_of k part

    sized : length c ≡ n
    sized = length_bounds k few bounds

    low : m < 16
    low = pattern_low (opens c js) n few

    known : rows_ranked k part ≡ map (λ (ks : List ℕ). record { location = part.location; intervals = js; ranks = ks }) (ranked n (opens c js))
    known =
        ranked_are c part.location js (length_first n part.intervals few intervals ∙ sym sized)
        (λ z h. let l : z < n = omega (arith, sized) in rw (at_take n k.bounds z l, at_take n part.intervals z l) (within z l))
        ∙ ap (λ (i : ℕ). map (λ (ks : List ℕ). record { location = part.location; intervals = js; ranks = ks }) (ranked i (opens c js))) sized

    many : length (ranked n (opens c js)) ≡ at starts (m + 1) - at starts m
    many =
        sym (length-map (ranked n (opens c js)) padded) ∙ ap length (all_tabled (opens c js) n few)
        ∙ length-take-le (at starts (m + 1) - at starts m) (drop (at starts m) table) (rw length-drop (omega (arith, table_long, starts_rise m low)))

    -- there are as many as the table has rankings of that choice
    pub rankings_are : length (rows_ranked k part) ≡ at starts (m + 1) - at starts m
    rankings_are = ap length known ∙ length-map (ranked n (opens c js)) _ ∙ many

    module _ (j : ℕ) (h : j < length (rows_ranked k part)) where
      abbrev ks : List ℕ
      ks = get_or (ranked n (opens c js)) j []

      there : j < length (ranked n (opens c js))
      there = omega (arith, rankings_are, many)

      ks_long : length ks ≡ n
      ks_long =
          (choices_out _ n ks (select_out (fullb n) _ (get_or_in (ranked n (opens c js)) j [] there)).0).0

      -- the table has its ranks
      pub in_table : at starts m + j < 150
      in_table = omega (arith, rankings_are, starts_rise m low)

      its_ranks : get_or table (at starts m + j) [] ≡ padded ks
      its_ranks =
          sym (get_or-drop (at starts m) table j []) ∙ sym (get_or-take (at starts (m + 1) - at starts m) (drop (at starts m) table) j [] (omega (arith, rankings_are)))
          ∙ sym (ap (λ (xs : List (List ℕ)). get_or xs j []) (all_tabled (opens c js) n few))
          ∙ any_default (map padded (ranked n (opens c js))) j [] (padded []) (rw length-map there) ∙ get_or-map padded (ranked n (opens c js)) j []

      -- .. and zeros after those of the clocks
      pub zeros_after : (ranks : List ℕ) → ranks ≡ get_or table (at starts m + j) [] → ranks ≡ padded (take n ranks)
      zeros_after ranks e = rw (e, its_ranks) (ap padded (sym (take_padded n ks ks_long)))

      -- the region with these ranks is that row
      pub row_at : (ranks : List ℕ) → ranks ≡ get_or table (at starts m + j) []
          → row_of n (record { location = part.location; intervals = part.intervals; ranks = ranks }) ≡ get_or (rows_ranked k part) j (row_of n part)
      row_at ranks e =
          ap (λ (ks : List ℕ). record { location = part.location; intervals = js; ranks = ks }) (ap (take n) (e ∙ its_ranks) ∙ take_padded n ks ks_long)
          ∙ ap (λ (ks : List ℕ). record { location = part.location; intervals = js; ranks = ks }) (any_default (ranked n (opens c js)) j [] (take n part.ranks) there)
          ∙ sym (get_or-map (λ (ks : List ℕ). record { location = part.location; intervals = js; ranks = ks }) (ranked n (opens c js)) j (take n part.ranks))
          ∙ sym (ap (λ (rows : List Row). get_or rows j (row_of n part)) known)
