-- The code's loops: over the kinds of all clocks, the digits of a pattern, the rankings of a part, the patterns. No sum wraps. Assumes nothing.
use Prim.Native.Nat.{ℕ, zero, suc, ◌+◌, ◌*◌, ◌/◌, ◌%◌, ◌≤◌, ◌<◌}
use native.Mathlib.Nat.{mul-le-mul, le_of_eq, zero-mul}
use native.Mathlib.Numerals.{add-one}
use native.Mathlib.Decide.{ℕ_discrete}
use native.Mathlib.Omega.{arith}
use mathlib.Core.Path.{◌≡◌, refl, sym, ap, subst, ◌∙◌}
use mathlib.Core.Bool.{Bool, true, false, cond, not}
use mathlib.Core.List.{List, [], ◌∷◌, map}
use lib.Dec.{eqb}
use borrow.Author.Tests.{eq-eqb}
use Rattle.std.specs.List.{filter, range_with_len, sum}
use Rattle.std.proofs.lemmas.List.FromFn.{fill_by_all, map-range_with_len_more}
use Rattle.std.proofs.lemmas.List.Sums.{sum_by-append}
use lib.ListN.{length, get_or, take, set, length-set}
use lib.Seq.{get_or-set_same, get_or-set_other}
use Rattle.automata.specs.Clocks.{at, allb, each}
use Rattle.automata.specs.Row.{Row}
use Rattle.automata.specs.Rows.{select}
use Rattle.regions.specs.Values.{bounds_of, row_of, padded}
use Rattle.regions.specs.Placing.{still, placed_at}
use Rattle.regions.specs.declared.clock_move.Move.{Move}
use Rattle.regions.specs.declared.region.Region.{Region}
use Rattle.rankings.specs.Ranking.{ranked_rows}
use Rattle.edge_walk.specs.Choice.{allowsb, Ready}
use Rattle.edge_walk.specs.Way.{rows_on}
use Rattle.edge_walk.specs.declared.way.Way.{Way}
use Rattle.edge_walk.specs.declared.search.Search.{Search}
use Rattle.way_counts.specs.Kinds.{kind}
use Rattle.way_counts.specs.Patterns.{sum_below, product, digits_from, digit, patterns, move_at, entry, Right, Counts, FewOfEach, count_at, sample_at, times, samples_of, ways, pattern_rows}
use Rattle.way_counts.specs.declared.patterns.Kinds.{Kinds}
use Rattle.way_counts.specs.declared.patterns.OfKind.{OfKind}
use Rattle.automata.proofs.Laws.Tests.{refutes, allb_law}
use Rattle.automata.proofs.Laws.Lists.{length_each, at_each}
use Rattle.regions.proofs.Laws.Values.{at_take, take_padded}
use Rattle.regions.proofs.Laws.Filling.{filled_more}
use Rattle.edge_walk.proofs.Laws.Allowing.{placed_first}
use Rattle.way_counts.proofs.Laws.Sums.{product_low, product_last, product_some}
use Rattle.way_counts.proofs.Laws.Kinds.{of_kind_le, one_counted}
use Rattle.way_counts.proofs.Laws.Patterns.{digit_low}
use Rattle.way_counts.proofs.Laws.Ways.{ways_loose, ways_low, patterns_total}

-- the kinds of all clocks -------------------------------------------------------------------------------------------------------------

-- those of the first i clocks are there
pub record Filled (ms : List Move) (i : ℕ) (each : List (List OfKind)) : Type 0 where
  pub long : length each ≡ 4
  pub right : (z d : ℕ) → z < i → d < 3 → Right (get_or ms z still) d (entry (record { each = each }) z d)

module _ (ms : List Move) where
  pub filled_none : (each : List (List OfKind)) → length each ≡ 4 → Filled ms 0 each
  filled_none each e = record { long = e; right = λ z d h. absurd (omega arith) }

  pub filled_one : (i : ℕ) (each : List (List OfKind)) (a b c : OfKind) → Filled ms i each → i < 4 → Right (get_or ms i still) 0 a → Right (get_or ms i still) 1 b
      → Right (get_or ms i still) 2 c → Filled ms (i + 1) (set each i (a ∷ b ∷ c ∷ []))
  filled_one i each a b c F h at_0 at_1 at_2 = record { long = length-set each i (a ∷ b ∷ c ∷ []) ∙ F.long; right = λ z d l k. go z d l k (ℕ_discrete z i) }
    where
      its : (d : ℕ) → d < 3 → Right (get_or ms i still) d (get_or (a ∷ b ∷ c ∷ []) d (record { count = 0; sample = 0 }))
      its zero k = at_0
      its (suc zero) k = at_1
      its (suc (suc zero)) k = at_2
      its (suc (suc (suc d))) k = absurd (omega arith)

      go : (z d : ℕ) → z < i + 1 → d < 3 → Dec (z ≡ i) → Right (get_or ms z still) d (entry (record { each = set each i (a ∷ b ∷ c ∷ []) }) z d)
      go z d l k (yes e) = rw (e, get_or-set_same each i (a ∷ b ∷ c ∷ []) [] (omega (arith, F.long))) (its d k)
      go z d l k (no e) = rw (get_or-set_other each i z (a ∷ b ∷ c ∷ []) [] e) (F.right z d (omega arith) k)

-- a pattern ---------------------------------------------------------------------------------------------------------------------------

pub digits_are : (k z : ℕ) → z < 4 → at (k % 3 ∷ k / 3 % 3 ∷ k / 9 % 3 ∷ k / 27 % 3 ∷ []) z ≡ digit k z
unfolding digit digits_from
digits_are k zero h = refl
digits_are k (suc zero) h = refl
digits_are k (suc (suc zero)) h = ap (λ (x : ℕ). x % 3) {x = k / 9} {y = k / 3 / 3} (omega arith)
digits_are k (suc (suc (suc zero))) h = ap (λ (x : ℕ). x % 3) {x = k / 27} {y = k / 3 / 3 / 3} (omega arith)
digits_are k (suc (suc (suc (suc z)))) h = absurd (omega arith)

pub digits_low : (k z : ℕ) → at (k % 3 ∷ k / 3 % 3 ∷ k / 9 % 3 ∷ k / 27 % 3 ∷ []) z < 3
digits_low k zero = omega arith
digits_low k (suc zero) = omega arith
digits_low k (suc (suc zero)) = omega arith
digits_low k (suc (suc (suc zero))) = omega arith
digits_low k (suc (suc (suc (suc z)))) = omega arith

-- the first z clocks' intervals are chosen
pub record Chosen (t : Kinds) (number location z : ℕ) (part : Region) (many : ℕ) : Type 0 where
  pub located : part.location ≡ location
  pub intervals : part.intervals ≡ padded (each z (sample_at t number))
  pub many_are : many ≡ product z (count_at t number)

pub chosen_none : (t : Kinds) (number location : ℕ)
    → Chosen t number location 0 (record { location = location; intervals = 0 ∷ 0 ∷ 0 ∷ 0 ∷ []; ranks = 0 ∷ 0 ∷ 0 ∷ 0 ∷ [] }) 1
unfolding product
chosen_none t number location = record { located = refl; intervals = refl; many_are = refl }

module _ (t : Kinds) (n number : ℕ) (four : n ≤ 4) (few : FewOfEach n t) where
  few_at : (z : ℕ) → z < n → count_at t number z ≤ 256
  unfolding count_at
  few_at z h = few z (digit number z) h (digit_low number z)

  pub times_low : times t n number ≤ 4294967296
  times_low = product_low n (count_at t number) four few_at

  -- one clock more
  module _ (location z : ℕ) (part : Region) (many digit_z : ℕ) (C : Chosen t number location z part many) (h : z < n) (e : digit_z ≡ digit number z) where
    times_on : many * (entry t z digit_z).count ≡ product (z + 1) (count_at t number)
    unfolding count_at
    times_on = rw (add-one z, product_last z (count_at t number), e, C.many_are)

    pub times_fit : many * (entry t z digit_z).count ≤ 4294967296
    times_fit = omega (arith, times_on, product_low (z + 1) (count_at t number) (omega arith) (λ w l. few_at w (omega arith)))

    pub chosen_on : (x : ℕ) → x ≡ (entry t z digit_z).sample
        → Chosen t number location (z + 1) (record { location = part.location; intervals = set part.intervals z x; ranks = part.ranks })
        (many * (entry t z digit_z).count)
    unfolding sample_at
    chosen_on x f = record {
      located = C.located;
      intervals = filled_more (sample_at t number) z part.intervals x (omega arith) C.intervals (subst (λ (d : ℕ). x ≡ (entry t z d).sample) e f);
      many_are = times_on;
    }

  -- all clocks
  pub chosen_all : (location z : ℕ) (part : Region) (many : ℕ) → Chosen t number location z part many → z ≡ n
      → (many ≡ times t n number) × ((part.location ≡ location) × ((row_of n part).intervals ≡ samples_of t n number))
  chosen_all location z part many C e = (
    rw e at C.many_are,
    (
      C.located,
      ap (take n) (rw e at C.intervals) ∙ take_padded n (samples_of t n number) (length_each n (sample_at t number)),
    ),
  )

-- none of the first z clocks is of kind 1
abbrev pub Loose : ℕ → ℕ → Type 0
Loose number z = (w : ℕ) → w < z → digit number w ≡ 1 → ⊥

pub loose_where : (b : Bool) (number n : ℕ) (digits : List ℕ) → n ≤ 4 → ((z : ℕ) → z < 4 → at digits z ≡ digit number z) → b ≡ allb n (λ (z : ℕ). not (eqb (at digits z) 1)) → b ≡ true → Loose number n
loose_where b number n digits few are e t z h f =
    refutes (not (eqb (at digits z) 1)) (λ p. p, λ p. p) (ap not (eq-eqb _ _ (are z (omega arith) ∙ f))) ((allb_law n (λ (z : ℕ). not (eqb (at digits z) 1)) (λ z. (λ p. p, λ p. p))).0 (sym e ∙ t) z h)

-- the rankings of a part --------------------------------------------------------------------------------------------------------------

-- those that pass, by number
filter_map : {A : Type 0} (p : A → Bool) (f : ℕ → A) (js : List ℕ) → length (filter (λ (j : ℕ). p (f j)) js) ≡ length (select p (map f js))
filter_map p f [] = refl
filter_map p f (j ∷ js) = go (p (f j)) (filter_map p f js)
  where
    go : (b : Bool) → length (filter (λ (j : ℕ). p (f j)) js) ≡ length (select p (map f js))
        → length (cond b (j ∷ filter (λ (j : ℕ). p (f j)) js) (filter (λ (j : ℕ). p (f j)) js)) ≡ length (cond b (f j ∷ select p (map f js)) (select p (map f js)))
    go true e = ap suc e
    go false e = e

pub tried_all : (s : Search) (l : ℕ) (js : List ℕ) (d : Row) (n : ℕ) → n ≡ length (ranked_rows (bounds_of s.clocks) l js)
    → length (filter (λ (j : ℕ). allowsb s (get_or (ranked_rows (bounds_of s.clocks) l js) j d)) (range_with_len 0 n)) ≡ ways s l js
unfolding ways
tried_all s l js d n e =
    filter_map (allowsb s) (λ (j : ℕ). get_or (ranked_rows (bounds_of s.clocks) l js) j d) (range_with_len 0 n)
    ∙ ap (λ (rows : List Row). length (select (allowsb s) rows)) (sym (fill_by_all _ (ranked_rows (bounds_of s.clocks) l js) n d (sym e) (λ k h. refl)))

-- one ranking, tried
pub ranking_tried : (s : Search) (r : Row) (v : Region) (b : Bool) (n : ℕ) → row_of s.clocks.count v ≡ r → n ≡ s.clocks.count → b ≡ placed_at s.moves.each s.moves.ranks n v.intervals v.ranks → b ≡ allowsb s r
ranking_tried s r v b n e d p = p ∙ ap (λ (m : ℕ). placed_at s.moves.each s.moves.ranks m v.intervals v.ranks) d ∙ placed_first s.moves.each s.moves.ranks s.clocks.count v.intervals v.ranks ∙ ap (allowsb s) e

-- the rows of a pattern ---------------------------------------------------------------------------------------------------------------

module _ (s : Search) (R : Ready s) (four : length s.clocks.bounds ≡ 4) (t : Kinds) (T : Counts s t) (few : FewOfEach s.clocks.count t) (l number : ℕ) where
  abbrev n : ℕ
  n = s.clocks.count

  abbrev samples : List ℕ
  samples = samples_of t n number

  sample_is : (z : ℕ) → z < n → at samples z ≡ (entry t z (digit number z)).sample
  unfolding sample_at
  sample_is z h = at_each n (sample_at t number) z h

  pub samples_within : (z : ℕ) → z < n → at samples z ≤ (move_at s z).top
  samples_within z h = rw (sample_is z h) ((T z (digit number z) h (digit_low number z)).within)

  samples_low : ways s l samples ≤ 75
  samples_low = ways_low s R four l samples (length_each n (sample_at t number)) samples_within

  -- no product wraps
  pub rows_fit : (m w : ℕ) → m ≡ times t n number → w ≡ ways s l samples → m * w ≤ 322122547200
  rows_fit m w d e = omega (arith, mul-le-mul (le_of_eq d) (le_of_eq e), mul-le-mul (times_low t n number R.few.few few) samples_low)

  pub pattern_low : pattern_rows s l t number ≤ 322122547200
  unfolding pattern_rows
  pattern_low = rows_fit _ _ refl refl

  -- where there are some, the samples are of the pattern's kinds
  sample_kind : (times t n number ≡ 0 → ⊥) → (z : ℕ) → z < n → kind (move_at s z) (at samples z) ≡ digit number z
  unfolding count_at
  sample_kind some z h =
      let low = digit_low number z in
      let (j, k, e) = one_counted (move_at s z) (digit number z) ((move_at s z).top + 1)
      (rw (T z (digit number z) h low).counted at (product_some n (count_at t number) some z h)) in
      rw (sample_is z h) ((T z (digit number z) h low).alike j (omega arith) e)

  pub loose_ways : (times t n number ≡ 0 → ⊥) → Loose number n → ways s l samples ≡ length (ranked_rows (bounds_of s.clocks) l samples)
  loose_ways some loose =
      ways_loose s R four l samples (λ z h. let e = sample_kind some z h in (omega (arith, digit_low number z), λ k. loose z h (sym e ∙ k)))

  -- the part of the samples
  module _ (v : Region) (located : v.location ≡ l) (chosen : (row_of n v).intervals ≡ samples) where
    pub part_within : (z : ℕ) → z < n → at v.intervals z ≤ 2 * at s.clocks.bounds z + 1
    part_within z h = omega (arith, at_take n v.intervals z h, ap (λ (js : List ℕ). at js z) chosen, samples_within z h, R.tops z h)

    pub tried_ways : (w : ℕ) → w ≡ ways s v.location (row_of n v).intervals → w ≡ ways s l samples
    tried_ways w e = rw (located, chosen) at e

    pub loose_rankings : (m w : ℕ) → m ≡ times t n number → (m ≡ 0 → ⊥) → Loose number n
        → w ≡ length (ranked_rows (bounds_of s.clocks) v.location (row_of n v).intervals) → w ≡ ways s l samples
    loose_rankings m w d some loose e = (rw (located, chosen) at e) ∙ sym (loose_ways (λ q. some (d ∙ q)) loose)

  pub rows_none : (m : ℕ) → m ≡ times t n number → m ≡ 0 → 0 ≡ pattern_rows s l t number
  unfolding pattern_rows
  rows_none m d e = sym (ap (λ (x : ℕ). x * ways s l samples) (sym d ∙ e) ∙ zero-mul (ways s l samples))

  pub rows_are : (m w : ℕ) → m ≡ times t n number → w ≡ ways s l samples → m * w ≡ pattern_rows s l t number
  unfolding pattern_rows
  rows_are m w d e = rw (d, e)

-- all patterns ------------------------------------------------------------------------------------------------------------------------

pub few_of_each : (s : Search) → Ready s → (t : Kinds) → Counts s t → ((z : ℕ) → z < s.clocks.count → at s.clocks.bounds z ≤ 127) → FewOfEach s.clocks.count t
few_of_each s R t T low z d h l = omega (arith, (T z d h l).counted, of_kind_le (move_at s z) d ((move_at s z).top + 1), R.tops z h, low z h)

pub patterns_low : (n : ℕ) → n ≤ 4 → patterns n ≤ 81
unfolding patterns
patterns_low zero h = omega arith
patterns_low (suc zero) h = omega arith
patterns_low (suc (suc zero)) h = omega arith
patterns_low (suc (suc (suc zero))) h = omega arith
patterns_low (suc (suc (suc (suc zero)))) h = omega arith
patterns_low (suc (suc (suc (suc (suc n))))) h = absurd (omega arith)

-- the sum of what the numbers below one give
pub sum_is : (f : ℕ → ℕ) (n : ℕ) → sum (map f (range_with_len 0 n)) ≡ sum_below n f
unfolding sum_below
sum_is f zero = refl
sum_is f (suc n) =
    let e = ap (λ (k : ℕ). sum (map f (range_with_len 0 k))) {x = suc n} {y = n + 1} (omega arith) ∙ ap sum (map-range_with_len_more f 0 n n (omega arith)) in
    omega (arith, e, sum_by-append (λ (x : ℕ). x) (map f (range_with_len 0 n)) (f n ∷ []), sum_is f n)

sum_low : (f : ℕ → ℕ) (n m : ℕ) → ((k : ℕ) → f k ≤ m) → sum_below n f ≤ n * m
unfolding sum_below
sum_low f zero m h = omega arith
sum_low f (suc n) m h = omega (arith, sum_low f n m h, h n)

module _ (w : Way) (R : Ready w.search) (four : length w.search.clocks.bounds ≡ 4) (t : Kinds) (T : Counts w.search t) (few : FewOfEach w.search.clocks.count t)
    (k : ℕ) (d : k ≡ patterns w.search.clocks.count) where
  pub sum_fits : sum (map (pattern_rows w.search w.target t) (range_with_len 0 k)) < 18446744073709551616
  sum_fits =
      omega (
        arith,
        sum_is (pattern_rows w.search w.target t) k,
        sum_low (pattern_rows w.search w.target t) k 322122547200 (λ i. pattern_low w.search R four t T few w.target i),
        patterns_low w.search.clocks.count R.few.few,
        d,
      )

  pub way_summed : sum (map (pattern_rows w.search w.target t) (range_with_len 0 k)) ≡ length (rows_on w)
  unfolding rows_on
  way_summed = sum_is (pattern_rows w.search w.target t) k ∙ ap (λ (i : ℕ). sum_below i (pattern_rows w.search w.target t)) d ∙ sym (patterns_total w.search R four w.target t T)
