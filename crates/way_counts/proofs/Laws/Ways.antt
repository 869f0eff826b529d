-- How many rows of the same intervals the moves allow turns on the kinds of the intervals alone; how many rows are on a way. Assumes nothing.
use Prim.Native.Nat.{ℕ, zero, suc, ◌+◌, ◌*◌, ◌≤◌, ◌<◌}
use native.Mathlib.Decide.{ℕ_discrete}
use native.Mathlib.Omega.{arith}
use mathlib.Core.Path.{◌≡◌, sym, ap, ◌∙◌}
use mathlib.Core.Bool.{Bool, true, false, cond, not, ◌&&◌, ◌||◌}
use mathlib.Core.Logic.{◌⊎◌, inl, inr}
use mathlib.Core.List.{List, map}
use lib.ListN.{length, get_or, take}
use lib.Dec.{eqb, leb, ltb}
use borrow.Author.Tests.{le-leb, ne_eqb}
use Rattle.automata.specs.Comparison.{holds}
use Rattle.automata.specs.Clocks.{at, greatest, one_if}
use Rattle.automata.specs.Row.{Row, IsRow}
use Rattle.automata.specs.Closed.{Mem}
use Rattle.automata.specs.Rows.{openb, heldb, clockb, isrowb, from, select, choices, interval_lists, rank_lists, rows_at}
use Rattle.automata.specs.Rankings.{open_clocks, rankings}
use Rattle.regions.specs.Values.{bounds_of}
use Rattle.regions.specs.Move.{fits_at, permitsb}
use Rattle.regions.specs.Placing.{still, rank_fits_at, greedy_at, placed_at}
use Rattle.regions.specs.declared.clock_move.Move.{Move}
use Rattle.rankings.specs.Ranking.{ranked_rows}
use Rattle.edge_walk.specs.Choice.{allowsb, Ready}
use Rattle.edge_walk.specs.declared.search.Search.{Search}
use Rattle.way_counts.specs.Kinds.{kind, of_kind}
use Rattle.way_counts.specs.Patterns.{sum_below, digit, patterns, move_at, entry, Counts, count_at, sample_at, samples_of, ways, pattern_rows}
use Rattle.way_counts.specs.declared.patterns.Kinds.{Kinds}
use Rattle.automata.proofs.Laws.Tests.{fails}
use Rattle.automata.proofs.Laws.Members.{map_out, select_out, from_out}
use Rattle.automata.proofs.Laws.Rows.{isrowb_law}
use Rattle.regions.proofs.Laws.Values.{at_take, length_bounds}
use Rattle.regions.proofs.Laws.Placing.{allb_same, placed_permits}
use Rattle.rankings.proofs.Laws.Ranking.{ranked_count}
use Rattle.edge_walk.proofs.Laws.Allowing.{placed_everywhere}
use Rattle.edge_walk.proofs.Laws.Way.{select_none}
use Rattle.way_counts.proofs.Laws.Sums.{total, total_same, selected_all, selected_le, length_gathered, length_selected, choices_same, sum_same, product_same}
use Rattle.way_counts.proofs.Laws.Kinds.{kind_says, kind_permits, permits_kind, kind_le, kind_total}
use Rattle.way_counts.proofs.Laws.Patterns.{many, pattern_times, pattern_sample, ByKinds, total_patterns, digit_low}

-- positions ---------------------------------------------------------------------------------------------------------------------------

module _ (ms : List Move) (g m : ℕ) where
  -- intervals that fit alike are placed alike
  placed_alike : (js js' ks : List ℕ) → ((z : ℕ) → z < m → (p : ℕ) → fits_at (get_or ms z still) (at js z) p ≡ fits_at (get_or ms z still) (at js' z) p)
      → placed_at ms g m js ks ≡ placed_at ms g m js' ks
  unfolding placed_at rank_fits_at
  placed_alike js js' ks h = ap (λ (t : ℕ → ℕ → Bool). t 0 0 && leb (greedy_at t g (greatest (take m ks))) (2 * g)) same
    where
      one : (a p : ℕ) → rank_fits_at ms m js ks a p ≡ rank_fits_at ms m js' ks a p
      one a p = allb_same m _ _ (λ z l. ap (λ (b : Bool). not (eqb (at ks z) a) || b) (h z l p))

      same : rank_fits_at ms m js ks ≡ rank_fits_at ms m js' ks
      same i a p = one a p i

-- rows of the same intervals ----------------------------------------------------------------------------------------------------------

rankings_low : (k : ℕ) → rankings k ≤ 75
unfolding rankings
rankings_low zero = omega arith
rankings_low (suc zero) = omega arith
rankings_low (suc (suc zero)) = omega arith
rankings_low (suc (suc (suc zero))) = omega arith
rankings_low (suc (suc (suc (suc k)))) = omega arith

-- kinds are all below 3, or one is 3
all_low : (n : ℕ) (κ : ℕ → ℕ) → ((z : ℕ) → κ z ≤ 3) → ((z : ℕ) → z < n → κ z < 3) ⊎ ((z : ℕ) × (z < n) × (κ z ≡ 3))
all_low zero κ h = inl (λ z l. absurd (omega arith))
all_low (suc n) κ h = go (ℕ_discrete (κ n) 3) (all_low n κ h)
  where
    go : Dec (κ n ≡ 3) → ((z : ℕ) → z < n → κ z < 3) ⊎ ((z : ℕ) × (z < n) × (κ z ≡ 3)) → ((z : ℕ) → z < suc n → κ z < 3) ⊎ ((z : ℕ) × (z < suc n) × (κ z ≡ 3))
    go (yes e) before = inr (n, omega arith, e)
    go (no e) (inr (z, l, d)) = inr (z, omega arith, d)
    go (no e) (inl low) = inl (λ z l. by z l (ℕ_discrete z n))
      where
        by : (z : ℕ) → z < suc n → Dec (z ≡ n) → κ z < 3
        by z l (yes d) = rw d (omega (arith, h n))
        by z l (no d) = low z (omega arith)

module _ (s : Search) (R : Ready s) (four : length s.clocks.bounds ≡ 4) (l : ℕ) where
  abbrev n : ℕ
  n = s.clocks.count

  abbrev c : List ℕ
  c = bounds_of s.clocks

  abbrev kind_at : ℕ → ℕ → ℕ
  kind_at z j = kind (move_at s z) j

  abbrev row : List ℕ → List ℕ → Row
  row js ks = record { location = l; intervals = js; ranks = ks }

  sized : length c ≡ n
  sized = length_bounds s.clocks R.few.few four

  top_is : (z : ℕ) → z < n → (move_at s z).top ≡ 2 * at c z + 1
  top_is z h = R.tops z h ∙ ap (λ (b : ℕ). 2 * b + 1) (sym (at_take n s.clocks.bounds z h))

  row_out : (js : List ℕ) (x : Row) → Mem x (ranked_rows c l js) → (x.intervals ≡ js) × IsRow c x
  unfolding ranked_rows
  row_out js x m =
      let (k, i) = select_out (isrowb c) (map (row js) (rank_lists c js)) m in
      let (ks, _, d) = map_out (row js) (rank_lists c js) k in
      (ap (λ (r : Row). r.intervals) d, (isrowb_law c x).0 i)

  -- where an interval is not permitted, or out of range, no row is allowed
  ways_none : (js : List ℕ) (z : ℕ) → z < n → kind_at z (at js z) ≡ 3 → ways s l js ≡ 0
  unfolding ways
  ways_none js z h e = ap length (select_none (allowsb s) (ranked_rows c l js) out)
    where
      out : (x : Row) → Mem x (ranked_rows c l js) → allowsb s x ≡ false
      out x m =
          let (d, i) = row_out js x m in
          fails (allowsb s x) (λ a. a, λ a. a) (λ a.
          let p : permitsb (move_at s z) (at js z) ≡ true = rw d at (placed_permits s.moves.each s.moves.ranks n x.intervals x.ranks a z h) in
          let b : at js z ≤ 2 * at c z + 1 = rw d at (i.in_range z (omega (arith, sized))) in
          omega (arith, permits_kind (move_at s z) (at js z) (omega (arith, top_is z h)) p))

  -- where no interval's order is that of the fractional parts, all rows are allowed
  pub ways_loose : (js : List ℕ) → ((z : ℕ) → z < n → (kind_at z (at js z) < 3) × (kind_at z (at js z) ≡ 1 → ⊥)) → ways s l js ≡ length (ranked_rows c l js)
  unfolding ways
  ways_loose js h =
      ap length (selected_all (allowsb s) (ranked_rows c l js) (λ x m.
      placed_everywhere s.moves.each s.moves.ranks n x.intervals x.ranks (λ z k p. rw (row_out js x m).0 (fit z k p))))
    where
      fit : (z : ℕ) → z < n → (p : ℕ) → fits_at (move_at s z) (at js z) p ≡ true
      fit z k p =
          (kind_says (move_at s z) (at js z) (at c z) (top_is z k) (h z k).0).1 p
          ∙ ap (λ (b : Bool). cond b (holds (move_at s z).comparison (p + 1) (2 * (move_at s z).rank)) true) (ne_eqb (kind_at z (at js z)) 1 (h z k).1)

  -- there are at most 75
  pub ways_low : (js : List ℕ) → length js ≡ n → ((z : ℕ) → z < n → at js z ≤ (move_at s z).top) → ways s l js ≤ 75
  unfolding ways
  ways_low js long within =
      omega (arith, selected_le (allowsb s) (ranked_rows c l js), all_ways, rankings_low (open_clocks c js (length c)))
    where
      all_ways : length (ranked_rows c l js) ≡ rankings (open_clocks c js (length c))
      all_ways =
          ranked_count c l js (long ∙ sym sized) (λ z h. let k : z < n = omega (arith, sized) in omega (arith, within z k, top_is z k)) (omega (arith, sized, R.few.few))

  -- how many rows of the same intervals are allowed, as a sum over ranks
  ways_total : (js : List ℕ) → ways s l js ≡ total (λ (ks : List ℕ). one_if (isrowb c (row js ks) && allowsb s (row js ks))) (rank_lists c js)
  unfolding ways ranked_rows
  ways_total js = length_selected (allowsb s) (isrowb c) (row js) (rank_lists c js)

  module _ (js js' : List ℕ) (long : length js ≡ n) (long' : length js' ≡ n) (low : (z : ℕ) → z < n → kind_at z (at js z) < 3)
      (same : (z : ℕ) → z < n → kind_at z (at js z) ≡ kind_at z (at js' z)) where
    low' : (z : ℕ) → z < n → kind_at z (at js' z) < 3
    low' z h = rw (same z h) at (low z h)

    open_alike : (z : ℕ) → z < n → openb (at c z) (at js z) ≡ openb (at c z) (at js' z)
    open_alike z h =
        (kind_says (move_at s z) (at js z) (at c z) (top_is z h) (low z h)).0 ∙ ap (ltb 0) (same z h)
        ∙ sym (kind_says (move_at s z) (at js' z) (at c z) (top_is z h) (low' z h)).0

    fit_alike : (z : ℕ) → z < n → (p : ℕ) → fits_at (move_at s z) (at js z) p ≡ fits_at (move_at s z) (at js' z) p
    fit_alike z h p =
        (kind_says (move_at s z) (at js z) (at c z) (top_is z h) (low z h)).1 p
        ∙ ap (λ (k : ℕ). cond (eqb k 1) (holds (move_at s z).comparison (p + 1) (2 * (move_at s z).rank)) true) (same z h)
        ∙ sym ((kind_says (move_at s z) (at js' z) (at c z) (top_is z h) (low' z h)).1 p)

    in_range : (z : ℕ) → z < n → leb (at js z) (2 * at c z + 1) ≡ true
    in_range z h = le-leb (at js z) (2 * at c z + 1) (omega (arith, (kind_permits (move_at s z) (at js z) (low z h)).0, top_is z h))

    in_range' : (z : ℕ) → z < n → leb (at js' z) (2 * at c z + 1) ≡ true
    in_range' z h = le-leb (at js' z) (2 * at c z + 1) (omega (arith, (kind_permits (move_at s z) (at js' z) (low' z h)).0, top_is z h))

    row_alike : (ks : List ℕ) → isrowb c (row js ks) ≡ isrowb c (row js' ks)
    unfolding isrowb clockb heldb
    row_alike ks =
        rw (
          long,
          long',
          allb_same (length c) (clockb c (row js ks)) (clockb c (row js' ks)) (λ z h. let k : z < n = omega (arith, sized) in
              rw (in_range z k, in_range' z k, open_alike z k)),
        )

    ranks_alike : rank_lists c js ≡ rank_lists c js'
    ranks_alike = choices_same _ _ (length c) (λ z h. rw (open_alike z (omega (arith, sized))))

    ways_alike : ways s l js ≡ ways s l js'
    ways_alike =
        ways_total js
        ∙ total_same _ (λ (ks : List ℕ). one_if (isrowb c (row js' ks) && allowsb s (row js' ks))) (rank_lists c js)
        (λ ks m. rw (row_alike ks, placed_alike s.moves.each s.moves.ranks n js js' ks fit_alike))
        ∙ ap (total (λ (ks : List ℕ). one_if (isrowb c (row js' ks) && allowsb s (row js' ks)))) ranks_alike
        ∙ sym (ways_total js')

  ways_by_kinds : ByKinds n kind_at (ways s l)
  ways_by_kinds = record { alike = alike; none = λ js z a h e. ways_none js z h e }
    where
      alike : (js js' : List ℕ) → length js ≡ n → length js' ≡ n → ((z : ℕ) → z < n → kind_at z (at js z) ≡ kind_at z (at js' z)) → ways s l js ≡ ways s l js'
      alike js js' a b same = go (all_low n (λ (z : ℕ). kind_at z (at js z)) (λ z. kind_le (move_at s z) (at js z)))
        where
          go : ((z : ℕ) → z < n → kind_at z (at js z) < 3) ⊎ ((z : ℕ) × (z < n) × (kind_at z (at js z) ≡ 3)) → ways s l js ≡ ways s l js'
          go (inl low) = ways_alike js js' a b low same
          go (inr (z, h, e)) = ways_none js z h e ∙ sym (ways_none js' z h (sym (same z h) ∙ e))

  -- the sum over all patterns ---------------------------------------------------------------------------------------------------------

  abbrev intervals : ℕ → List ℕ
  intervals z = from 0 (2 * at c z + 2)

  rows_total : length (select (allowsb s) (rows_at c l)) ≡ total (ways s l) (choices intervals n)
  unfolding rows_at ways ranked_rows
  rows_total =
      length_gathered (allowsb s) (isrowb c) (λ (js : List ℕ). map (row js) (rank_lists c js)) (interval_lists c)
      ∙ ap (λ (i : ℕ). total (ways s l) (choices intervals i)) sized

  module _ (t : Kinds) (T : Counts s t) where
    abbrev sample : ℕ → ℕ → ℕ
    sample z d = (entry t z d).sample

    valid : (z d x : ℕ) → z < n → d < 3 → Mem x (intervals z) → kind_at z x ≡ d → kind_at z (sample z d) ≡ d
    valid z d x h k m e = (T z d h k).alike x (omega (arith, (from_out 0 (2 * at c z + 2) x m).1, top_is z h)) e

    counted : (k z : ℕ) → z < n → many (kind_at z) (digit k z) (intervals z) ≡ count_at t k z
    unfolding count_at
    counted k z h =
        let e : 2 * at c z + 2 ≡ (move_at s z).top + 1 = omega (arith, top_is z h) in
        kind_total (move_at s z) (digit k z) (2 * at c z + 2) ∙ ap (of_kind (move_at s z) (digit k z)) e ∙ sym (T z (digit k z) h (digit_low k z)).counted

    one_pattern : (k : ℕ) → pattern_times intervals kind_at sample n k * ways s l (pattern_sample intervals kind_at sample n k) ≡ pattern_rows s l t k
    unfolding pattern_rows sample_at
    one_pattern k = ap (λ (x : ℕ). x * ways s l (samples_of t n k)) (product_same n _ (count_at t k) (counted k))

    pub patterns_total : length (select (allowsb s) (rows_at c l)) ≡ sum_below (patterns n) (pattern_rows s l t)
    patterns_total =
        rows_total ∙ total_patterns n intervals kind_at sample (ways s l) (λ z x. kind_le (move_at s z) x) valid ways_by_kinds
        ∙ sum_same (patterns n) _ (pattern_rows s l t) (λ k h. one_pattern k)
