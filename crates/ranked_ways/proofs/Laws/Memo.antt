-- What is remembered of rankings. Assumes nothing.
use Prim.Native.Nat.{ℕ, zero, suc, ◌+◌, ◌*◌, ◌≤◌, ◌<◌}
use native.Mathlib.Decide.{ℕ_discrete}
use native.Mathlib.Omega.{arith}
use mathlib.Core.Path.{◌≡◌, refl, sym, ap, subst, ◌∙◌}
use mathlib.Core.Bool.{Bool, true, false, cond, not, ◌&&◌, ◌||◌}
use mathlib.Core.Logic.{◌⊎◌, inl, inr}
use mathlib.Core.List.{List, []}
use lib.ListN.{length, get_or, take, set, replicate, length-set, length-replicate}
use lib.Dec.{eqb, leb}
use lib.Seq.{get_or-set_same, get_or-set_other, set-get_or}
use borrow.Author.Tests.{eq-eqb, ne_eqb}
use Rattle.automata.specs.Clocks.{at, allb, greatest, one_if}
use Rattle.automata.specs.Comparison.{holds}
use Rattle.regions.specs.Move.{fits_at, permitsb}
use Rattle.regions.specs.Placing.{still, clock_fits_at, rank_fits_at, greedy_at, placed_at}
use Rattle.regions.specs.declared.clock_move.Move.{Move}
use Rattle.regions.specs.declared.region.Region.{Region}
use Rattle.rankings.specs.Ranking.{weight, pattern}
use Rattle.rankings.specs.Table.{table}
use Rattle.rankings.proofs.Laws.Ranking.{pattern_less, pattern_low}
use Rattle.regions.specs.Values.{row_of}
use Rattle.edge_walk.specs.Choice.{allowsb}
use Rattle.edge_walk.specs.declared.search.Search.{Search}
use Rattle.ranked_ways.specs.Allowed.{partedb, parted_at, Permitted}
use Rattle.ranked_ways.specs.Memo.{rank_fits_by, placed_by, memo_place, Remembers, marked, Kept}
use Rattle.automata.proofs.Laws.Tests.{true_or_false, and_law, not_law}
use Rattle.automata.proofs.Laws.Lists.{zeros}
use Rattle.regions.proofs.Laws.Move.{by_partsb, fits_parts}
use Rattle.regions.proofs.Laws.Placing.{allb_same}
use Rattle.edge_walk.proofs.Laws.Allowing.{placed_everywhere, placed_first}
use Rattle.ranked_ways.proofs.Laws.Allowed.{loose_fits}

-- which rankings are allowed -----------------------------------------------------------------------------------------------------

-- where the order is that of the parts
parted_fits : (m : Move) (j p : ℕ) → partedb m j ≡ true → holds m.comparison (p + 1) (2 * m.rank) ≡ fits_at m j p
unfolding partedb
parted_fits m j p t =
    let (a, b) = (and_law (not (eqb j m.top)) (by_partsb m j) (not_law (eqb j m.top)) (λ (h : by_partsb m j ≡ true). h, λ (h : by_partsb m j ≡ true). h)).0 t in
    fits_parts m j p (rw a) b

-- one clock: at an interval that is permitted
fits_flag : (m : Move) (j p : ℕ) → permitsb m j ≡ true → fits_at m j p ≡ (not (partedb m j) || holds m.comparison (p + 1) (2 * m.rank))
fits_flag m j p h = go (true_or_false (partedb m j))
  where
    go : (partedb m j ≡ true) ⊎ (partedb m j ≡ false) → fits_at m j p ≡ (not (partedb m j) || holds m.comparison (p + 1) (2 * m.rank))
    go (inr f) = rw f (loose_fits m j p h f)
    go (inl t) = rw t (sym (parted_fits m j p t))

-- all clocks
module _ (ms : List Move) (g n : ℕ) (js ks : List ℕ) (f : ℕ → Bool) (permitted : (z : ℕ) → z < n → permitsb (get_or ms z still) (at js z) ≡ true)
    (e : (z : ℕ) → z < n → partedb (get_or ms z still) (at js z) ≡ f z) where
  tests_same : (a p : ℕ) → rank_fits_at ms n js ks a p ≡ rank_fits_by ms n f ks a p
  unfolding rank_fits_at rank_fits_by
  tests_same a p =
      allb_same n (clock_fits_at ms js ks a p) (λ (z : ℕ). not (eqb (at ks z) a) || (not (f z) || holds (get_or ms z still).comparison (p + 1) (2 * (get_or ms z still).rank)))
      (λ z l. ap (λ (b : Bool). not (eqb (at ks z) a) || b) (fits_flag (get_or ms z still) (at js z) p (permitted z l) ∙ ap (λ (b : Bool). not b || holds (get_or ms z still).comparison (p + 1) (2 * (get_or ms z still).rank)) (e z l)))

  pub placed_flags : placed_at ms g n js ks ≡ placed_by ms g n f ks
  unfolding placed_at placed_by
  placed_flags =
      let same : rank_fits_at ms n js ks ≡ rank_fits_by ms n f ks = λ i a p. tests_same a p i in
      ap (λ (t : ℕ → ℕ → Bool). t 0 0 && leb (greedy_at t g (greatest (take n ks))) (2 * g)) same

-- the same clocks go by the parts
pub flags_same : (ms : List Move) (g n : ℕ) (f h : ℕ → Bool) (ks : List ℕ) → ((z : ℕ) → z < n → f z ≡ h z) → placed_by ms g n f ks ≡ placed_by ms g n h ks
unfolding placed_by rank_fits_by
flags_same ms g n f h ks e =
    ap (λ (t : ℕ → ℕ → Bool). t 0 0 && leb (greedy_at t g (greatest (take n ks))) (2 * g)) same
  where
    test : (ℕ → Bool) → ℕ → ℕ → ℕ → Bool
    test f a p z = not (eqb (at ks z) a) || (not (f z) || holds (get_or ms z still).comparison (p + 1) (2 * (get_or ms z still).rank))

    tests : (ℕ → Bool) → ℕ → ℕ → Bool
    tests f a p = allb n (test f a p)

    same : tests f ≡ tests h
    same = λ i a p. allb_same n (test f a p) (test h a p) (λ z l. ap (λ (b : Bool). not (eqb (at ks z) a) || (not b || holds (get_or ms z still).comparison (p + 1) (2 * (get_or ms z still).rank))) (e z l)) i

-- the number of clocks tells which they are
pattern_tells : (f h : ℕ → Bool) (n : ℕ) → pattern f n ≡ pattern h n → (z : ℕ) → z < n → f z ≡ h z
unfolding pattern
pattern_tells f h zero e z l = absurd (omega arith)
pattern_tells f h (suc n) e z l = split (ℕ_discrete z n) (both (f n) (h n) e) (pattern_tells f h n (both (f n) (h n) e).0 z)
  where
    both : (a b : Bool) → pattern f n + cond a (weight n) 0 ≡ pattern h n + cond b (weight n) 0 → (pattern f n ≡ pattern h n) × (a ≡ b)
    both true true e = (omega arith, refl)
    both false false e = (omega arith, refl)
    both true false e = absurd (omega (arith, pattern_less h n))
    both false true e = absurd (omega (arith, pattern_less f n))

    split : Dec (z ≡ n) → (pattern f n ≡ pattern h n) × (f n ≡ h n) → (z < n → f z ≡ h z) → f z ≡ h z
    split (yes d) (_, q) before = rw d q
    split (no d) t before = before (omega arith)

pattern_none : (n : ℕ) → pattern (λ (z : ℕ). false) n ≡ 0
unfolding pattern
pattern_none zero = refl
pattern_none (suc n) = rw (pattern_none n)

-- where no clock goes by the parts
pub none_parted : (f : ℕ → Bool) (n : ℕ) → pattern f n ≡ 0 → (z : ℕ) → z < n → f z ≡ false
none_parted f n e = pattern_tells f (λ (z : ℕ). false) n (e ∙ sym (pattern_none n))

-- what is remembered -------------------------------------------------------------------------------------------------------------

module _ (ms : List Move) (g n : ℕ) where
  pub nothing_yet : (k : ℕ) → Remembers ms g n (replicate k 0)
  nothing_yet k f i h = (λ e. absurd (omega (arith, zeros k (memo_place n f i))), λ e. absurd (omega (arith, zeros k (memo_place n f i))))

  module _ (memo : List ℕ) (R : Remembers ms g n memo) (h : ℕ → Bool) (j : ℕ) (l : j < 150) (there : memo_place n h j < length memo) (b : Bool)
      (e : b ≡ placed_by ms g n h (get_or table j [])) where
    one_more : Remembers ms g n (set memo (memo_place n h j) (1 + one_if b))
    one_more f i k = go (ℕ_discrete (memo_place n f i) (memo_place n h j))
      where
        told : (b : Bool) → b ≡ placed_by ms g n f (get_or table i [])
            → (1 + one_if b ≡ 1 → placed_by ms g n f (get_or table i []) ≡ false) × (1 + one_if b ≡ 2 → placed_by ms g n f (get_or table i []) ≡ true)
        told true q = (λ d. absurd (omega arith), λ d. sym q)
        told false q = (λ d. sym q, λ d. absurd (omega arith))

        go : Dec (memo_place n f i ≡ memo_place n h j)
            → (at (set memo (memo_place n h j) (1 + one_if b)) (memo_place n f i) ≡ 1 → placed_by ms g n f (get_or table i []) ≡ false)
            × (at (set memo (memo_place n h j) (1 + one_if b)) (memo_place n f i) ≡ 2 → placed_by ms g n f (get_or table i []) ≡ true)
        go (yes d) =
            let q : pattern h n ≡ pattern f n = omega arith in
            let p : j ≡ i = omega arith in
            rw (d, get_or-set_same memo (memo_place n h j) (1 + one_if b) 0 there)
            (told b (e ∙ flags_same ms g n h f (get_or table j []) (pattern_tells h f n q) ∙ ap (λ (x : ℕ). placed_by ms g n f (get_or table x [])) p))
        go (no d) = rw (get_or-set_other memo (memo_place n h j) (memo_place n f i) (1 + one_if b) 0 d) (R f i k)

    pub still_remembers : (parts : ℕ) → Remembers ms g n (marked parts (memo_place n h j) b memo)
    still_remembers zero = R
    still_remembers (suc k) = rw (ne_eqb (suc k) 0 (λ d. omega arith)) one_more

pub marked_length : (parts place : ℕ) (b : Bool) (memo : List ℕ) → length (marked parts place b memo) ≡ length memo
marked_length zero place b memo = refl
marked_length (suc k) place b memo = rw (ne_eqb (suc k) 0 (λ d. omega arith)) (length-set memo place (1 + one_if b))

-- the code's steps ---------------------------------------------------------------------------------------------------------------

module _ (parts place : ℕ) (b : Bool) (memo : List ℕ) where
  pub marked_none : parts ≡ 0 → memo ≡ marked parts place b memo
  marked_none e = rw (eq-eqb parts 0 e)

  pub marked_known : (parts ≡ 0 → ⊥) → at memo place ≡ 1 + one_if b → memo ≡ marked parts place b memo
  marked_known f e = rw (ne_eqb parts 0 f) (sym (ap (λ (k : ℕ). set memo place k) (sym e) ∙ set-get_or memo place 0))

  pub marked_new : (parts ≡ 0 → ⊥) → (k : ℕ) → k ≡ 1 + one_if b → set memo place k ≡ marked parts place b memo
  marked_new f k e = rw (ne_eqb parts 0 f, e)

-- one ranking of a part is asked
module _ (s : Search) (part region : Region) (memo : List ℕ) (K : Kept s memo) (few : s.clocks.count ≤ 4) (parts i : ℕ) (permitted : Permitted s part)
    (e : parts ≡ pattern (parted_at s.moves.each part) s.clocks.count) (l : i < 150) (q : region.intervals ≡ part.intervals) (t : region.ranks ≡ get_or table i []) where
  abbrev n : ℕ
  n = s.clocks.count

  abbrev flag : ℕ → Bool
  flag = parted_at s.moves.each part

  abbrev placed : Bool
  placed = placed_at s.moves.each s.moves.ranks n region.intervals region.ranks

  placed_is : placed ≡ placed_by s.moves.each s.moves.ranks n flag (get_or table i [])
  placed_is =
      placed_flags s.moves.each s.moves.ranks n region.intervals region.ranks flag (λ z h. rw q (permitted z h)) (λ z h. ap (λ (us : List ℕ). partedb (get_or s.moves.each z still) (at us z)) q)
      ∙ ap (placed_by s.moves.each s.moves.ranks n flag) t

  pub parts_low : parts < 16
  parts_low = omega (arith, e, pattern_low flag n few)

  pub place_in : parts * 150 + i < length memo
  place_in = omega (arith, parts_low, K.long)

  pub free_known : parts ≡ 0 → placed ≡ true
  free_known d =
      placed_everywhere s.moves.each s.moves.ranks n region.intervals region.ranks
      (λ z h p. rw q (loose_fits (get_or s.moves.each z still) (at part.intervals z) p (permitted z h) (none_parted flag n (sym e ∙ d) z h)))

  pub one_known : at memo (parts * 150 + i) ≡ 1 → placed ≡ false
  one_known d = placed_is ∙ (K.remembers flag i l).0 (ap (λ (k : ℕ). at memo (k * 150 + i)) (sym e) ∙ d)

  pub two_known : at memo (parts * 150 + i) ≡ 2 → placed ≡ true
  two_known d = placed_is ∙ (K.remembers flag i l).1 (ap (λ (k : ℕ). at memo (k * 150 + i)) (sym e) ∙ d)

  pub allowed_is : (b : Bool) → b ≡ placed → b ≡ allowsb s (row_of n region)
  allowed_is b d = d ∙ placed_first s.moves.each s.moves.ranks n region.intervals region.ranks

  pub kept_on : (b : Bool) → b ≡ placed → (after : List ℕ) → after ≡ marked parts (parts * 150 + i) b memo → Kept s after
  kept_on b d after g = rw g (record {
    remembers =
        subst (λ (k : ℕ). Remembers s.moves.each s.moves.ranks n (marked parts (k * 150 + i) b memo)) (sym e)
        (still_remembers s.moves.each s.moves.ranks n memo K.remembers flag i l (subst (λ (k : ℕ). k * 150 + i < length memo) e place_in) b (d ∙ placed_is) parts);
    long = marked_length parts (parts * 150 + i) b memo ∙ K.long;
  })

-- zeros remember nothing
pub kept_none : (s : Search) → Kept s (replicate 2400 0)
kept_none s = record { remembers = nothing_yet s.moves.each s.moves.ranks s.clocks.count 2400; long = length-replicate {A = ℕ} 2400 0 }
