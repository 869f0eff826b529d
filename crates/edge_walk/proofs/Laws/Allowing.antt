-- Whether moves allow a row, as far as the intervals tell. Assumes nothing.
use Prim.Native.Nat.{ℕ, zero, suc, ◌+◌, ◌*◌, ◌≤◌, ◌<◌}
use native.Mathlib.Decide.{ℕ_discrete}
use native.Mathlib.Omega.{arith}
use mathlib.Core.Path.{◌≡◌, refl, sym, ap, ◌∙◌}
use mathlib.Core.Bool.{Bool, true, false, not, ◌||◌}
use mathlib.Core.List.{List}
use lib.ListN.{get_or, take}
use lib.Dec.{eqb}
use borrow.Author.Tests.{le-leb}
use Rattle.automata.specs.Clocks.{at, greatest}
use Rattle.automata.proofs.Laws.Tests.{fails, never, allb_law}
use Rattle.regions.specs.Move.{fits_at, permitsb}
use Rattle.regions.specs.Placing.{still, clock_fits_at, rank_fits_at, greedy_at, placed_at}
use Rattle.regions.specs.declared.clock_move.Move.{Move}
use Rattle.regions.proofs.Laws.Move.{freeb, by_partsb, fits_free, fits_fixed, permits_free, permits_fixed}
use Rattle.regions.proofs.Laws.Least.{least_here}
use Rattle.regions.proofs.Laws.Placing.{placed_permits, placed_less}
use Rattle.regions.proofs.Laws.Values.{at_take}

-- where the order is not that of the parts, an interval that is permitted fits wherever the part is
fits_anywhere : (m : Move) (j p : ℕ) → by_partsb m j ≡ false → permitsb m j ≡ true → fits_at m j p ≡ true
fits_anywhere m j p n h = go (freeb m j) refl
  where
    go : (b : Bool) → freeb m j ≡ b → fits_at m j p ≡ true
    go true a = sym (fits_free m j p a) ∙ permits_free m j a ∙ h
    go false a = sym (fits_fixed m j p a n) ∙ permits_fixed m j a n ∙ h

module _ (ms : List Move) (g n : ℕ) (js ks : List ℕ) where
  abbrev pub permitted : ℕ → Bool
  permitted z = permitsb (get_or ms z still) (at js z)

  abbrev pub by_parts : ℕ → Bool
  by_parts z = by_partsb (get_or ms z still) (at js z)

  -- what fits everywhere is placed, each rank at the first position
  module _ (h : (z : ℕ) → z < n → (p : ℕ) → fits_at (get_or ms z still) (at js z) p ≡ true) where
    all_fit : (a p : ℕ) → rank_fits_at ms n js ks a p ≡ true
    unfolding rank_fits_at
    all_fit a p = (allb_law n (clock_fits_at ms js ks a p) (λ z. (λ e. e, λ e. e))).1 (λ z l. rw (h z l p) (or_true (not (eqb (at ks z) a))))
      where
        or_true : (b : Bool) → (b || true) ≡ true
        or_true true = refl
        or_true false = refl

    at_first : (a : ℕ) → greedy_at (rank_fits_at ms n js ks) g a ≡ 0
    unfolding greedy_at
    at_first zero = refl
    at_first (suc a) = rw (at_first a) (least_here (rank_fits_at ms n js ks (suc a)) (2 * g + 1) 0 (omega arith) (all_fit (suc a) 0))

    pub placed_everywhere : placed_at ms g n js ks ≡ true
    unfolding placed_at
    placed_everywhere = rw (all_fit 0 0, at_first (greatest (take n ks))) (le-leb 0 (2 * g) (omega arith))

  -- the first n numbers alone are looked at
  pub placed_first : placed_at ms g n js ks ≡ placed_at ms g n (take n js) (take n ks)
  placed_first = alike (placed_at ms g n js ks) (placed_at ms g n (take n js) (take n ks))
      (placed_less ms g n n js ks (take n js) (take n ks) (omega arith) (λ z l. (sym (at_take n js z l), sym (at_take n ks z l))))
      (placed_less ms g n n (take n js) (take n ks) js ks (omega arith) (λ z l. (at_take n js z l, at_take n ks z l)))
    where
      alike : (a b : Bool) → (a ≡ true → b ≡ true) → (b ≡ true → a ≡ true) → a ≡ b
      alike true b f h = sym (f refl)
      alike false true f h = h refl
      alike false false f h = refl

  -- the first z intervals are permitted, and if none of so many is seen to go by the parts, none does
  pub record AllowsTo (z : ℕ) (seen : Bool) : Type 0 where
    pub within : z ≤ n
    pub all : (w : ℕ) → w < z → permitted w ≡ true
    pub none : seen ≡ false → (w : ℕ) → w < z → by_parts w ≡ false

  pub allows_begins : AllowsTo 0 false
  allows_begins = record { within = omega arith; all = λ w l. absurd (omega arith); none = λ e w l. absurd (omega arith) }

  module _ (z : ℕ) (b : Bool) (A : AllowsTo z b) (l : z < n) (p : permitted z ≡ true) where
    all_on : (w : ℕ) → w < z + 1 → permitted w ≡ true
    all_on w h = go (ℕ_discrete w z)
      where
        go : Dec (w ≡ z) → permitted w ≡ true
        go (yes e) = rw e p
        go (no e) = A.all w (omega arith)

    pub allows_parts : AllowsTo (z + 1) true
    allows_parts = record { within = omega arith; all = all_on; none = λ e. never (sym e) }

    pub allows_on : by_parts z ≡ false → AllowsTo (z + 1) b
    allows_on q = record { within = omega arith; all = all_on; none = λ e w h. go e w h (ℕ_discrete w z) }
      where
        go : b ≡ false → (w : ℕ) → w < z + 1 → Dec (w ≡ z) → by_parts w ≡ false
        go e w h (yes d) = rw d q
        go e w h (no d) = A.none e w (omega arith)

  pub allows_free : (z : ℕ) → AllowsTo z false → n ≤ z → true ≡ placed_at ms g n (take n js) (take n ks)
  allows_free z A l =
      sym (sym placed_first ∙ placed_everywhere (λ w h p. fits_anywhere (get_or ms w still) (at js w) p (A.none refl w (omega arith)) (A.all w (omega arith))))

  pub allows_not : (z : ℕ) → z < n → permitted z ≡ false → false ≡ placed_at ms g n (take n js) (take n ks)
  allows_not z l h =
      sym (sym placed_first ∙ fails (placed_at ms g n js ks) (λ e. e, λ e. e) (λ e. never (sym h ∙ placed_permits ms g n js ks e z l)))
