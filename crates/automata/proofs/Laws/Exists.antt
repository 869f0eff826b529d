-- Every point lies in a row. The rank of an open clock is the number of parts from 1 to its own that some open clock has. Assumes nothing.
use Prim.Native.Nat.{ℕ, ◌+◌, ◌*◌, ◌≤◌, ◌<◌, ◌%◌, ◌/◌}
use native.Mathlib.Nat.{div-add-mod', mod-lt, le_of_mul-le-mul_right, lt_of_mul-lt-mul_right}
use native.Mathlib.Decide.{dec_le}
use native.Mathlib.Omega.{arith}
use mathlib.Core.Path.{◌≡◌, refl, ap, ◌∙◌}
use mathlib.Core.Bool.{Bool, true, false, cond}
use mathlib.Core.List.{List}
use mathlib.Core.Logic.{inl, inr}
use lib.ListN.{length}
use lib.Dec.{eqb, ltb}
use borrow.Author.Tests.{ltb-true, ltb-false, eqb-true, eqb-false}
use Rattle.automata.specs.Clocks.{at, each, someb, count}
use Rattle.automata.specs.Row.{Row, Open, IsRow}
use Rattle.automata.specs.Point.{Within, part, Contains}
use Rattle.automata.specs.Rows.{openb}
use Rattle.automata.proofs.Laws.Tests.{Says, fails, eqb_law, someb_law}
use Rattle.automata.proofs.Laws.Count.{count_mono, count_less, count_dense}
use Rattle.automata.proofs.Laws.Lists.{length_each, at_each}
use Rattle.automata.proofs.Laws.Clocks.{openb_law, within_range, within_open, begins}

-- intervals ---------------------------------------------------------------------------------------------------------------------

unfoldable pub interval : ℕ → ℕ → ℕ → ℕ
interval D c x = cond (ltb (c * D) x) (2 * c + 1) (cond (eqb (x % D) 0) (2 * (x / D)) (2 * (x / D) + 1))

pub interval_within : (D c x : ℕ) → 0 < D → Within D c (interval D c x) x
unfolding interval
interval_within D c x p = go (ltb (c * D) x) refl
  where
    whole : x ≤ c * D → x % D ≡ 0 → Within D c (2 * (x / D)) x
    whole b e =
        let s = div-add-mod' x D in
        let f = begins D (2 * (x / D)) (x / D) (omega arith) in
        let l : x / D ≤ c = le_of_mul-le-mul_right {k = D} (omega arith) p in
        inl (omega arith, omega arith)

    between : x ≤ c * D → (x % D ≡ 0 → ⊥) → Within D c (2 * (x / D) + 1) x
    between b e =
        let s = div-add-mod' x D in
        let m = mod-lt x {m = D} p in
        let f = begins D (2 * (x / D) + 1) (x / D) (omega arith) in
        let l : x / D < c = lt_of_mul-lt-mul_right D (omega arith) in
        inr (inl (omega arith, omega arith, omega arith))

    go' : x ≤ c * D → (b : Bool) → eqb (x % D) 0 ≡ b → Within D c (cond b (2 * (x / D)) (2 * (x / D) + 1)) x
    go' l true e = whole l (eqb-true (x % D) 0 e)
    go' l false e = between l (eqb-false (x % D) 0 e)

    go : (b : Bool) → ltb (c * D) x ≡ b → Within D c (cond b (2 * c + 1) (cond (eqb (x % D) 0) (2 * (x / D)) (2 * (x / D) + 1))) x
    go true e = inr (inr (refl, ltb-true (c * D) x e))
    go false e = go' (ltb-false (c * D) x e) (eqb (x % D) 0) refl

-- the row -----------------------------------------------------------------------------------------------------------------------

-- the interval of a point's clock, and its part where that is open, else 0
module _ (D : ℕ) (c : List ℕ) (v : List ℕ) where
  unfoldable pub interval_of : ℕ → ℕ
  interval_of z = interval D (at c z) (at v z)

  unfoldable pub part_of : ℕ → ℕ
  part_of z = cond (openb (at c z) (interval_of z)) (part D (interval_of z) (at v z)) 0

  -- some clock has the part x
  unfoldable pub part_held : ℕ → Bool
  part_held x = someb (length c) (λ (w : ℕ). eqb (part_of w) x)

  part_held_law : (x : ℕ) → Says (part_held x) ((w : ℕ) × (w < length c) × (part_of w ≡ x))
  unfolding part_held
  part_held_law x = someb_law (length c) (λ (w : ℕ). eqb (part_of w) x) (λ w. eqb_law (part_of w) x)

  part_of_open : (z : ℕ) → Open (at c z) (interval_of z) → part_of z ≡ part D (interval_of z) (at v z)
  unfolding part_of
  part_of_open z o = rw ((openb_law (at c z) (interval_of z)).1 o)

  part_of_shut : (z : ℕ) → (Open (at c z) (interval_of z) → ⊥) → part_of z ≡ 0
  unfolding part_of
  part_of_shut z n = rw (fails (openb (at c z) (interval_of z)) (openb_law (at c z) (interval_of z)) n)

  rank_of : ℕ → ℕ
  rank_of z = count part_held (part_of z)

  pub row_of : ℕ → Row
  row_of l = record { location = l; intervals = each (length c) interval_of; ranks = each (length c) rank_of }

module _ (c : List ℕ) (D : ℕ) (v : List ℕ) (l : ℕ) (positive : 0 < D) (size : length v ≡ length c) where
  abbrev J : ℕ → ℕ
  J = interval_of D c v

  abbrev P : ℕ → ℕ
  P = part_of D c v

  abbrev K : ℕ → ℕ
  K = rank_of D c v

  abbrev R : Row
  R = row_of D c v l

  at_interval : (z : ℕ) → z < length c → at R.intervals z ≡ J z
  unfolding row_of
  at_interval z h = at_each (length c) (interval_of D c v) z h

  at_rank : (z : ℕ) → z < length c → at R.ranks z ≡ K z
  unfolding row_of
  at_rank z h = at_each (length c) (rank_of D c v) z h

  within' : (z : ℕ) → Within D (at c z) (J z) (at v z)
  unfolding interval_of
  within' z = interval_within D (at c z) (at v z) positive

  part_positive : (z : ℕ) → Open (at c z) (J z) → 0 < P z
  part_positive z o = let e = part_of_open D c v z o in let b = within_open D _ _ _ (within' z) o in omega arith

  rank_up : (z w : ℕ) → P z ≤ P w → K z ≤ K w
  unfolding rank_of
  rank_up z w h = count_mono (part_held D c v) (P z) (P w) h

  rank_below : (z w : ℕ) → w < length c → P z < P w → K z < K w
  unfolding rank_of
  rank_below z w h s = count_less (part_held D c v) (P z) (P w) s ((part_held_law D c v (P w)).1 (w, h, refl))

  rank_some : (z : ℕ) → z < length c → 0 < P z → 0 < K z
  unfolding rank_of
  rank_some z h s = let q = count_less (part_held D c v) 0 (P z) s ((part_held_law D c v (P z)).1 (z, h, refl)) in omega arith

  rank_dense : (z k : ℕ) → 0 < k → k < K z → (w : ℕ) × (w < length c) × (K w ≡ k)
  unfolding rank_of
  rank_dense z k p q =
      let (m, e, s) = count_dense (part_held D c v) (P z) k p (omega arith) in
      let (w, h, t) = (part_held_law D c v m).0 e in
      (w, h, ap (count (part_held D c v)) t ∙ s)

  -- EXISTENCE
  pub row_of_row : IsRow c R
  unfolding row_of rank_of
  row_of_row = record {
    intervals_length = length_each (length c) (interval_of D c v);
    ranks_length = length_each (length c) (rank_of D c v);
    in_range = λ z h. rw (at_interval z h) (within_range D (at c z) (J z) (at v z) (within' z));
    rank_open = λ z h o. rw (at_rank z h) (rank_some z h (part_positive z (rw (at_interval z h) at o)));
    rank_shut = λ z h n. at_rank z h ∙ shut z (λ o. n (rw (at_interval z h) o));
    dense = λ z k h p q. let (w, i, e) = rank_dense z k p (omega (arith, at_rank z h)) in (w, i, at_rank w i ∙ e);
  }
    where
      shut : (z : ℕ) → (Open (at c z) (J z) → ⊥) → K z ≡ 0
      shut z n = ap (count (part_held D c v)) (part_of_shut D c v z n)

  pub row_of_contains : Contains c D v R
  row_of_contains = record {
    positive = positive;
    sized = size;
    within = λ z h. rw (at_interval z h) (within' z);
    ordered = λ z w hz hw oz ow.
        let pz : P z ≡ part D (J z) (at v z) = part_of_open D c v z (rw (at_interval z hz) at oz) in
        let pw : P w ≡ part D (J w) (at v w) = part_of_open D c v w (rw (at_interval w hw) at ow) in
        rw (at_rank z hz, at_rank w hw, at_interval z hz, at_interval w hw, ← pz, ← pw) (λ q. down z w hz q (dec_le (P z) (P w)), λ q. rank_up z w q);
  }
    where
      down : (z w : ℕ) → z < length c → K z ≤ K w → Dec (P z ≤ P w) → P z ≤ P w
      down z w h s (yes q) = q
      down z w h s (no q) = let t = rank_below w z h (omega arith) in absurd (omega arith)

pub existence : (c : List ℕ) (D : ℕ) (v : List ℕ) (l : ℕ) → 0 < D → length v ≡ length c → (r : Row) × (r.location ≡ l) × IsRow c r × Contains c D v r
unfolding row_of
existence c D v l p s = (row_of D c v l, refl, row_of_row c D v l p s, row_of_contains c D v l p s)
