-- The same point in counts k times as fine lies in the same row. Assumes nothing.
use Prim.Native.Nat.{ℕ, ◌*◌, ◌<◌, ◌/◌}
use native.Mathlib.Nat.{mul_left_comm, mul-add, mul-sub, mul-pos, mul-lt-mul_of_pos_left, lt_of_mul-lt-mul_left, eq_of_mul-eq-mul_left, mul-le-mul_left, le_of_mul-le-mul_left}
use native.Mathlib.Omega.{arith}
use mathlib.Core.Path.{◌≡◌, sym, ◌∙◌}
use mathlib.Core.List.{List}
use mathlib.Core.Logic.{inl, inr, ◌↔◌}
use Rattle.automata.specs.Clocks.{at}
use Rattle.automata.specs.Row.{Row}
use Rattle.automata.specs.Point.{Within, part, Contains, scaled}
use Rattle.automata.proofs.Laws.Lists.{at_scaled, length_scaled}

scale_within : (k D c j x : ℕ) → 0 < k → Within D c j x → Within (k * D) c j (k * x)
scale_within k D c j x p (inl (e, q)) = inl (e, (let f = mul_left_comm k (j / 2) D in rw q f))
scale_within k D c j x p (inr (inl (o, l, u))) =
    let f = mul_left_comm k (j / 2) D in
    let l' = mul-lt-mul_of_pos_left {k = k} l p in
    let u' = mul-lt-mul_of_pos_left {k = k} u p in
    let g = mul-add k (j / 2 * D) D in
    inr (inl (o, omega arith, omega arith))
scale_within k D c j x p (inr (inr (t, l))) =
    let f = mul_left_comm k c D in
    let l' = mul-lt-mul_of_pos_left {k = k} l p in
    inr (inr (t, omega arith))

unscale_within : (k D c j x : ℕ) → 0 < k → Within (k * D) c j (k * x) → Within D c j x
unscale_within k D c j x p (inl (e, q)) = inl (e, eq_of_mul-eq-mul_left k p _ _ (q ∙ sym (mul_left_comm k (j / 2) D)))
unscale_within k D c j x p (inr (inl (o, l, u))) =
    let f = mul_left_comm k (j / 2) D in
    let g = mul-add k (j / 2 * D) D in
    inr (inl (o, lt_of_mul-lt-mul_left k (omega arith), lt_of_mul-lt-mul_left k (omega arith)))
unscale_within k D c j x p (inr (inr (t, l))) =
    let f = mul_left_comm k c D in
    inr (inr (t, lt_of_mul-lt-mul_left k (omega arith)))

pub part_scale : (k D j x : ℕ) → part (k * D) j (k * x) ≡ k * part D j x
part_scale k D j x = rw (mul-sub, mul_left_comm k (j / 2) D)

-- SCALING
pub scaling : (k : ℕ) → 0 < k → (c : List ℕ) (D : ℕ) (v : List ℕ) (r : Row) → Contains c D v r ↔ Contains c (k * D) (scaled k v) r
scaling k p c D v r = (up, down)
  where
    up : Contains c D v r → Contains c (k * D) (scaled k v) r
    up i = record {
      positive = mul-pos p i.positive;
      sized = length_scaled k v ∙ i.sized;
      within = λ z h. rw (at_scaled k v z) (scale_within k D _ _ _ p (i.within z h));
      ordered = λ z w hz hw oz ow.
          let o = i.ordered z w hz hw oz ow in
          rw (at_scaled k v z, at_scaled k v w, part_scale k D (at r.intervals z) (at v z), part_scale k D (at r.intervals w) (at v w))
          (λ q. mul-le-mul_left k (o.0 q), λ q. o.1 (le_of_mul-le-mul_left q p));
    }

    down : Contains c (k * D) (scaled k v) r → Contains c D v r
    down i = record {
      positive = lt_of_mul-lt-mul_left k (omega (arith, i.positive));
      sized = sym (length_scaled k v) ∙ i.sized;
      within = λ z h. unscale_within k D _ _ _ p (rw (at_scaled k v z) at (i.within z h));
      ordered = λ z w hz hw oz ow.
          let o = rw (at_scaled k v z, at_scaled k v w, part_scale k D (at r.intervals z) (at v z), part_scale k D (at r.intervals w) (at v w)) at (i.ordered z w hz hw oz ow) in
          (λ q. le_of_mul-le-mul_left (o.0 q) p, λ q. o.1 (mul-le-mul_left k q));
    }
