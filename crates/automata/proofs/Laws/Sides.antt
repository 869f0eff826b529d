-- What the interval says of a value, and the order of two values with offsets. Assumes nothing.
use Prim.Native.Nat.{ℕ, ◌+◌, ◌*◌, ◌≤◌, ◌<◌, ◌%◌, ◌/◌, compare}
use native.Mathlib.Nat.{mul-le-mul_right}
use native.Mathlib.Decide.{ℕ_discrete}
use native.Mathlib.Omega.{arith}
use mathlib.Core.Path.{◌≡◌, sym, ap}
use mathlib.Core.Logic.{inl, inr}
use Rattle.automata.specs.Point.{Within, part}
use Rattle.automata.proofs.Laws.Order.{same_order}
use Rattle.automata.proofs.Laws.Clocks.{begins}

-- what every interval says of its values: where they begin, and where they end unless it is the top
pub record Sides (D c j x : ℕ) : Type 0 where
  pub low : j / 2 * D ≤ x
  pub low_odd : j % 2 ≡ 1 → j / 2 * D < x
  pub high : j ≤ 2 * c → x < j / 2 * D + D
  pub high_even : j % 2 ≡ 0 → x ≡ j / 2 * D

pub sides : (D c j x : ℕ) → 0 < D → Within D c j x → Sides D c j x
sides D c j x d (inl e) = record { low = omega arith; low_odd = λ h. omega arith; high = λ h. omega arith; high_even = λ h. omega arith }
sides D c j x d (inr (inl e)) = record { low = omega arith; low_odd = λ h. omega arith; high = λ h. omega arith; high_even = λ h. omega arith }
sides D c j x d (inr (inr e)) =
    let k = begins D j c (omega arith) in
    record { low = omega arith; low_odd = λ h. omega arith; high = λ h. omega arith; high_even = λ h. omega arith }

-- a value below the top of a lower interval lies lower
pub less : (D c c' j i a b x y : ℕ) → Sides D c j x → Sides D c' i y → j ≤ 2 * c → j + 2 * a < i + 2 * b → x + a * D < y + b * D
less D c c' j i a b x y s t n h = go (ℕ_discrete (j % 2) 0) (ℕ_discrete (i % 2) 0)
  where
    go : Dec (j % 2 ≡ 0) → Dec (i % 2 ≡ 0) → x + a * D < y + b * D
    go (yes e) (yes f) =
        let k : j / 2 + a + 1 ≤ i / 2 + b = omega arith in
        let u : x < j / 2 * D + D = s.high n in
        omega (arith, mul-le-mul_right D k, t.low)
    go (yes e) (no f) =
        let k : j / 2 + a ≤ i / 2 + b = omega arith in
        let u : x ≡ j / 2 * D = s.high_even e in
        omega (arith, mul-le-mul_right D k, t.low_odd (omega arith))
    go (no e) f =
        let k : j / 2 + a + 1 ≤ i / 2 + b = omega arith in
        let u : x < j / 2 * D + D = s.high n in
        omega (arith, mul-le-mul_right D k, t.low)

module _ (D c c' j i down up x y : ℕ) (s : Sides D c j x) (t : Sides D c' i y) (bound : c + down ≤ c' + up) where
  -- apart from the top interval and from one shared open interval, the intervals tell the order
  pub compare_fixed : j ≤ 2 * c + 1 → i ≤ 2 * c' + 1 → (j ≡ 2 * c + 1 → i + 2 * up < j + 2 * down) → (j + 2 * down ≡ i + 2 * up → j % 2 ≡ 0)
      → compare (x + down * D) (y + up * D) ≡ compare (j + 2 * down) (i + 2 * up)
  compare_fixed jr ir top shared = sym (same_order (j + 2 * down) (i + 2 * up) (x + down * D) (y + up * D) low mid high)
    where
      low : j + 2 * down < i + 2 * up → x + down * D < y + up * D
      low h = go (ℕ_discrete j (2 * c + 1))
        where
          go : Dec (j ≡ 2 * c + 1) → x + down * D < y + up * D
          go (yes k) = let z : i + 2 * up < j + 2 * down = top k in absurd (omega arith)
          go (no k) = less D c c' j i down up x y s t (omega arith) h

      mid : j + 2 * down ≡ i + 2 * up → x + down * D ≡ y + up * D
      mid h =
          let e : j % 2 ≡ 0 = shared h in
          let f : i % 2 ≡ 0 = omega arith in
          let k : j / 2 + down ≡ i / 2 + up = omega arith in
          let g : (j / 2 + down) * D ≡ (i / 2 + up) * D = ap (λ (n : ℕ). n * D) k in
          let u : x ≡ j / 2 * D = s.high_even e in
          let w : y ≡ i / 2 * D = t.high_even f in
          omega arith

      high : i + 2 * up < j + 2 * down → y + up * D < x + down * D
      high h = less D c' c i j up down y x t s (omega arith) h

  pub compare_parts : j + 2 * down ≡ i + 2 * up
      → compare (x + down * D) (y + up * D) ≡ compare (part D j x) (part D i y)
  compare_parts h = same_order (x + down * D) (y + up * D) (part D j x) (part D i y) (low) (mid) (high)
    where
      eq : (j / 2 + down) * D ≡ (i / 2 + up) * D
      eq = let k : j / 2 + down ≡ i / 2 + up = omega arith in ap (λ (n : ℕ). n * D) k

      low : x + down * D < y + up * D → part D j x < part D i y
      low l = omega (arith, eq, s.low, t.low)

      mid : x + down * D ≡ y + up * D → part D j x ≡ part D i y
      mid l = omega (arith, eq, s.low, t.low)

      high : y + up * D < x + down * D → part D i y < part D j x
      high l = omega (arith, eq, s.low, t.low)

-- the whole value k
pub whole : (D k : ℕ) → 0 < D → Sides D k (2 * k) (k * D)
whole D k d =
    let f = begins D (2 * k) k (omega arith) in
    record { low = omega arith; low_odd = λ h. omega arith; high = λ h. omega arith; high_even = λ h. omega arith }

pub compare_constant : (D c j x k : ℕ) → 0 < D → Sides D c j x → j ≤ 2 * c + 1 → k ≤ c → compare x (k * D) ≡ compare j (2 * k)
compare_constant D c j x k d s jr kc = sym (same_order j (2 * k) x (k * D) low mid high)
  where
    low : j < 2 * k → x < k * D
    low h = let g : x + 0 * D < k * D + 0 * D = less D c k j (2 * k) 0 0 x (k * D) s (whole D k d) (omega arith) (omega arith) in omega arith

    mid : j ≡ 2 * k → x ≡ k * D
    mid h =
        let f = begins D j k (omega arith) in
        let u : x ≡ j / 2 * D = s.high_even (omega arith) in
        omega arith

    high : 2 * k < j → k * D < x
    high h = let g : k * D + 0 * D < x + 0 * D = less D k c (2 * k) j 0 0 (k * D) x (whole D k d) s (omega arith) (omega arith) in omega arith
