-- How many of 1 .. n pass a test: it grows with n, by one at each that passes, and leaves no number out; how the counts of two tests differ.
-- Assumes nothing.
use Prim.Native.Nat.{ℕ, zero, suc, ◌+◌, ◌≤◌, ◌<◌}
use native.Mathlib.Nat.{le_of_suc-le-suc}
use native.Mathlib.Decide.{dec_le, ℕ_discrete}
use native.Mathlib.Omega.{arith}
use mathlib.Core.Path.{◌≡◌, refl}
use mathlib.Core.Bool.{Bool, true, false}
use mathlib.Core.Logic.{◌↔◌}
use Rattle.automata.specs.Clocks.{one_if, count}

pub one_le : (b : Bool) → one_if b ≤ 1
one_le true = omega arith
one_le false = omega arith

pub count_mono : (f : ℕ → Bool) (m n : ℕ) → m ≤ n → count f m ≤ count f n
count_mono f m zero h = let e : m ≡ 0 = omega arith in rw e (omega arith)
count_mono f m (suc n) h = go (dec_le m n) (count_mono f m n)
  where
    go : Dec (m ≤ n) → (m ≤ n → count f m ≤ count f n) → count f m ≤ count f (suc n)
    go (yes l) ih = let i = ih l in omega arith
    go (no l) ih = let e : m ≡ suc n = omega arith in rw e (omega arith)

pub count_less : (f : ℕ → Bool) (m n : ℕ) → m < n → f n ≡ true → count f m < count f n
count_less f m zero h e = absurd (omega arith)
count_less f m (suc n) h e = let i = count_mono f m n (le_of_suc-le-suc h) in rw e (omega arith)

-- every count up to count f n is that of a number that passes
pub count_dense : (f : ℕ → Bool) (n k : ℕ) → 0 < k → k ≤ count f n → (m : ℕ) × (f m ≡ true) × (count f m ≡ k)
count_dense f zero k p h = absurd (omega arith)
count_dense f (suc n) k p h = go (dec_le k (count f n)) (f (suc n)) refl (count_dense f n k p)
  where
    go : Dec (k ≤ count f n) → (b : Bool) → f (suc n) ≡ b → (k ≤ count f n → (m : ℕ) × (f m ≡ true) × (count f m ≡ k)) → (m : ℕ) × (f m ≡ true) × (count f m ≡ k)
    go (yes l) b e ih = ih l
    go (no l) true e ih = let h' : k ≤ count f n + 1 = rw e at h in (suc n, e, rw e (omega arith))
    go (no l) false e ih = let h' : k ≤ count f n + 0 = rw e at h in absurd (omega arith)

-- no more pass than there are
pub count_le : (f : ℕ → Bool) (n : ℕ) → count f n ≤ n
count_le f zero = omega arith
count_le f (suc n) = omega (arith, count_le f n, one_le (f (suc n)))

-- of two numbers that pass, the counts tell the order
pub count_order : (f : ℕ → Bool) (a b : ℕ) → f a ≡ true → (count f a ≤ count f b) ↔ (a ≤ b)
count_order f a b e = (λ h. go h (dec_le a b), count_mono f a b)
  where
    go : count f a ≤ count f b → Dec (a ≤ b) → a ≤ b
    go h (yes l) = l
    go h (no l) = let q = count_less f b a (omega arith) e in absurd (omega arith)

-- all pass
pub count_all : (f : ℕ → Bool) (n : ℕ) → ((a : ℕ) → 0 < a → a ≤ n → f a ≡ true) → count f n ≡ n
count_all f zero h = refl
count_all f (suc n) h = let i = count_all f n (λ a p l. h a p (omega arith)) in rw (h (suc n) (omega arith) (omega arith)) (omega arith)

-- tests that agree from 1 to n count alike
pub count_same : (f g : ℕ → Bool) (n : ℕ) → ((a : ℕ) → 0 < a → a ≤ n → f a ≡ g a) → count f n ≡ count g n
count_same f g zero h = refl
count_same f g (suc n) h = rw (count_same f g n (λ a p l. h a p (omega arith)), h (suc n) (omega arith) (omega arith))

-- tests that agree but at one number differ by one at most
pub count_but : (f g : ℕ → Bool) (k n : ℕ) → ((a : ℕ) → 0 < a → a ≤ n → (a ≡ k → ⊥) → f a ≡ g a) → count f n ≤ count g n + 1
count_but f g k zero h = omega arith
count_but f g k (suc n) h = go (ℕ_discrete (suc n) k) (count_but f g k n (λ a p l. h a p (omega arith)))
  where
    go : Dec (suc n ≡ k) → count f n ≤ count g n + 1 → count f (suc n) ≤ count g (suc n) + 1
    go (yes e) i = omega (arith, count_same f g n (λ a p l. h a p (omega arith) (λ q. omega arith)), one_le (f (suc n)))
    go (no e) i = rw (h (suc n) (omega arith) (omega arith) e) (omega arith)
