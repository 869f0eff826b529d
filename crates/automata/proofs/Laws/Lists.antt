-- Lists clock by clock: element z of `each`, `later` and `scaled`; the greatest; a list from its elements. Assumes nothing.
use Prim.Native.Nat.{ℕ, zero, suc, ◌+◌, ◌*◌, ◌≤◌, ◌<◌}
use Rattle.automata.specs.Rows.{from}
use native.Mathlib.Nat.{le_of_suc-le-suc, mul-zero, mul-add, add-zero, add_assoc}
use native.Mathlib.Decide.{dec_le}
use native.Mathlib.Omega.{arith}
use mathlib.Core.Path.{◌≡◌, refl, sym, ap}
use mathlib.Core.List.{List, [], ◌∷◌, map}
use lib.ListN.{length, replicate, length-map}
use Rattle.automata.specs.Clocks.{at, each, greatest}
use Rattle.automata.specs.Point.{later, scaled}

pub length_each : (n : ℕ) (f : ℕ → ℕ) → length (each n f) ≡ n
length_each zero f = refl
length_each (suc n) f = ap suc (length_each n (λ (z : ℕ). f (suc z)))

pub at_each : (n : ℕ) (f : ℕ → ℕ) (z : ℕ) → z < n → at (each n f) z ≡ f z
at_each zero f z h = absurd (omega arith)
at_each (suc n) f zero h = refl
at_each (suc n) f (suc z) h = at_each n (λ (z : ℕ). f (suc z)) z (le_of_suc-le-suc h)

pub at_map : (f : ℕ → ℕ) (v : List ℕ) (z : ℕ) → z < length v → at (map f v) z ≡ f (at v z)
at_map f [] z h = absurd (omega arith)
at_map f (x ∷ v) zero h = refl
at_map f (x ∷ v) (suc z) h = at_map f v z (le_of_suc-le-suc h)

pub zeros : (n z : ℕ) → at (replicate n 0) z ≡ 0
zeros zero z = refl
zeros (suc n) zero = refl
zeros (suc n) (suc z) = zeros n z

-- a list from its elements
pub collect : (Q : ℕ → ℕ → Type 0) (n : ℕ) → ((z : ℕ) → z < n → (x : ℕ) × Q z x) → (xs : List ℕ) × (length xs ≡ n) × ((z : ℕ) → z < n → Q z (at xs z))
collect Q zero f = ([], refl, λ z h. absurd (omega arith))
collect Q (suc n) f =
    let (xs, e, q) = collect (λ (z : ℕ). Q (suc z)) n (λ z h. f (suc z) (omega arith)) in
    let (x, p) = f 0 (omega arith) in
    (x ∷ xs, ap suc e, all x xs p q)
  where
    all : (x : ℕ) (xs : List ℕ) → Q 0 x → ((z : ℕ) → z < n → Q (suc z) (at xs z)) → (z : ℕ) → z < suc n → Q z (at (x ∷ xs) z)
    all x xs p q zero h = p
    all x xs p q (suc z) h = q z (omega arith)

-- points ------------------------------------------------------------------------------------------------------------------------------

pub at_later : (t : ℕ) (v : List ℕ) (z : ℕ) → z < length v → at (later t v) z ≡ at v z + t
at_later t v z h = at_map (λ x. x + t) v z h

pub length_later : (t : ℕ) (v : List ℕ) → length (later t v) ≡ length v
length_later t v = length-map v (λ x. x + t)

pub later_zero : (v : List ℕ) → later 0 v ≡ v
later_zero [] = refl
later_zero (x ∷ v) = rw (add-zero x, later_zero v)

pub later_later : (s t : ℕ) (v : List ℕ) → later s (later t v) ≡ later (t + s) v
later_later s t [] = refl
later_later s t (x ∷ v) = rw (add_assoc x t s, later_later s t v)

pub at_scaled : (k : ℕ) (v : List ℕ) (z : ℕ) → at (scaled k v) z ≡ k * at v z
at_scaled k [] z = sym (mul-zero k)
at_scaled k (x ∷ v) zero = refl
at_scaled k (x ∷ v) (suc z) = at_scaled k v z

pub length_scaled : (k : ℕ) (v : List ℕ) → length (scaled k v) ≡ length v
length_scaled k v = length-map v (λ x. k * x)

pub scaled_later : (k t : ℕ) (v : List ℕ) → scaled k (later t v) ≡ later (k * t) (scaled k v)
scaled_later k t [] = refl
scaled_later k t (x ∷ v) = rw (mul-add k x t, scaled_later k t v)

pub scaled_zeros : (k n : ℕ) → scaled k (replicate n 0) ≡ replicate n 0
scaled_zeros k zero = refl
scaled_zeros k (suc n) = rw (mul-zero k, scaled_zeros k n)

-- the greatest ------------------------------------------------------------------------------------------------------------------------

pub at_greatest : (ks : List ℕ) (z : ℕ) → at ks z ≤ greatest ks
at_greatest [] z = omega arith
at_greatest (k ∷ ks) zero = omega arith
at_greatest (k ∷ ks) (suc z) = let h : at ks z ≤ greatest ks = at_greatest ks z in omega arith

pub greatest_at : (ks : List ℕ) → 0 < greatest ks → (z : ℕ) × (z < length ks) × (at ks z ≡ greatest ks)
greatest_at [] h = absurd (omega arith)
greatest_at (k ∷ ks) h = go (dec_le (greatest ks) k) (greatest_at ks)
  where
    go : Dec (greatest ks ≤ k) → (0 < greatest ks → (z : ℕ) × (z < length ks) × (at ks z ≡ greatest ks)) → (z : ℕ) × (z < length (k ∷ ks)) × (at (k ∷ ks) z ≡ greatest (k ∷ ks))
    go (yes l) next = (0, omega arith, omega arith)
    go (no l) next = let (z, i, e) = next (omega arith) in (suc z, omega arith, omega arith)

pub length_from : (a n : ℕ) → length (from a n) ≡ n
length_from a zero = refl
length_from a (suc n) = ap suc (length_from (a + 1) n)
