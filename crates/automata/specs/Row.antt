-- Rows and their order, for the clocks' bounds c. Assumes nothing.
use Rattle.std.specs.Prelude.{ℕ, ◌+◌, ◌*◌, ◌≤◌, ◌<◌, ◌%◌, ◌≡◌, ◌⊎◌, List, [], ◌∷◌, length}
use Rattle.automata.specs.Clocks.{at}

-- "A row is .. location, n interval numbers, n ranks"
pub record Row : Type 0 where
  pub location : ℕ
  pub intervals : List ℕ
  pub ranks : List ℕ

-- intervals ---------------------------------------------------------------------------------------------------------------------

-- "interval 2k is the value k (k ≤ c(z))"
abbrev pub Even : ℕ → ℕ → Type 0
Even c j = (j ≤ 2 * c) × (j % 2 ≡ 0)

-- "interval 2k+1 is strictly between k and k+1 (k < c(z))"
abbrev pub Open : ℕ → ℕ → Type 0
Open c j = (j < 2 * c) × (j % 2 ≡ 1)

-- "2c(z)+1 is every value above c(z), the top"
abbrev pub Top : ℕ → ℕ → Type 0
Top c j = j ≡ 2 * c + 1

-- rows --------------------------------------------------------------------------------------------------------------------------

-- "Rank is 0 at even intervals and at the top. The others have ranks 1, 2, .. with none missing"
pub record IsRow (c : List ℕ) (r : Row) : Type 0 where
  pub intervals_length : length r.intervals ≡ length c
  pub ranks_length : length r.ranks ≡ length c
  pub in_range : (z : ℕ) → z < length c → at r.intervals z ≤ 2 * at c z + 1
  pub rank_open : (z : ℕ) → z < length c → Open (at c z) (at r.intervals z) → 0 < at r.ranks z
  pub rank_shut : (z : ℕ) → z < length c → (Open (at c z) (at r.intervals z) → ⊥) → at r.ranks z ≡ 0
  pub dense : (z k : ℕ) → z < length c → 0 < k → k < at r.ranks z → (w : ℕ) × (w < length c) × (at r.ranks w ≡ k)

-- order -------------------------------------------------------------------------------------------------------------------------

-- clock by clock: the first clock where two lists differ decides
abbrev pub Before : List ℕ → List ℕ → Type 0
Before [] [] = ⊥
Before [] (y ∷ ys) = Unit {0}
Before (x ∷ xs) [] = ⊥
Before (x ∷ xs) (y ∷ ys) = (x < y) ⊎ ((x ≡ y) × Before xs ys)

-- "Rows are ordered by location, then intervals clock by clock, then ranks clock by clock"
abbrev pub Below : Row → Row → Type 0
Below r s =
    (r.location < s.location)
    ⊎ ((r.location ≡ s.location) × (Before r.intervals s.intervals
    ⊎ ((r.intervals ≡ s.intervals) × Before r.ranks s.ranks)))
