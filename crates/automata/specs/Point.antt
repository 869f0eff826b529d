-- Points: "A point gives each clock a whole count of 1/D, for any D of at least 1". Assumes nothing.
use Rattle.std.specs.Prelude.{ℕ, ◌+◌, ◌*◌, ◌-◌, ◌≤◌, ◌<◌, ◌/◌, ◌≡◌, ◌⊎◌, ◌↔◌, List, map, length}
use Rattle.automata.specs.Clocks.{at}
use Rattle.automata.specs.Row.{Row, Even, Open, Top}

-- "interval 2k is the value k (k ≤ c(z)), interval 2k+1 is strictly between k and k+1 (k < c(z)), and 2c(z)+1 is every value above c(z)":
-- x counts of 1/D lie in interval j
abbrev pub Within : ℕ → ℕ → ℕ → ℕ → Type 0
Within D c j x =
    (Even c j × (x ≡ j / 2 * D))
    ⊎ ((Open c j × (j / 2 * D < x) × (x < j / 2 * D + D))
    ⊎ (Top c j × (c * D < x)))

-- the fractional part of x in interval j, in counts of 1/D
abbrev pub part : ℕ → ℕ → ℕ → ℕ
part D j x = x - j / 2 * D

-- the point v lies in the row; ranks stand "in the order of their fractional parts; equal parts have equal ranks"
pub record Contains (c : List ℕ) (D : ℕ) (v : List ℕ) (r : Row) : Type 0 where
  pub positive : 0 < D
  pub sized : length v ≡ length c
  pub within : (z : ℕ) → z < length c → Within D (at c z) (at r.intervals z) (at v z)
  pub ordered : (z w : ℕ) → z < length c → w < length c
      → Open (at c z) (at r.intervals z) → Open (at c w) (at r.intervals w)
      → (at r.ranks z ≤ at r.ranks w) ↔ (part D (at r.intervals z) (at v z) ≤ part D (at r.intervals w) (at v w))

-- "waits a delay .., adding it to every clock": the point t counts later
abbrev pub later : ℕ → List ℕ → List ℕ
later t v = map (λ (x : ℕ). x + t) v

-- the same point, in counts k times as fine
abbrev pub scaled : ℕ → List ℕ → List ℕ
scaled k v = map (λ (x : ℕ). k * x) v
