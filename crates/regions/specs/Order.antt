-- The order of rows as the code takes it: a row is one list of numbers, and the first place where two such lists differ decides.
-- Assumes nothing.
use Rattle.std.specs.Prelude.{ℕ, suc, ◌-◌, cond, List, [], ◌∷◌, ◌++◌, set, eqb, leb}
use Rattle.automata.specs.Row.{Row}
use Rattle.regions.specs.declared.region.Region.{Region}

-- "A row is .. location, n interval numbers, n ranks"
abbrev pub numbers : Row → List ℕ
numbers r = r.location ∷ (r.intervals ++ r.ranks)

-- how many numbers two lists share before they differ
unfoldable pub shared : List ℕ → List ℕ → ℕ
shared [] ys = 0
shared (x ∷ xs) [] = 0
shared (x ∷ xs) (y ∷ ys) = let further : ℕ = suc (shared xs ys) in cond (eqb x y) further 0

-- the region of n clocks with k for its number i, an interval or a rank
unfoldable pub put : ℕ → Region → ℕ → ℕ → Region
put n v i k =
    cond (leb i n) (record { location = v.location; intervals = set v.intervals (i - 1) k; ranks = v.ranks })
    (record { location = v.location; intervals = v.intervals; ranks = set v.ranks (i - 1 - n) k })
