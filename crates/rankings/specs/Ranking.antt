-- The rows that have the same location and intervals, and the table from which they are read by number. Assumes nothing.
use Rattle.std.specs.Prelude.{ℕ, zero, suc, ◌+◌, ◌*◌, ◌≤◌, ◌<◌, Bool, cond, List, map}
use Rattle.automata.specs.Clocks.{at}
use Rattle.automata.specs.Row.{Row}
use Rattle.automata.specs.Rows.{openb, isrowb, select, rank_lists}
use Rattle.regions.specs.Values.{bounds_of, row_of}
use Rattle.regions.specs.declared.clocks.Clocks.{Clocks}
use Rattle.regions.specs.declared.region.Region.{Region}
use Rattle.rankings.specs.Table.{starts}

-- the rows of location l with intervals js, ascending: one for each ranking of the clocks whose intervals are open
unfoldable pub ranked_rows : List ℕ → ℕ → List ℕ → List Row
ranked_rows c l js = select (isrowb c) (map (λ (ks : List ℕ). record { location = l; intervals = js; ranks = ks }) (rank_lists c js))

-- .. with the location and the intervals of a part
abbrev pub rows_ranked : Clocks → Region → List Row
rows_ranked k part = ranked_rows (bounds_of k) part.location (row_of k.count part).intervals

-- the part's intervals are in range
abbrev pub InRange : Clocks → Region → Type 0
InRange k part = (z : ℕ) → z < k.count → at part.intervals z ≤ 2 * at k.bounds z + 1

-- the table ---------------------------------------------------------------------------------------------------------------------

-- a number for each choice of open clocks among four
abbrev pub weight : ℕ → ℕ
weight zero = 1
weight (suc z) = 2 * weight z

-- .. that of those of the first n clocks that pass a test
unfoldable pub pattern : (ℕ → Bool) → ℕ → ℕ
pattern p zero = 0
pattern p (suc z) = pattern p z + cond (p z) (weight z) 0

-- the number of the clocks with open intervals
abbrev pub pattern_of : Clocks → Region → ℕ
pattern_of k part = pattern (λ (z : ℕ). openb (at (bounds_of k) z) (at (row_of k.count part).intervals z)) k.count

-- where their rankings begin in the table
abbrev pub first_ranking : Clocks → Region → ℕ
first_ranking k part = at starts (pattern_of k part)
