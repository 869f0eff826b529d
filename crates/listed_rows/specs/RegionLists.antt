-- The rows of a region list that was read. Assumes nothing.
use Rattle.std.specs.Prelude.{ℕ, List}
use Rattle.automata.specs.Row.{Row}
use Rattle.listed_rows.specs.Listed.{listed_row, listed_rows}
use Rattle.listed_rows.specs.declared.region_list.RegionList.{RegionList}

-- row i
abbrev pub nth_row : RegionList → ℕ → Row
nth_row l i = listed_row l.clocks.count l.bytes.now i

-- all rows
abbrev pub all_rows : RegionList → List Row
all_rows l = listed_rows l.clocks.count l.bytes.now l.count
