-- An edge's way from a region, and the rows on it. Assumes nothing.
use Rattle.std.specs.Prelude.{List, []}
use Rattle.automata.specs.Row.{Row}
use Rattle.automata.specs.Rows.{select, rows_at}
use Rattle.regions.specs.Values.{bounds_of}
use Rattle.std.specs.declared.option.Option.{Option}
use Rattle.std.specs.declared.option.Option.TheVariants.{None, Some}
use Rattle.edge_walk.specs.Choice.{allowsb}
use Rattle.edge_walk.specs.declared.way.Way.{Way}

-- the rows of the target that the moves allow, ascending
unfoldable pub rows_on : Way → List Row
rows_on w = select (allowsb w.search) (rows_at (bounds_of w.search.clocks) w.target)

-- .. and none where there is no way
abbrev pub way_rows : Option Way → List Row
way_rows None = []
way_rows (Some w) = rows_on w
