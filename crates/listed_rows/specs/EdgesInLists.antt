-- An edge by which rows of a list are left, as the definitions have it. Assumes nothing.
use Rattle.std.specs.Prelude.{ℕ, List}
use Rattle.automata.specs.Row.{Row}
use Rattle.automata.specs.Edge.{Edge}
use Rattle.automata.specs.Successors.{edge_rows}
use Rattle.regions.specs.Values.{bounds_of, edge_of}
use Rattle.listed_rows.specs.Located.{Stretch}
use Rattle.listed_rows.specs.declared.listed.Span.{Span}
use Rattle.listed_rows.specs.declared.edge_in_list.EdgeInList.{EdgeInList}

-- the bounds
abbrev pub bounds_in : EdgeInList → List ℕ
bounds_in k = bounds_of k.list.clocks

-- the edge
abbrev pub edge_in : EdgeInList → Edge
edge_in k = edge_of k.list.clocks.count k.e

-- the rows that it leads to from a row
abbrev pub led_in : EdgeInList → Row → List Row
led_in k = edge_rows (bounds_in k) (edge_in k)

-- rows of the list from start to before end, all in the edge's source
abbrev pub InSource : EdgeInList → Span → Type 0
InSource k rows = Stretch k.list.clocks.count k.list.bytes.now k.list.count k.e.source rows.start rows.end
