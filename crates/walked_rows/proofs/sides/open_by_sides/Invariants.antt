use Rattle.listed_rows.specs.EdgesInLists.{bounds_in, edge_in}
use Rattle.regions.specs.Values.{bounds_of, edge_of}
use Rattle.walked_rows.proofs.Laws.Sides.{SidesInside}
use Rattle.walked_rows.specs.Open.{FirstOpen}
use Rattle.walked_rows.proofs.sides.open_by_sides.Given as goal

abbrev pub invariant-loop-k : goal.invariant-loop-k
invariant-loop-k l = FirstOpen (SidesInside (bounds_in l.edge) (edge_in l.edge) l.edge.list.clocks.count l.edge.list.bytes.now l.edge.list.count l.rows.start l.rows.end l.k) l.rows.start l.rows.end l.rows.end
