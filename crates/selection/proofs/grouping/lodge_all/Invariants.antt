use Rattle.regions.specs.Values.{bounds_of, edge_of}
use Rattle.selection.proofs.Laws.Grouping.{Grouping}
use Rattle.selection.proofs.grouping.lodge_all.Given as goal

abbrev pub invariant-loop-i : goal.invariant-loop-i
invariant-loop-i l = Grouping (bounds_of l.edge.clocks) (edge_of l.edge.clocks.count l.edge.e) l.edge.clocks.count l.edge.bytes.now l.fn.rows.start l.fn.rows.end l.initial.taken l.initial.slots l.i l.taken l.slots
