use Rattle.regions.specs.Values.{bounds_of, edge_of}
use Rattle.selection.proofs.Laws.Choosing.{Choosing}
use Rattle.selection.proofs.choosing.choose.Given as goal

abbrev pub invariant-loop-i : goal.invariant-loop-i
invariant-loop-i l = Choosing (bounds_of l.edge.clocks) (edge_of l.edge.clocks.count l.edge.e) l.edge.clocks.count l.edge.bytes.now l.fn.rows.start l.fn.rows.end l.initial.taken l.i l.taken l.skyline.members l.skyline.size l.left
