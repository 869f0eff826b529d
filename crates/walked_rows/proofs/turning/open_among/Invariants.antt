use Rattle.listed_rows.specs.EdgesInLists.{bounds_in, edge_in}
use Prim.Native.Nat.{◌-◌}
use Rattle.regions.specs.Values.{bounds_of, edge_of}
use Rattle.walked_rows.proofs.Laws.Turning.{Turning}
use Rattle.walked_rows.proofs.turning.open_among.Given as goal

abbrev pub invariant-loop-from : goal.invariant-loop-from
invariant-loop-from l = Turning (bounds_in l.edge) (edge_in l.edge) l.edge.list.clocks.count l.edge.list.bytes.now l.edge.list.count l.fn.rows.start l.fn.rows.end l.from l.taken

abbrev pub decreases-loop-from : goal.decreases-loop-from
decreases-loop-from l = l.fn.rows.end - l.from
