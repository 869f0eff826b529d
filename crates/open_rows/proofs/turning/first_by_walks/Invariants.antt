use Prim.Native.Nat.{◌-◌}
use Rattle.open_rows.proofs.Laws.Open.{Halving}
use Rattle.walked_rows.specs.Leading.{LeadsIn}
use Rattle.open_rows.proofs.turning.first_by_walks.Given as goal

abbrev pub invariant-loop-low : goal.invariant-loop-low
invariant-loop-low l = Halving (LeadsIn l.edge) l.fn.rows.start l.fn.rows.end l.low l.first l.top

abbrev pub decreases-loop-low : goal.decreases-loop-low
decreases-loop-low l = l.first - l.low
