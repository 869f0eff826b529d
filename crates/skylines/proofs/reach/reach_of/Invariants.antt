use Rattle.regions.specs.Values.{bounds_of, row_of, edge_of}
use Rattle.skylines.proofs.Laws.Reach.{ReachTo}
use Rattle.skylines.proofs.reach.reach_of.Given as goal

abbrev pub invariant-loop-z : goal.invariant-loop-z
invariant-loop-z l = ReachTo (bounds_of l.clocks) (edge_of l.clocks.count l.e) (row_of l.clocks.count l.from) l.z l.lows l.highs
