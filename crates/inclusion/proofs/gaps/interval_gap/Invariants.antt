use Prim.Native.Nat.{◌≤◌}
use Rattle.edge_walk.specs.Intervals.{Chosen}
use Rattle.edge_walk.specs.Stand.{steps_left, Standing}
use Rattle.inclusion.proofs.gaps.interval_gap.Given as goal

abbrev pub invariant-loop-stand : goal.invariant-loop-stand
invariant-loop-stand l = Standing l.search l.stand × (Chosen l.search l.stand × (l.k ≤ l.end))

abbrev pub decreases-loop-stand : goal.decreases-loop-stand
decreases-loop-stand l = steps_left l.search l.stand
