use Prim.Native.Nat.{◌+◌, ◌-◌, ◌≤◌}
use Rattle.inclusion.proofs.counted.permitted_intervals.Given as goal

abbrev pub invariant-loop-interval : goal.invariant-loop-interval
invariant-loop-interval l = (l.total ≤ l.interval) × (l.interval ≤ l.asked.top + 1)

abbrev pub decreases-loop-interval : goal.decreases-loop-interval
decreases-loop-interval l = l.asked.top + 1 - l.interval
