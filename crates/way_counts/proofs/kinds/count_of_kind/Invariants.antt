use Prim.Native.Nat.{◌+◌, ◌-◌, ◌≤◌}
use Rattle.way_counts.specs.Kinds.{number, of_kind}
use mathlib.Core.Path.{◌≡◌}
use Rattle.way_counts.proofs.kinds.count_of_kind.Given as goal

abbrev pub invariant-loop-interval : goal.invariant-loop-interval
invariant-loop-interval l = (l.interval ≤ l.asked.top + 1) × (l.total ≡ of_kind l.asked (number l.wanted) l.interval)

abbrev pub decreases-loop-interval : goal.decreases-loop-interval
decreases-loop-interval l = l.asked.top + 1 - l.interval
