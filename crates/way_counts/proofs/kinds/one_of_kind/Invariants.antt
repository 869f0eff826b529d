use Prim.Native.Nat.{ℕ, ◌+◌, ◌-◌, ◌≤◌, ◌<◌}
use Rattle.way_counts.specs.Kinds.{kind, number}
use mathlib.Core.Path.{◌≡◌}
use Rattle.way_counts.proofs.kinds.one_of_kind.Given as goal

abbrev pub invariant-loop-interval : goal.invariant-loop-interval
invariant-loop-interval l = (l.interval ≤ l.asked.top + 1) × ((j : ℕ) → j < l.interval → kind l.asked j ≡ (number l.wanted) → ⊥)

abbrev pub decreases-loop-interval : goal.decreases-loop-interval
decreases-loop-interval l = l.asked.top + 1 - l.interval
