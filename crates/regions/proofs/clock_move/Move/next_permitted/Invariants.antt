use Prim.Native.Nat.{◌+◌, ◌-◌}
use Rattle.automata.specs.Successors.{least}
use Rattle.regions.specs.Move.{permitsb}
use mathlib.Core.Path.{◌≡◌}
use Rattle.regions.proofs.clock_move.Move.next_permitted.Given as goal

abbrev pub invariant-loop-interval : goal.invariant-loop-interval
invariant-loop-interval l = least (permitsb l.self) (l.self.top + 1 - l.from) l.from ≡ least (permitsb l.self) (l.self.top + 1 - l.interval) l.interval

abbrev pub decreases-loop-interval : goal.decreases-loop-interval
decreases-loop-interval l = l.self.top + 1 - l.interval
