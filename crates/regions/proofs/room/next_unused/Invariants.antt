use Prim.Native.Nat.{ℕ, ◌≤◌, ◌<◌}
use Rattle.automata.specs.Rankings.{usedb}
use mathlib.Core.Bool.{true}
use mathlib.Core.Path.{◌≡◌}
use Rattle.regions.proofs.room.next_unused.Given as goal

abbrev pub invariant-loop-rank : goal.invariant-loop-rank
invariant-loop-rank l = (l.from ≤ l.rank) × ((a : ℕ) → l.from ≤ a → a < l.rank → usedb l.ranks l.clocks a ≡ true)
