use Prim.Native.Nat.{◌-◌, ◌≤◌}
use Rattle.automata.specs.Clocks.{each}
use Rattle.regions.specs.Image.{dense_at}
use Rattle.regions.specs.Values.{padded}
use mathlib.Core.Path.{◌≡◌}
use Rattle.regions.proofs.image.dense_ranks.Given as goal

abbrev pub invariant-loop-z : goal.invariant-loop-z
invariant-loop-z l = (l.z ≤ l.clocks) × (l.dense ≡ padded (each l.z (dense_at l.ranks l.clocks)))
