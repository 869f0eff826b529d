use Prim.Native.Nat.{◌≤◌, ◌-◌}
use Rattle.automata.specs.Clocks.{each}
use Rattle.regions.proofs.Laws.WaitTests.{left_interval, left_rank}
use Rattle.regions.specs.Values.{bounds_of, row_of, padded}
use mathlib.Core.Path.{◌≡◌}
use Rattle.regions.proofs.region.Region.left.Given as goal

abbrev pub invariant-loop-z : goal.invariant-loop-z
invariant-loop-z l = (l.z ≤ l.n)
    × (l.intervals ≡ padded (each l.z (left_interval (bounds_of l.clocks) (row_of l.clocks.count l.self))))
    × (l.ranks ≡ padded (each l.z (left_rank l.grow (bounds_of l.clocks) (row_of l.clocks.count l.self))))
