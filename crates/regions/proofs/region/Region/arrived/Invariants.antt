use Prim.Native.Nat.{◌≤◌, ◌-◌}
use Rattle.automata.specs.Clocks.{each}
use Rattle.regions.proofs.Laws.WaitTests.{arrived_interval, arrived_rank}
use Rattle.regions.specs.Values.{row_of, padded}
use mathlib.Core.Path.{◌≡◌}
use Rattle.regions.proofs.region.Region.arrived.Given as goal

abbrev pub invariant-loop-z : goal.invariant-loop-z
invariant-loop-z l = (l.z ≤ l.n)
    × (l.intervals ≡ padded (each l.z (arrived_interval l.top_rank (row_of l.n l.self))))
    × (l.ranks ≡ padded (each l.z (arrived_rank l.top_rank (row_of l.n l.self))))
