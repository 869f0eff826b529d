use Prim.Native.Nat.{◌-◌, ◌≤◌}
use Rattle.automata.specs.Clocks.{each, allb}
use Rattle.regions.specs.Image.{reaches_at, interval_at, rank_at}
use Rattle.regions.specs.Values.{bounds_of, row_of, padded, edge_of}
use mathlib.Core.Bool.{true}
use mathlib.Core.Path.{◌≡◌}
use Rattle.regions.proofs.region.Region.moved.Given as goal

abbrev pub invariant-loop-z : goal.invariant-loop-z
invariant-loop-z l = (l.z ≤ l.n)
    × (l.intervals ≡ padded (each l.z (interval_at (bounds_of l.clocks) (edge_of l.clocks.count l.e) (row_of l.clocks.count l.self))))
    × (l.ranks ≡ padded (each l.z (rank_at (bounds_of l.clocks) (edge_of l.clocks.count l.e) (row_of l.clocks.count l.self))))
    × (allb l.z (reaches_at (bounds_of l.clocks) (edge_of l.clocks.count l.e) (row_of l.clocks.count l.self)) ≡ true)
