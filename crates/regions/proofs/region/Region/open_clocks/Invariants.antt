use Prim.Native.Nat.{◌≤◌, ◌-◌}
use Rattle.automata.specs.Rankings.{open_clocks}
use Rattle.regions.specs.Values.{bounds_of, row_of}
use mathlib.Core.Path.{◌≡◌}
use Rattle.regions.proofs.region.Region.open_clocks.Given as goal

abbrev pub invariant-loop-z : goal.invariant-loop-z
invariant-loop-z l = (l.z ≤ l.z-end) × (l.total ≡ open_clocks (bounds_of l.clocks) (row_of l.clocks.count l.self).intervals l.z)
