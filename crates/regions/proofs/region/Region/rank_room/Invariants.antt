use Prim.Native.Nat.{◌≤◌, ◌-◌}
use Rattle.automata.specs.Rankings.{rank_room}
use Rattle.regions.specs.Values.{bounds_of, row_of}
use mathlib.Core.Path.{◌≡◌}
use Rattle.regions.proofs.region.Region.rank_room.Given as goal

abbrev pub invariant-loop-z : goal.invariant-loop-z
invariant-loop-z l = (l.z ≤ l.z-end) × (l.total ≡ rank_room (bounds_of l.clocks) (row_of l.clocks.count l.self).intervals l.self.ranks l.chosen l.z)
