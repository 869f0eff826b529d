use Prim.Native.Nat.{min, ◌≤◌, ◌-◌}
use Rattle.automata.specs.Successors.{guardsb}
use Rattle.regions.specs.Values.{guard_of, row_of, edge_of}
use lib.ListN.{drop, take}
use mathlib.Core.List.{map}
use mathlib.Core.Path.{◌≡◌}
use Rattle.regions.proofs.region.Region.guards_hold.Given as goal

abbrev pub invariant-loop-i : goal.invariant-loop-i
invariant-loop-i l = (l.i ≤ min l.e.guard_count 8)
    × (guardsb (row_of l.clocks.count l.self) (edge_of l.clocks.count l.e).guards
    ≡ guardsb (row_of l.clocks.count l.self) (drop l.i (map guard_of (take (min l.e.guard_count 8) l.e.guards))))
