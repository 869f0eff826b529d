use Prim.Native.Nat.{ℕ, ◌<◌, ◌-◌, ◌≤◌}
use Rattle.automata.specs.Edge.{idle}
use Rattle.regions.specs.Move.{move_of}
use Rattle.regions.specs.Placing.{still}
use Rattle.regions.specs.Values.{bounds_of, row_of, edge_of}
use lib.ListN.{length, get_or}
use mathlib.Core.Path.{◌≡◌}
use Rattle.regions.proofs.region.Region.moves.Given as goal

abbrev pub invariant-loop-z : goal.invariant-loop-z
invariant-loop-z l = (l.z ≤ l.n) × (length l.each ≡ 4) × ((w : ℕ) → w < l.z → get_or l.each w still ≡ move_of (bounds_of l.clocks) (row_of l.clocks.count l.self) w (get_or (edge_of l.clocks.count l.e).updates w idle))
