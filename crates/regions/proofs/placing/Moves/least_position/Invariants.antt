use Prim.Native.Nat.{◌-◌, ◌≤◌}
use Rattle.regions.specs.Placing.{rank_fits_at, greedy_at}
use mathlib.Core.Path.{◌≡◌}
use Rattle.regions.proofs.placing.Moves.least_position.Given as goal

abbrev pub invariant-loop-placed : goal.invariant-loop-placed
invariant-loop-placed l = (l.placed ≤ l.rank) × (l.position ≡ greedy_at (rank_fits_at l.self.each l.count l.part.intervals l.part.ranks) l.self.ranks l.placed)
