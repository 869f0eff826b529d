-- Positions for the new ranks of the first m clocks, as far as their moves tell: intervals js, ranks ks. Assumes nothing.
use Rattle.std.specs.Prelude.{ℕ, zero, suc, ◌+◌, ◌*◌, ◌-◌, ◌<◌, ◌%◌, ◌≡◌, Bool, not, ◌&&◌, ◌||◌, List, length, get_or, take, eqb, leb}
use Rattle.automata.specs.Clocks.{at, allb, greatest}
use Rattle.automata.specs.Row.{Row}
use Rattle.automata.specs.Edge.{Edge, idle}
use Rattle.automata.specs.Successors.{least}
use Rattle.regions.specs.Move.{move_of, fits_at, permitsb}
use Rattle.regions.specs.declared.clock_move.Move.{Move}
use Rattle.regions.specs.declared.placing.Moves.{Moves}

-- what stands where a list of moves has ended
abbrev pub still : Move
still = record { comparison = 0; shift = 0; reference = 0; rank = 0; top = 0 }

-- clock z has not rank a, or fits at position p
abbrev pub clock_fits_at : List Move → List ℕ → List ℕ → ℕ → ℕ → ℕ → Bool
clock_fits_at ms js ks a p z = not (eqb (at ks z) a) || fits_at (get_or ms z still) (at js z) p

-- the clocks of rank a fit at position p
unfoldable pub rank_fits_at : List Move → ℕ → List ℕ → List ℕ → ℕ → ℕ → Bool
rank_fits_at ms m js ks a p = allb m (clock_fits_at ms js ks a p)

-- the least position for rank a after those of the ranks before, for a test of ranks and positions, among g old ranks
unfoldable pub greedy_at : (ℕ → ℕ → Bool) → ℕ → ℕ → ℕ
greedy_at t g zero = 0
greedy_at t g (suc a) = let p : ℕ = greedy_at t g a in least (t (suc a)) (2 * g + 1 - (p + p % 2)) (p + p % 2)

-- the ranks have positions among g old ones where every clock fits
unfoldable pub placed_at : List Move → ℕ → ℕ → List ℕ → List ℕ → Bool
placed_at ms g m js ks = rank_fits_at ms m js ks 0 0 && leb (greedy_at (rank_fits_at ms m js ks) g (greatest (take m ks))) (2 * g)

-- the moves of an edge from a row
pub record MovesOf (c : List ℕ) (e : Edge) (r : Row) (ms : Moves) : Type 0 where
  pub ranks : ms.ranks ≡ greatest r.ranks
  pub each : (z : ℕ) → z < length c → get_or ms.each z still ≡ move_of c r z (get_or e.updates z idle)

-- the move of clock z permits some interval
abbrev pub some_permitted : List Move → ℕ → Bool
some_permitted ms z = let m : Move = get_or ms z still in leb (least (permitsb m) (m.top + 1 - 0) 0) m.top
