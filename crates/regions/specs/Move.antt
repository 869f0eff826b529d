-- One clock's move: what its update asks of the clock's new interval and of the position of its new part. Assumes nothing.
use Rattle.std.specs.Prelude.{ℕ, ◌+◌, ◌*◌, ◌≤◌, ◌<◌, ◌≡◌, Bool, List}
use Rattle.automata.specs.Comparison.{equal, answer, some_answer}
use Rattle.automata.specs.Clocks.{at}
use Rattle.automata.specs.Row.{Row}
use Rattle.automata.specs.Edge.{Action, keep, constant, clock, Update}
use Rattle.automata.specs.Successors.{Rel, fixed, free, parts, relation, fits}
use Rattle.regions.specs.declared.clock_move.Move.{Move}

-- the move of clock z against clock y plus up less down: what is taken away stands on the new interval's side
abbrev pub move_to : List ℕ → Row → ℕ → ℕ → ℕ → ℕ → ℕ → Move
move_to c r z cmp y up down = record {
  comparison = cmp;
  shift = 2 * down;
  reference = at r.intervals y + 2 * up;
  rank = at r.ranks y;
  top = 2 * at c z + 1;
}

-- the move of clock z by its update; a constant is a clock that stands still at a whole value
abbrev pub move_of : List ℕ → Row → ℕ → Update → Move
move_of c r z u = by u.action
  where
    by : Action → Move
    by keep = move_to c r z equal z 0 0
    by (constant k) = record { comparison = u.comparison; shift = 0; reference = 2 * k; rank = 0; top = 2 * at c z + 1 }
    by (clock y up down) = move_to c r z u.comparison y up down

-- what is known of the order where the new interval is j
abbrev pub rel_of : Move → ℕ → Rel
rel_of m j = relation m.top j (j + m.shift) m.reference m.rank

-- the move allows interval j with the new part at position p
unfoldable pub fits_at : Move → ℕ → ℕ → Bool
fits_at m j p = fits m.comparison (rel_of m j) p

-- the comparison allows what is known, for some new part
unfoldable pub fits_somewhere : ℕ → Rel → Bool
fits_somewhere cmp (fixed o) = answer cmp o
fits_somewhere cmp free = some_answer cmp
fits_somewhere cmp (parts q) = some_answer cmp

-- the move permits interval j
unfoldable pub permitsb : Move → ℕ → Bool
permitsb m j = fits_somewhere m.comparison (rel_of m j)

-- of the intervals from i to before k the same is known, and the top is none of them but by itself
pub record Stretch (m : Move) (i k : ℕ) : Type 0 where
  pub after : i < k
  pub within : k ≤ m.top + 1
  pub top_alone : i < m.top → k ≤ m.top
  pub alike : (j : ℕ) → i ≤ j → j < k → rel_of m j ≡ rel_of m i
