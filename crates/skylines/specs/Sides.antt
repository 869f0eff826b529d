-- An edge that asks for any value but one, as edges that ask for less or for more: one for each way to choose. Assumes nothing.
use Rattle.std.specs.Prelude.{ℕ, zero, suc, ◌%◌, ◌/◌, Bool, false, cond, not, ◌&&◌, ◌||◌, map, get_or, eqb}
use Rattle.automata.specs.Comparison.{below, above, sides_alone}
use Rattle.automata.specs.Clocks.{allb}
use Rattle.automata.specs.Rows.{from}
use Rattle.automata.specs.Edge.{Action, keep, constant, clock, Update, idle, Edge}

-- ways to choose ----------------------------------------------------------------------------------------------------------------

-- k without its z lowest bits
unfoldable pub halved : ℕ → ℕ → ℕ
halved k zero = k
halved k (suc z) = halved (k / 2) z

-- bit z of k: the side of clock z is the one above
abbrev pub bit : ℕ → ℕ → Bool
bit k z = eqb (halved k z % 2) 1

-- updates -----------------------------------------------------------------------------------------------------------------------

-- the update asks for any value but a clock's, plus an offset
abbrev pub two_sided : Update → Bool
two_sided u = by u.action
  where
    by : Action → Bool
    by keep = false
    by (constant k) = false
    by (clock y up down) = sides_alone u.comparison

-- such an update by one of its sides; any other as it is
unfoldable pub sided_update : Update → Bool → Update
sided_update u up = cond (two_sided u) (record { action = u.action; comparison = cond up above below }) u

-- edges -------------------------------------------------------------------------------------------------------------------------

-- the update of clock z
abbrev pub two_sided_at : Edge → ℕ → Bool
two_sided_at e z = two_sided (get_or e.updates z idle)

abbrev pub sided_at : Edge → ℕ → ℕ → Update
sided_at e k z = sided_update (get_or e.updates z idle) (bit k z)

-- the edge of n clocks by the sides that k chooses
unfoldable pub sided : ℕ → Edge → ℕ → Edge
sided n e k = record { source = e.source; target = e.target; guards = e.guards; updates = map (sided_at e k) (from 0 n) }

-- k chooses where there is something to choose, and nowhere else
abbrev pub may_choose : Edge → ℕ → ℕ → Bool
may_choose e k z = not (bit k z) || two_sided_at e z

unfoldable pub is_choice : ℕ → Edge → ℕ → Bool
is_choice n e k = allb n (may_choose e k) && eqb (halved k n) 0
