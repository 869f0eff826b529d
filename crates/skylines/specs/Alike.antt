-- Edges that lead to the same rows from all rows that they can be taken from. Assumes nothing.
use Rattle.std.specs.Prelude.{ℕ, ◌<◌, ◌≡◌, Bool, true, false, get_or}
use Rattle.automata.specs.Edge.{Action, keep, constant, clock, idle, Edge}

-- the new value is compared with a constant
abbrev pub constantb : Action → Bool
constantb keep = false
constantb (constant k) = true
constantb (clock y up down) = false

-- no update of the first n clocks reads a clock
abbrev pub ReadsNone : ℕ → Edge → Type 0
ReadsNone n e = (z : ℕ) → z < n → constantb (get_or e.updates z idle).action ≡ true
