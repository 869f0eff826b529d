-- Rows that differ in their ranks alone, for the check of region lists. Assumes nothing.
use Rattle.std.specs.Prelude.{ℕ, ◌≡◌, Bool, true, ◌&&◌, List, eqb}
use Rattle.automata.specs.Row.{Row, IsRow}
use Rattle.automata.specs.Checks.{same, has}

-- two rows have location and intervals in common
unfoldable pub besideb : Row → Row → Bool
besideb r s = eqb r.location s.location && same r.intervals s.intervals

-- the list has all rows that have location and intervals in common with a row, for bounds c
abbrev pub AllRanked : List ℕ → List Row → Row → Type 0
AllRanked c rows w = (x : Row) → IsRow c x → x.location ≡ w.location → x.intervals ≡ w.intervals → has rows x ≡ true
