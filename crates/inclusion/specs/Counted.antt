-- How many rows of a list pass a test. Assumes nothing.
use Rattle.std.specs.Prelude.{ℕ, zero, suc, ◌+◌, Bool}
use Rattle.automata.specs.Clocks.{one_if}
use Rattle.automata.specs.Row.{Row}

-- how many of so many rows from row lo on pass a test
unfoldable pub passing : (Row → Bool) → (ℕ → Row) → ℕ → ℕ → ℕ
passing p row lo zero = 0
passing p row lo (suc m) = passing p row lo m + one_if (p (row (lo + m)))
