-- A row that was put into its place among the rows of a list in the making. Assumes nothing.
use Rattle.std.specs.Prelude.{ℕ, suc, ◌+◌, ◌*◌, ◌≤◌, ◌<◌, ◌≡◌, List, length, drop}
use Rattle.automata.specs.Row.{Row}
use Rattle.calls.specs.RegionFile.{row_width}
use Rattle.listed_rows.specs.Listed.{listed_row}
use Rattle.kept_rows.specs.Births.{birth}

-- row i of a list of n clocks is this row, and this is its birth
abbrev pub RowIs : ℕ → List ℕ → ℕ → Row → ℕ → Type 0
RowIs n list i row b = (listed_row n list i ≡ row) × (birth n list i ≡ b)

-- it is row j of another list, with that one's birth
abbrev pub SameRow : ℕ → List ℕ → ℕ → List ℕ → ℕ → Type 0
SameRow n list i other j = RowIs n list i (listed_row n other j) (birth n other j)

-- to so many rows of n clocks a row was added, after the first m: the others stand one place higher, births move with their rows, the new row is born
-- last, and what follows the rows stays
pub record Inserted (n : ℕ) (before : List ℕ) (count m : ℕ) (row : Row) (after : List ℕ) : Type 0 where
  pub within : m ≤ count
  pub same_length : length after ≡ length before
  pub lower : (i : ℕ) → i < m → SameRow n after i before i
  pub here : RowIs n after m row count
  pub upper : (i : ℕ) → m ≤ i → i < count → SameRow n after (suc i) before i
  pub rest : drop (4 + suc count * row_width n) after ≡ drop (4 + suc count * row_width n) before
