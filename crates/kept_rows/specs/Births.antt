-- In which order the rows of a list in the making were found. Assumes nothing.
use Rattle.std.specs.Prelude.{ℕ, List}
use Rattle.table_files.specs.Bytes.{two}
use Rattle.listed_rows.specs.Listed.{listed_bytes}

-- the birth of row i of n clocks: the number in the two bytes where the finished list has the row's mark
unfoldable pub birth : ℕ → List ℕ → ℕ → ℕ
birth n list i = two (listed_bytes n list i) 0
