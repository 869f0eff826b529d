-- The rows in the bytes of a region list, for the code that reads them again and looks rows up. Assumes nothing.
use Rattle.std.specs.declared.result.Result.{Result}
use Rattle.std.specs.declared.result.Result.TheVariants.{Ok, Err}
use Rattle.std.specs.Prelude.{ℕ, ◌+◌, ◌*◌, ◌≤◌, ◌<◌, ◌≡◌, true, false, List, map, length, take, drop}
use Rattle.automata.specs.Clocks.{at}
use Rattle.automata.specs.Row.{Row, IsRow}
use Rattle.automata.specs.Rows.{from}
use Rattle.automata.specs.Checks.{belowb}
use Rattle.regions.specs.Values.{Few, bounds_of}
use Rattle.regions.specs.declared.clocks.Clocks.{Clocks}
use Rattle.calls.specs.RegionFile.{row_in, row_width}

-- the bytes of row i, counted from 0, of n clocks: rows stand after the four bytes of the header
abbrev pub listed_bytes : ℕ → List ℕ → ℕ → List ℕ
listed_bytes n list i = take (row_width n) (drop (4 + i * row_width n) list)

-- that row's bytes are all there
abbrev pub HasRow : ℕ → List ℕ → ℕ → Type 0
HasRow n list i = 4 + i * row_width n + row_width n ≤ length list

-- that row
unfoldable pub listed_row : ℕ → List ℕ → ℕ → Row
listed_row n list i = row_in n (listed_bytes n list i)

-- the first so many rows
unfoldable pub listed_rows : ℕ → List ℕ → ℕ → List Row
listed_rows n list count = map (listed_row n list) (from 0 count)

-- the list has so many records of rows of these clocks
pub record Listed (k : Clocks) (list : List ℕ) (count : ℕ) : Type 0 where
  pub few : Few k
  pub sized : length (bounds_of k) ≡ k.count
  pub low : (z : ℕ) → z < k.count → at k.bounds z ≤ 127
  pub short : count ≤ 4096
  pub room : 4 + count * row_width k.count ≤ length list
  pub are_rows : (i : ℕ) → i < count → IsRow (bounds_of k) (listed_row k.count list i)

-- of so many rows the first m are below a row, and no other is
pub record Splits (row : ℕ → Row) (count : ℕ) (w : Row) (m : ℕ) : Type 0 where
  pub within : m ≤ count
  pub below : (i : ℕ) → i < m → belowb (row i) w ≡ true
  pub others : (i : ℕ) → m ≤ i → i < count → belowb (row i) w ≡ false

-- where a region stands, or else where it would stand
abbrev pub place_of : Result ℕ ℕ → ℕ
place_of (Ok m) = m
place_of (Err m) = m
