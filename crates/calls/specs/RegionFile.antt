-- The region list: reading it and checking it against a table. Assumes nothing.
use Rattle.std.specs.Prelude.{ℕ, ◌+◌, ◌*◌, not, List, [], ◌∷◌, ◌++◌, length, leb, ltb}
use Rattle.automata.specs.Clocks.{at, each}
use Rattle.automata.specs.Row.{Row}
use Rattle.automata.specs.Automaton.{Table, clocks, final}
use Rattle.automata.specs.Closed.{first_row}
use Rattle.automata.specs.Rows.{gather, isrowb}
use Rattle.automata.specs.Next.{next_rows}
use Rattle.automata.specs.Checks.{every, has, belowb}
use Rattle.table_files.specs.Bytes.{RL, RW, two, two_bytes}
use Rattle.table_files.specs.Answer.{Answer}
use Rattle.table_files.specs.Reading.{Read, good, bad, Reader, ◌>>=◌, ◌>>◌, carry, done, next_record, require, end, records, answered}
use Rattle.table_files.specs.Admission.{admitted}

-- the file -------------------------------------------------------------------------------------------------------------------

-- "A row is RW, location, n interval numbers, n ranks"
abbrev pub row_in : ℕ → List ℕ → Row
row_in n b = record {
  location = at b 2;
  intervals = each n (λ (z : ℕ). at b (3 + z));
  ranks = each n (λ (z : ℕ). at b (3 + n + z));
}

-- the bytes of a row record of n clocks
unfoldable pub row_width : ℕ → ℕ
row_width n = 3 + 2 * n

-- "A field of it is out of range, ranks included"
unfoldable pub row_record : Table → ℕ → Reader Row
row_record T place = do
  b ← next_record 7 place RW (row_width (clocks T))
  require 8 place (ltb (at b 2) T.locations)
  require 8 place (isrowb T.bounds (row_in (clocks T) b))
  done (row_in (clocks T) b)

-- "RL, rows (two bytes, 0 to 4,096), then rows"
unfoldable pub region_file : Table → Reader (List Row)
region_file T = do
  b ← next_record 7 0 RL 4
  let count : ℕ = two b 2
  require 8 0 (leb count 4096)
  rows ← records (row_record T) 1 count
  end 9 (1 + count)
  done rows

-- the rows that a file describes
abbrev pub rows_read : Read (List Row) → List Row
rows_read (good rows rest) = rows
rows_read (bad number place) = []

-- the rows of a file
unfoldable pub rows_of : Table → List ℕ → List Row
rows_of T file = rows_read (region_file T file)

-- a row's record
abbrev pub row_bytes : Row → List ℕ
row_bytes r = RW ++ (r.location ∷ (r.intervals ++ r.ranks))

-- the records of rows, one after the other
abbrev pub rows_bytes : List Row → List ℕ
rows_bytes rows = gather row_bytes rows

-- "RL, their count and the rows, with nothing after them"
abbrev pub list_bytes : List Row → List ℕ
list_bytes rows = RL ++ (two_bytes (length rows) ++ rows_bytes rows)

-- the check ------------------------------------------------------------------------------------------------------------------

-- "A row isn't above the one before"; the first of these rows has this place
unfoldable pub ascending : ℕ → List Row → Reader (Unit {0})
ascending place [] = done tt
ascending place (r ∷ []) = done tt
ascending place (r ∷ (s ∷ rows)) = do
  require 14 (place + 1) (belowb r s)
  ascending (place + 1) (s ∷ rows)

-- "A row's location is final"
unfoldable pub none_final : Table → ℕ → List Row → Reader (Unit {0})
none_final T place [] = done tt
none_final T place (r ∷ rows) = do
  require 15 place (not (final T r.location))
  none_final T (place + 1) rows

-- "A row lacks a next row", "the wait row" or one of "all edge rows", in the list of all the rows; it "shall name the least row that lacks a
-- next row", and the first of these rows has this place
unfoldable pub none_open : Table → List Row → ℕ → List Row → Reader (Unit {0})
none_open T all place [] = done tt
none_open T all place (r ∷ rows) = do
  require 17 place (every (has all) (next_rows T r))
  none_open T all (place + 1) rows

-- 7 to 9, then 14 to 17, "each at its least place"; "The initial row is missing (place 0)"
unfoldable pub list_checked : Table → Reader (List Row)
list_checked T = do
  rows ← region_file T
  ascending 1 rows
  none_final T 1 rows
  require 16 0 (has rows (first_row T))
  none_open T rows 1 rows
  done rows

-- "All calls check 1 to 6 first"; "Acceptance carries the count of .. rows"
unfoldable pub list_answer : List ℕ → List ℕ → Answer
list_answer table file = answered length (carry (admitted table) (λ T _. list_checked T file))
