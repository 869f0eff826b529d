-- Making a region list from a table: the answer, and the buffer after the call. Assumes nothing.
use Rattle.std.specs.Prelude.{ℕ, ◌+◌, ◌*◌, not, ◌&&◌, List, [], ◌++◌, length, take, drop, replicate, leb}
use Rattle.automata.specs.Row.{Row}
use Rattle.automata.specs.Automaton.{Table, clocks}
use Rattle.automata.specs.Kept.{kept, enters}
use Rattle.table_files.specs.Answer.{Answer}
use Rattle.table_files.specs.Reading.{Read, good, bad, Reader, ◌>>◌, carry, done, require, answered}
use Rattle.table_files.specs.Admission.{admitted}
use Rattle.calls.specs.RegionFile.{row_width, list_bytes}

-- "20 when the kept rows exceed 4,096, the buffer can't hold the finished list or the waiting list is too short" ("It needs 4,096 records"); "21 when that
-- isn't so and a final location was entered, both .. place 0"; for a buffer of so many bytes and a waiting list of so many records
unfoldable pub rows_made : Table → ℕ → ℕ → Reader (List Row)
rows_made T room records = do
  require 20 0 (leb (length (kept T)) 4096 && leb (length (list_bytes (kept T))) room && leb 4096 records)
  require 21 0 (not (enters T (kept T)))
  done (kept T)

-- ".. after the table's own refusals"; no file but the table is read
unfoldable pub making : List ℕ → ℕ → ℕ → Read (List Row)
making table room records = carry (admitted table) (λ T _. rows_made T room records [])

-- the count of rows, or the refusal
unfoldable pub make_answer : List ℕ → ℕ → ℕ → Answer
make_answer table room records = answered length (making table room records)

-- "The result is the finished list, header and ascending rows; later buffer bytes stay"; "After a refusal here the buffer is all zero"
abbrev pub made_in : Read (List Row) → List ℕ → List ℕ
made_in (good rows rest) buffer = list_bytes rows ++ drop (length (list_bytes rows)) buffer
made_in (bad number place) buffer = replicate (length buffer) 0

-- the buffer after the call, for a waiting list of so many records
unfoldable pub make_buffer : List ℕ → ℕ → List ℕ → List ℕ
make_buffer table records buffer = made_in (making table (length buffer) records) buffer

-- the file of a list of so many rows of the table, which a buffer begins with: a header of four bytes, and the rows
abbrev pub list_in : Table → ℕ → List ℕ → List ℕ
list_in T count buffer = take (4 + count * row_width (clocks T)) buffer
