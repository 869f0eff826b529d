-- Following one row: the answer, and the buffer after the call. Assumes nothing.
use Rattle.std.specs.Prelude.{ℕ, cond, ◌||◌, List, ◌++◌, length, drop, leb, ltb, eqb}
use Rattle.automata.specs.Row.{Row}
use Rattle.automata.specs.Automaton.{Table}
use Rattle.automata.specs.Next.{time_successors, edge_successors}
use Rattle.table_files.specs.Answer.{Answer}
use Rattle.table_files.specs.Reading.{Read, good, bad, Reader, ◌>>=◌, ◌>>◌, carry, done, require, end, answered}
use Rattle.table_files.specs.Admission.{admitted}
use Rattle.calls.specs.RegionFile.{row_record, rows_bytes}

-- "an edge number or 65,535 for waiting"
unfoldable pub followed : Table → ℕ → Row → List Row
followed T number r = cond (eqb number 65535) (time_successors T r) (edge_successors T number r)

-- "a row to follow is record 0"; 7 to 9, then "The number to follow is neither an edge nor 65,535 (place 0)" and "The buffer is too short for
-- all next rows (place 0)", for a buffer of so many bytes
unfoldable pub rows_followed : Table → ℕ → ℕ → Reader (List Row)
rows_followed T number room = do
  r ← row_record T 0
  end 9 1
  require 18 0 (ltb number (length T.edges) || eqb number 65535)
  require 19 0 (leb (length (rows_bytes (followed T number r))) room)
  done (followed T number r)

-- "All calls check 1 to 6 first"
unfoldable pub following : List ℕ → List ℕ → ℕ → List ℕ → Read (List Row)
following table row number buffer = carry (admitted table) (λ T _. rows_followed T number (length buffer) row)

-- "Acceptance carries the count of .. rows written"
unfoldable pub follow_answer : List ℕ → List ℕ → ℕ → List ℕ → Answer
follow_answer table row number buffer = answered length (following table row number buffer)

-- "each from the next free byte on; later bytes stay"; "A refusal alters no byte of lent memory" (demand 1)
abbrev pub written : Read (List Row) → List ℕ → List ℕ
written (good rows rest) buffer = rows_bytes rows ++ drop (length (rows_bytes rows)) buffer
written (bad number place) buffer = buffer

-- the buffer after the call
unfoldable pub follow_buffer : List ℕ → List ℕ → ℕ → List ℕ → List ℕ
follow_buffer table row number buffer = written (following table row number buffer) buffer
