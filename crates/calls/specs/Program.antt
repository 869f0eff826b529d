-- What the programs print, and the list that is written. Assumes nothing.
use Rattle.std.specs.Prelude.{ℕ, zero, suc, ◌/◌, ◌%◌, Bool, true, false, cond, List, [], ◌∷◌, get_or, take, ltb}
use Prim.Native.String.{String, ◌++◌}
use Rattle.automata.specs.Row.{Row}
use Rattle.automata.specs.Checks.{same}
use Rattle.table_files.specs.Bytes.{RN}
use Rattle.table_files.specs.Answer.{Answer, accepted, refused}
use Rattle.table_files.specs.Reading.{Read, good, bad}
use Rattle.calls.specs.Text.{ascii}
use Rattle.calls.specs.RunFile.{run_answer}
use Rattle.calls.specs.RegionFile.{list_bytes, list_answer}
use Rattle.calls.specs.Making.{making, make_answer}

-- one digit
abbrev pub digit : ℕ → String
digit d = get_or ("0" ∷ "1" ∷ "2" ∷ "3" ∷ "4" ∷ "5" ∷ "6" ∷ "7" ∷ "8" ∷ "9" ∷ []) d "?"

-- a number of at most so many digits, without leading zeros
abbrev pub decimal_of : ℕ → ℕ → String
decimal_of zero n = ""
decimal_of (suc k) n = cond (ltb n 10) (digit n) (decimal_of k (n / 10) ++ digit (n % 10))

-- every count, number and place that is printed is below 100,000 (`Small` in Meaning), so five digits are never too few
unfoldable pub decimal : ℕ → String
decimal n = decimal_of 5 n

-- "Printed: `EMPTY 8` (verdict, rows)"; "printed `REFUSED 11 2` (number, place)"; "`REACHED 2` (steps)"
abbrev pub printed : String → Answer → String
printed verdict (accepted count) = verdict ++ " " ++ decimal count
printed verdict (refused number place) = "REFUSED " ++ decimal number ++ " " ++ decimal place

-- "RN first means a run, else a region list"
abbrev pub line_for : Bool → List ℕ → List ℕ → String
line_for true table file = printed "REACHED" (run_answer table file)
line_for false table file = printed "EMPTY" (list_answer table file)

-- the line that is printed for the two files
abbrev pub printed_line : List ℕ → List ℕ → String
printed_line table file = line_for (same RN (take 2 file)) table file

-- "prints one line": the bytes that are written for the two files are that line in ASCII, and a newline
abbrev pub printed_bytes : List ℕ → List ℕ → List ℕ
printed_bytes table file = ascii (printed_line table file ++ "\n")

-- lists made from tables ------------------------------------------------------------------------------------------------------

-- printed: `MADE 8` (rows); `REFUSED 21 0` (number, place)
abbrev pub made_line : Answer → String
made_line answer = printed "MADE" answer

-- that line in ASCII, and a newline
unfoldable pub made_text : Answer → List ℕ
made_text answer = ascii (made_line answer ++ "\n")

-- the buffer of the program that makes lists: a header of 4 bytes and 4,096 rows of at most 11, so that every list fits (`made_wherever` in Laws/Index)
abbrev pub longest_list : ℕ
longest_list = 45060

-- the bytes that are printed for a table; "It needs 4,096 records", and has them
abbrev pub made_bytes : List ℕ → List ℕ
made_bytes table = made_text (make_answer table longest_list 4096)

-- the finished list; none after a refusal
abbrev pub file_of : Read (List Row) → List ℕ
file_of (good rows rest) = list_bytes rows
file_of (bad number place) = []

-- the bytes of the file that is written for a table
unfoldable pub made_file : List ℕ → List ℕ
made_file table = file_of (making table longest_list 4096)
