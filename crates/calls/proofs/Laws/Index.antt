-- The main theorems, each stated whole. Assumes nothing.
use Prim.Native.Nat.{ℕ, ◌*◌, ◌≤◌, ◌<◌}
use mathlib.Core.Path.{◌≡◌}
use mathlib.Core.Logic.{◌⊎◌, ◌↔◌}
use mathlib.Core.List.{List, ◌++◌}
use lib.ListN.{length, take, drop, replicate}
use Rattle.automata.specs.Row.{Row}
use Rattle.automata.specs.Point.{Contains, later, scaled}
use Rattle.automata.specs.Automaton.{Table, Admitted}
use Rattle.automata.specs.Run.{Reached}
use Rattle.automata.specs.Next.{TimeSuccessor}
use Rattle.automata.specs.Closed.{RowOf, Closed, ExactlyOne}
use Rattle.automata.specs.Kept.{kept}
use Rattle.table_files.specs.Bytes.{AreBytes}
use Rattle.table_files.specs.Answer.{Answer, accepted, refused, packed}
use Rattle.table_files.specs.Admission.{admission, table_of}
use Rattle.calls.specs.RunFile.{RunList, run_bytes, run_answer}
use Rattle.calls.specs.RegionFile.{rows_of, row_bytes, rows_bytes, list_bytes, list_answer}
use Rattle.calls.specs.Program.{printed, printed_line, longest_list, made_file}
use Rattle.calls.specs.Follow.{followed, follow_answer, follow_buffer}
use Rattle.calls.specs.Making.{make_answer, make_buffer, list_in}
use Rattle.table_files.specs.Meaning.{Passes, Limits}
use Rattle.table_files.specs.TableBytes.{TableOf}
use Rattle.calls.specs.Meaning.{Small, Reaches, RunListOf, RegionListOf, OpenListOf, Follows, Written}
use Rattle.table_files.proofs.Laws.Admission
use Rattle.table_files.proofs.Laws.TableBytes
use Rattle.calls.proofs.Laws.RegionLists
use Rattle.calls.proofs.Laws.Runs
use Rattle.calls.proofs.Laws.Follow
use Rattle.calls.proofs.Laws.Making as Makes
use Rattle.calls.proofs.Laws.MadeFiles
use Rattle.calls.proofs.Laws.SmallAnswers
use Rattle.calls.proofs.Laws.Claims
use Rattle.calls.proofs.Laws.Prefix

-- demand 1: refusals ---------------------------------------------------------------------------------------------------------

-- "A refusal alters no byte of lent memory"
pub refusal_keeps : (table row : List ℕ) (number : ℕ) (buffer : List ℕ) (n place : ℕ) → follow_answer table row number buffer ≡ refused n place
    → follow_buffer table row number buffer ≡ buffer
refusal_keeps = Follow.refusal_keeps

pub buffer_length : (table row : List ℕ) (number : ℕ) (buffer : List ℕ) → length (follow_buffer table row number buffer) ≡ length buffer
buffer_length = Follow.buffer_length

-- making a list: "After a refusal here the buffer is all zero, and the rule of untouched memory in the first demand reads so for this call"
pub make_clears : (table : List ℕ) (records : ℕ) (buffer : List ℕ) (n place : ℕ) → make_answer table (length buffer) records ≡ refused n place
    → make_buffer table records buffer ≡ replicate (length buffer) 0
make_clears = Makes.make_clears

pub make_buffer_length : (table : List ℕ) (records : ℕ) (buffer : List ℕ) → length (make_buffer table records buffer) ≡ length buffer
make_buffer_length = Makes.make_buffer_length

-- "the first number in document 01's order that applies, with a place": numbers are 1 to 21, and the packed number tells the answer
pub admission_small : (table : List ℕ) → Small (admission table)
admission_small = SmallAnswers.admission_small

pub run_small : (table file : List ℕ) → Small (run_answer table file)
run_small = SmallAnswers.run_small

pub list_small : (table file : List ℕ) → Small (list_answer table file)
list_small = SmallAnswers.list_small

pub make_small : (table : List ℕ) (room records : ℕ) → Small (make_answer table room records)
make_small = SmallAnswers.make_small

pub packed_law : (a b : Answer) → Small a → Small b → packed a ≡ packed b → a ≡ b
packed_law = SmallAnswers.packed_law

-- "however long": so many bytes of a file tell
pub admission_prefix : (n : ℕ) → 12747 < n → (file : List ℕ) → admission (take n file) ≡ admission file
admission_prefix = Prefix.admission_prefix

pub run_prefix : (n : ℕ) → 49158 < n → (table file : List ℕ) → run_answer table (take n file) ≡ run_answer table file
run_prefix = Prefix.run_prefix

pub list_prefix : (n : ℕ) → 45060 < n → (table file : List ℕ) → list_answer table (take n file) ≡ list_answer table file
list_prefix = Prefix.list_prefix

pub follow_prefix : (n : ℕ) → 11 < n → (table row : List ℕ) (number : ℕ) (buffer : List ℕ)
    → (follow_answer table (take n row) number buffer ≡ follow_answer table row number buffer) × (follow_buffer table (take n row) number buffer ≡ follow_buffer table row number buffer)
follow_prefix = Prefix.follow_prefix

pub make_prefix : (n : ℕ) → 12747 < n → (table : List ℕ) (room records : ℕ) → make_answer (take n table) room records ≡ make_answer table room records
make_prefix = Prefix.make_prefix

pub make_buffer_prefix : (n : ℕ) → 12747 < n → (table : List ℕ) (records : ℕ) (buffer : List ℕ) → make_buffer (take n table) records buffer ≡ make_buffer table records buffer
make_buffer_prefix = Prefix.make_buffer_prefix

-- so many bytes of both files tell what is printed
pub printed_prefix : (table file : List ℕ) → printed_line (take 65536 table) (take 65536 file) ≡ printed_line table file
printed_prefix = Prefix.printed_prefix

-- demand 2: what acceptance means --------------------------------------------------------------------------------------------

-- an admitted table keeps document 01's rules and limits
pub admission_admitted : (table : List ℕ) (k : ℕ) → admission table ≡ accepted k → Admitted (table_of table)
admission_admitted = Admission.admission_admitted

pub admission_limits : (table : List ℕ) (k : ℕ) → admission table ≡ accepted k → Limits (table_of table)
admission_limits = Admission.admission_limits

-- a file is admitted with k, and T is its table, just if it is T's file, T keeps all of document 01's conditions, and the records are k
pub table_law : (file : List ℕ) (k : ℕ) (T : Table) → AreBytes file → ((admission file ≡ accepted k) × (table_of file ≡ T)) ↔ TableOf T file k
table_law = TableBytes.table_law

-- and every such file is bytes
pub table_accepts : (file : List ℕ) (k : ℕ) (T : Table) → TableOf T file k → AreBytes file × (admission file ≡ accepted k) × (table_of file ≡ T)
table_accepts = TableBytes.table_accepts

-- "a run list is accepted exactly when it is a run of the table .. that ends in a final location"
pub run_law : (table file : List ℕ) (k : ℕ) → AreBytes file → (run_answer table file ≡ accepted k) ↔ (Passes table × RunListOf (table_of table) file k)
run_law = Runs.run_law

-- and every such run within the limits has a file, which is accepted
pub run_accepts : (table : List ℕ) → Passes table → (list : RunList) → Reaches (table_of table) list
    → AreBytes (run_bytes list) × (run_answer table (run_bytes list) ≡ accepted (length list.moves))
run_accepts = Claims.run_accepts

-- "A region list is accepted exactly when it holds the start, no final location, and every next region that waiting or an edge leads to"
pub list_law : (table file : List ℕ) (k : ℕ) → AreBytes file → (list_answer table file ≡ accepted k) ↔ (Passes table × RegionListOf (table_of table) file k)
list_law = RegionLists.list_law

-- 17 is given at a place just if the row there lacks a next row and no row before it does
pub list_seventeen : (table file : List ℕ) (place : ℕ) → AreBytes file → (list_answer table file ≡ refused 17 place) ↔ (Passes table × OpenListOf (table_of table) file place)
list_seventeen = RegionLists.list_seventeen

-- "The next regions written for an edge are all those that some point of the region reaches by it, and only those; for waiting, .."
pub follow_law : (table row : List ℕ) (number : ℕ) (buffer : List ℕ) (k : ℕ) → follow_answer table row number buffer ≡ accepted k
    → Passes table × Written (table_of table) row number buffer (follow_buffer table row number buffer) k
follow_law = Follow.follow_law

-- ".. the first region after it": from every point of the row it is met, and no other row before it
pub waiting_first : (T : Table) → Limits T → (r r' : Row) → RowOf T r → Follows T 65535 r r' → (D : ℕ) (v : List ℕ) → Contains T.bounds D v r
    → ((t : ℕ) × Contains T.bounds (2 * D) (later t (scaled 2 v)) r')
    × ((t : ℕ) → Contains T.bounds D (later t v) r ⊎ ((t' : ℕ) × (t' ≤ 2 * t) × Contains T.bounds (2 * D) (later t' (scaled 2 v)) r'))
waiting_first = Claims.waiting_first

-- and where waiting leads nowhere the row is never left
pub waiting_last : (T : Table) (r : Row) → RowOf T r → ((r' : Row) → TimeSuccessor T r r' → ⊥) → (D : ℕ) (v : List ℕ) → Contains T.bounds D v r
    → (t : ℕ) → Contains T.bounds D (later t v) r
waiting_last = Claims.waiting_last

-- every row of the table is followed by every edge and by waiting, given room
pub follow_accepts : (table : List ℕ) → Passes table → (r : Row) → RowOf (table_of table) r → (number : ℕ) → (number < length (table_of table).edges) ⊎ (number ≡ 65535)
    → (buffer : List ℕ) → length (rows_bytes (followed (table_of table) number r)) ≤ length buffer
    → follow_answer table (row_bytes r) number buffer ≡ accepted (length (followed (table_of table) number r))
follow_accepts = Follow.follow_accepts

-- demand 3: one of two -------------------------------------------------------------------------------------------------------

-- "On every admitted table exactly one of two things holds: some run ends in a final location, or some closed list exists"
pub exactly_one : (table : List ℕ) (k : ℕ) → admission table ≡ accepted k → ExactlyOne (Reached (table_of table)) ((rows : List Row) × Closed (table_of table) rows)
exactly_one = Claims.exactly_one

-- "If a region list is accepted, it is closed, and no run of its table ends in a final location"
pub list_empty : (table file : List ℕ) (k : ℕ) → list_answer table file ≡ accepted k
    → (length (rows_of (table_of table) file) ≡ k) × Closed (table_of table) (rows_of (table_of table) file) × (Reached (table_of table) → ⊥)
list_empty = Claims.list_empty

-- "If a closed list has at most 4,096 rows, its file is accepted"
pub closed_accepted : (table : List ℕ) → Passes table → (rows : List Row) → Closed (table_of table) rows → length rows ≤ 4096
    → AreBytes (list_bytes rows) × (list_answer table (list_bytes rows) ≡ accepted (length rows))
closed_accepted = Claims.closed_accepted

-- an accepted run list shows the first of the two
pub run_reached : (table file : List ℕ) (k : ℕ) → run_answer table file ≡ accepted k → Reached (table_of table)
run_reached = Runs.run_reached

-- lists made from a table ------------------------------------------------------------------------------------------------------

-- the bytes that the finished list takes
abbrev pub list_made : List ℕ → ℕ → List ℕ → List ℕ
list_made = Makes.list_made

-- an accepted call leaves the file of a closed list of so many rows, which the check accepts, and no run ends in a final location
pub make_accepts : (table : List ℕ) (records : ℕ) (buffer : List ℕ) (k : ℕ) → make_answer table (length buffer) records ≡ accepted k
    → Passes table
    × RegionListOf (table_of table) (list_made table records buffer) k
    × (list_answer table (list_made table records buffer) ≡ accepted k)
    × (Reached (table_of table) → ⊥)
make_accepts = Makes.make_accepts

-- it stands first in the buffer, and "later buffer bytes stay"
pub make_writes : (table : List ℕ) (records : ℕ) (buffer : List ℕ) (k : ℕ) → make_answer table (length buffer) records ≡ accepted k
    → AreBytes (list_made table records buffer)
    × (make_buffer table records buffer ≡ list_made table records buffer ++ drop (length (list_made table records buffer)) buffer)
make_writes = Makes.make_writes

-- the same of the first bytes that a list of so many rows takes, by which the contract of the call says it
pub make_accepts_in : (table : List ℕ) (records : ℕ) (buffer : List ℕ) (k : ℕ) → make_answer table (length buffer) records ≡ accepted k
    → Passes table
    × RegionListOf (table_of table) (list_in (table_of table) k (make_buffer table records buffer)) k
    × (list_answer table (list_in (table_of table) k (make_buffer table records buffer)) ≡ accepted k)
    × (Reached (table_of table) → ⊥)
make_accepts_in = Makes.make_accepts_in

pub make_writes_in : (table : List ℕ) (records : ℕ) (buffer : List ℕ) (k : ℕ) → make_answer table (length buffer) records ≡ accepted k
    → AreBytes (list_in (table_of table) k (make_buffer table records buffer))
    × (make_buffer table records buffer
    ≡ list_in (table_of table) k (make_buffer table records buffer) ++ drop (length (list_in (table_of table) k (make_buffer table records buffer))) buffer)
make_writes_in = Makes.make_writes_in

-- 21 is given where some run does
pub make_reached : (table : List ℕ) (room records place : ℕ) → make_answer table room records ≡ refused 21 place → Reached (table_of table)
make_reached = Makes.make_reached

-- and wherever one does, if "the kept rows exceed 4,096, the buffer can't hold the finished list or the waiting list is too short" isn't so
pub make_finds : (table : List ℕ) → Passes table → (room records : ℕ) → Makes.Fits (table_of table) room records → Reached (table_of table)
    → make_answer table room records ≡ refused 21 0
make_finds = Makes.make_finds

-- where a closed list has at most 4,096 rows and its file fits, a list of no more rows is made
pub make_succeeds : (table : List ℕ) → Passes table → (rows : List Row) → Closed (table_of table) rows → length rows ≤ 4096
    → (room records : ℕ) → length (list_bytes rows) ≤ room → 4096 ≤ records
    → (make_answer table room records ≡ accepted (length (kept (table_of table)))) × (length (kept (table_of table)) ≤ length rows)
make_succeeds = Makes.make_succeeds

-- the file that the program writes: `EMPTY` is printed of it, with the count that `MADE` was printed with
pub made_empty : (table : List ℕ) (k : ℕ) → make_answer table longest_list 4096 ≡ accepted k → printed_line table (made_file table) ≡ printed "EMPTY" (accepted k)
made_empty = MadeFiles.made_empty

-- it is written wherever a closed list has at most 4,096 rows, and has no more rows than that
pub made_wherever : (table : List ℕ) → Passes table → (rows : List Row) → Closed (table_of table) rows → length rows ≤ 4096
    → (make_answer table longest_list 4096 ≡ accepted (length (kept (table_of table)))) × (length (kept (table_of table)) ≤ length rows)
made_wherever = MadeFiles.made_wherever

-- so many bytes of the table tell
pub made_prefix : (n : ℕ) → 12747 < n → (table : List ℕ) → made_file (take n table) ≡ made_file table
made_prefix = MadeFiles.made_prefix
