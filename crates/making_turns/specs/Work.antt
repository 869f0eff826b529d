-- How a list is made, turn by turn. Assumes nothing.
use Rattle.std.specs.Prelude.{ℕ, suc, ◌+◌, ◌*◌, ◌-◌, ◌%◌, ◌≤◌, ◌<◌, ◌≡◌, Bool, true, false, cond, ◌⊎◌, List, length, replicate, set, get_or, drop, Option, None, Some, Result, Ok, Err}
use Rattle.automata.specs.Row.{Row}
use Rattle.automata.specs.Automaton.{Table}
use Rattle.automata.specs.Closed.{Mem, Ascends, first_row}
use Rattle.automata.specs.Kept.{Kept, Entered}
use Rattle.regions.specs.Values.{row_of}
use Rattle.regions.specs.declared.clocks.Clocks.{Clocks}
use Rattle.regions.specs.declared.region.Region.{Region}
use Rattle.table_files.specs.Reading.{bad}
use Rattle.table_files.specs.Admission.{table_of}
use Rattle.table_records.specs.declared.head.Head.{Head}
use Rattle.table_records.specs.declared.refusal.Refusal.{Refusal}
use Rattle.table_records.specs.Refusal.{number_of}
use Rattle.tables.specs.Values.{answer_of, Describes}
use Rattle.tables.specs.Bounds.{edge_start}
use Rattle.calls.specs.RegionFile.{row_width}
use Rattle.calls.specs.Making.{making, make_answer, make_buffer}
use Rattle.listed_rows.specs.Listed.{listed_row, listed_rows, Listed}
use Rattle.kept_rows.specs.Births.{birth}
use Rattle.next_steps.specs.Steps.{plain, Settled, NewBy}
use Rattle.making_turns.specs.declared.work.Work as work_code
use Rattle.next_steps.specs.declared.stride.Stride as stride_code

-- a record of zeros
abbrev pub blank : Region
blank = record { location = 0; intervals = replicate 4 0; ranks = replicate 4 0 }

-- the rows in the buffer ----------------------------------------------------------------------------------------------------------

-- by plain steps all rows have been followed that were found before the one at the top, and that one by the steps before this one, unless the others are
-- being walked
abbrev pub Followed : ℕ → ℕ → Bool → ℕ → ℕ → Type 0
Followed top step walking m born = (born < top) ⊎ ((born ≡ top) × (walking ≡ false) × (m < step))

-- by other steps those that were found before the start, and those before the top by the steps before this one, if they are being walked
abbrev pub Walked : ℕ → ℕ → ℕ → Bool → ℕ → ℕ → Type 0
Walked start top step walking m born = (born < start) ⊎ ((walking ≡ true) × (born < top) × (m < step))

-- so many kept rows stand in the buffer, ascending, with the numbers of their finding; which of them are settled by which steps
pub record Grown (T : Table) (k : Clocks) (before out : List ℕ) (count start top step : ℕ) (walking entered : Bool) : Type 0 where
  pub listed : Listed k out count
  pub ascends : Ascends (listed_rows k.count out count)
  pub births : (i : ℕ) → i < count → birth k.count out i < count
  pub born : (b : ℕ) → b < count → (i : ℕ) × (i < count) × (birth k.count out i ≡ b)
  pub kept : (r : Row) → Mem r (listed_rows k.count out count) → Kept T r
  pub begun : Mem (first_row T) (listed_rows k.count out count)
  pub enters : entered ≡ true → Entered T
  pub same_length : length out ≡ length before
  pub rest : drop (4 + count * row_width k.count) out ≡ drop (4 + count * row_width k.count) before
  pub low : start ≤ top
  pub high : top ≤ count
  pub walks : walking ≡ true → start < top
  pub follows : walking ≡ false → top < count
  pub followed : (m i : ℕ) → m ≤ length T.edges → plain T m ≡ true → i < count → Followed top step walking m (birth k.count out i)
      → Settled T (listed_rows k.count out count) entered m (listed_row k.count out i)
  pub walked : (m i : ℕ) → m ≤ length T.edges → plain T m ≡ false → i < count → Walked start top step walking m (birth k.count out i)
      → Settled T (listed_rows k.count out count) entered m (listed_row k.count out i)

-- the waiting list has each row at the number of its finding
abbrev pub Tied : ℕ → List ℕ → ℕ → List Region → Type 0
Tied n out count ws = (i : ℕ) → i < count → row_of n (get_or ws (birth n out i) blank) ≡ listed_row n out i

-- turns -----------------------------------------------------------------------------------------------------------------------------

-- 1 for work that goes on
abbrev pub going : Option (Result ℕ Refusal) → ℕ
going None = 1
going (Some a) = 0

-- what is left to do: it falls with every turn
unfoldable pub left : {H : Type 0} → work_code.Work H → ℕ
left s = (4096 - s.count) * 100000 + (4096 - s.top) * 4 + (4096 - s.start) * 2 + cond s.walking 1 0 + going s.ended

-- the waiting list once the row is stored that the turn before wanted to be
abbrev pub stored : {H : Type 0} → List Region → work_code.Work H → List Region
stored ws s = set ws s.place s.row

-- where the record of the step's edge begins
abbrev pub Stands : List ℕ → work_code.Work Head → Type 0
Stands table s = (j : ℕ) → s.last.step ≡ suc j → s.last.here ≡ edge_start s.head.clocks.count s.head.locations table j

-- work stands so, with these waiting rows: `before` is the buffer as it was lent, with so many waiting records
pub record Standing (table before : List ℕ) (records : ℕ) (out : List ℕ) (ws : List Region) (s : work_code.Work Head) : Type 0 where
  pub describes : Describes table s.head
  pub grown : Grown (table_of table) s.head.clocks before out s.count s.start s.top s.last.step s.walking s.last.entered
  pub on : s.ended ≡ None
  pub step_in : s.last.step ≤ suc s.head.edges
  pub stands : Stands table s
  pub edge_next : s.walking ≡ true → 1 ≤ s.last.step
  pub walked_from : (v : Region) → s.last.from ≡ Some v → Mem (row_of s.head.clocks.count v) (listed_rows s.head.clocks.count out s.count)
  pub sized : length ws ≡ records
  pub enough : 4096 ≤ records
  pub place_in : s.place < records
  pub again : get_or ws s.place blank ≡ s.row
  pub take_in : s.take < records
  pub takes : s.walking ≡ false → s.take ≡ s.top
  pub tied : Tied s.head.clocks.count out s.count ws

-- work goes on with this state, which asks for a row to be stored first
pub record Working (table before : List ℕ) (records : ℕ) (out : List ℕ) (ws : List Region) (s : work_code.Work Head) : Type 0 where
  pub standing : Standing table before records out (stored ws s) s
  pub sized : length ws ≡ records
  pub place_in : s.place < records
  pub take_in : s.take < records
  pub same_length : length out ≡ length before

-- work has ended: the answer and the buffer are those of the definitions
pub record Ended (table before : List ℕ) (records : ℕ) (out : List ℕ) (a : Result ℕ Refusal) : Type 0 where
  pub answer : answer_of a ≡ make_answer table (length before) records
  pub buffer : out ≡ make_buffer table records before

-- it goes on, or has ended
pub record Loops (table before : List ℕ) (records : ℕ) (out : List ℕ) (ws : List Region) (s : work_code.Work Head) : Type 0 where
  pub goes : s.ended ≡ None → Working table before records out ws s
  pub ends : (a : Result ℕ Refusal) → s.ended ≡ Some a → Ended table before records out a

-- it begins, or has ended at once
abbrev pub Begins : List ℕ → List ℕ → ℕ → List ℕ → List Region → Result (work_code.Work Head) Refusal → Type 0
Begins table before records out ws (Ok s) = Working table before records out ws s
Begins table before records out ws (Err r) = Ended table before records out (Err r)

-- the same before the buffer is cleared: what is refused is refused by the definitions
abbrev pub BeginsRows : List ℕ → List ℕ → ℕ → List ℕ → List Region → Result (work_code.Work Head) Refusal → Type 0
BeginsRows table before records out ws (Ok s) = Working table before records out ws s
BeginsRows table before records out ws (Err r) = (making table (length before) records ≡ bad (number_of r.fault) r.place) × (length out ≡ length before)

-- one after the other ------------------------------------------------------------------------------------------------------------------

-- work begins with the initial row, which is the first to be stored and to be taken
abbrev pub starting : {H : Type 0} → H → Region → work_code.Work H
starting head x = record {
  ended = None;
  place = 0;
  row = x;
  take = 0;
  head = head;
  count = 1;
  start = 0;
  top = 0;
  walking = false;
  last = record { next = None; step = 0; here = 0; entered = false; «from» = None };
}

-- a look for a new row has come so far
abbrev pub went : {H : Type 0} → work_code.Work H → stride_code.Stride → work_code.Work H
went s q = record s { last = q }

-- the next row is followed
abbrev pub next_row : {H : Type 0} → work_code.Work H → work_code.Work H
next_row s = record s { take = s.top + 1; top = s.top + 1; last = record s.last { step = 0 } }

-- the rows that were followed are walked, from the edge on whose record begins here
abbrev pub to_walks : {H : Type 0} → work_code.Work H → ℕ → work_code.Work H
to_walks s first = record s { top = s.top + 1; walking = true; last = record s.last { step = 1; here = first } }

-- those that were found since are followed
abbrev pub to_rows : {H : Type 0} → work_code.Work H → work_code.Work H
to_rows s = record s { take = s.top; start = s.top; walking = false; last = record s.last { step = 0 } }

-- a row is added, which the next turn stores
abbrev pub adding : {H : Type 0} → work_code.Work H → Region → work_code.Work H
adding s x = record s { place = s.count; row = x; count = s.count + 1 }

-- work ends with a refusal
abbrev pub refusing : {H : Type 0} → work_code.Work H → Refusal → work_code.Work H
refusing s r = record s { ended = Some (Err r) }

-- work ends with a list: the answer is the count, which is far below 65,536
abbrev pub ending : {H : Type 0} → work_code.Work H → work_code.Work H
ending s = record s { ended = Some (Ok (s.count % 65536)) }

-- new rows ----------------------------------------------------------------------------------------------------------------------------

-- a row is new, and due from one of those that are kept
pub record Comes (T : Table) (rows : List Row) (new : Row) : Type 0 where
  pub by : ℕ
  pub parent : Row
  pub listed : Mem parent rows
  pub is_new : NewBy T rows by parent new
