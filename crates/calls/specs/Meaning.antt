-- What the answers mean: the words of the main theorems. Assumes nothing.
use Rattle.std.specs.Prelude.{ℕ, suc, ◌≤◌, ◌<◌, ◌≡◌, true, false, ◌⊎◌, ◌↔◌, List, ◌++◌, length, drop, get_or}
use Rattle.automata.specs.Clocks.{at}
use Rattle.automata.specs.Row.{Row}
use Rattle.automata.specs.Automaton.{Table, final}
use Rattle.automata.specs.Run.{State, Move, Run}
use Rattle.automata.specs.Next.{TimeSuccessor, EdgeSuccessor, Next}
use Rattle.automata.specs.Closed.{Mem, Ascends, first_row, RowOf, Closed}
use Rattle.table_files.specs.Answer.{Answer, accepted, refused, refusals}
use Rattle.calls.specs.RunFile.{RunList, run_bytes}
use Rattle.calls.specs.RegionFile.{row_bytes, rows_bytes, list_bytes}

-- what admission and both checks answer: a count of at most 4,096, or a refusal number and a place of at most 4,097
abbrev pub Small : Answer → Type 0
Small (accepted count) = count ≤ 4096
Small (refused number place) = (1 ≤ number) × (number ≤ refusals) × (place ≤ 4097)

-- runs -----------------------------------------------------------------------------------------------------------------------

-- "delay (four bytes), n values after the update (four bytes each)"
pub record Narrow (m : Move) : Type 0 where
  pub delay : m.delay < 4294967296
  pub values : (z : ℕ) → z < length m.values → at m.values z < 4294967296

-- the run list is within document 01's limits, and is a run of the table that ends in a final location
pub record Reaches (T : Table) (list : RunList) : Type 0 where
  pub scale_low : 1 ≤ list.scale
  pub scale_high : list.scale ≤ 10000
  pub few : length list.moves ≤ 2048
  pub narrow : (m : Move) → Mem m list.moves → Narrow m
  pub state : State
  pub run : Run T list.scale list.moves state
  pub ends : final T state.location ≡ true

-- the file is that of such a run list, of so many steps
pub record RunListOf (T : Table) (file : List ℕ) (steps : ℕ) : Type 0 where
  pub list : RunList
  pub bytes : file ≡ run_bytes list
  pub count : length list.moves ≡ steps
  pub reaches : Reaches T list

-- region lists ---------------------------------------------------------------------------------------------------------------

-- the file is that of a closed list of so many rows, at most 4,096
pub record RegionListOf (T : Table) (file : List ℕ) (count : ℕ) : Type 0 where
  pub rows : List Row
  pub bytes : file ≡ list_bytes rows
  pub sized : length rows ≡ count
  pub few : count ≤ 4096
  pub closed : Closed T rows

-- the row at this place has a next row, by waiting or by an edge, that is not in the list
pub record Lacks (T : Table) (rows : List Row) (place : ℕ) : Type 0 where
  pub number : ℕ
  pub place_is : place ≡ suc number
  pub number_in : number < length rows
  pub row : Row
  pub row_is : (d : Row) → get_or rows number d ≡ row
  pub next : Row
  pub leads : Next T row next
  pub missing : Mem next rows → ⊥

-- the file is that of a list of at most 4,096 rows that lacks nothing of a closed list but next rows: the row at this place lacks one, and no row
-- before it does
pub record OpenListOf (T : Table) (file : List ℕ) (place : ℕ) : Type 0 where
  pub rows : List Row
  pub bytes : file ≡ list_bytes rows
  pub few : length rows ≤ 4096
  pub ascends : Ascends rows
  pub are_rows : (r : Row) → Mem r rows → RowOf T r
  pub starts : Mem (first_row T) rows
  pub not_final : (r : Row) → Mem r rows → final T r.location ≡ false
  pub lacks : Lacks T rows place
  pub first : (before : ℕ) → before < place → Lacks T rows before → ⊥

-- following ------------------------------------------------------------------------------------------------------------------

-- by waiting, for 65,535; else by the edge of this number
abbrev pub Follows : Table → ℕ → Row → Row → Type 0
Follows T number r r' =
    ((number ≡ 65535) × TimeSuccessor T r r')
    ⊎ ((number < length T.edges) × EdgeSuccessor T number r r')

-- the row record is that of a row of the table, and the buffer has its next rows, "ascending, none twice, each from the next free byte on;
-- later bytes stay"
pub record Written (T : Table) (row : List ℕ) (number : ℕ) (buffer after : List ℕ) (count : ℕ) : Type 0 where
  pub from : Row
  pub bytes : row ≡ row_bytes from
  pub is_row : RowOf T from
  pub rows : List Row
  pub ascend : Ascends rows
  pub exact : (r' : Row) → Mem r' rows ↔ Follows T number from r'
  pub sized : length rows ≡ count
  pub fits : length (rows_bytes rows) ≤ length buffer
  pub written : after ≡ rows_bytes rows ++ drop (length (rows_bytes rows)) buffer
