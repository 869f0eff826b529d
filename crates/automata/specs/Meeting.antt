-- Rows that runs come to, and rows that successors lead to. Assumes nothing.
use Rattle.std.specs.Prelude.{ℕ, ◌≡◌, List}
use Rattle.automata.specs.Row.{Row}
use Rattle.automata.specs.Point.{Contains, later}
use Rattle.automata.specs.Automaton.{Table}
use Rattle.automata.specs.Run.{State, Move, Run}
use Rattle.automata.specs.Closed.{Mem, RowOf, first_row}
use Rattle.automata.specs.Next.{next_rows}

-- the row is the table's, and contains a point that some run, with a wait after its last step, gets to
pub record Met (T : Table) (r : Row) : Type 0 where
  pub row_of : RowOf T r
  pub D : ℕ
  pub moves : List Move
  pub state : State
  pub run : Run T D moves state
  pub located : r.location ≡ state.location
  pub delay : ℕ
  pub holds : Contains T.bounds D (later delay state.values) r

-- what is reached from the start by a list-valued function
pub data Reach {A : Type 0} (next : A → List A) (start : A) : A → Type 0 where
  origin : Reach next start start
  further : {a b : A} → Reach next start a → Mem b (next a) → Reach next start b

-- the row is reached from the initial row by waiting and by edges
abbrev pub Successive : Table → Row → Type 0
Successive T r = Reach (next_rows T) (first_row T) r
