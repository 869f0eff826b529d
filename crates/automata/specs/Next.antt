-- Next rows, at the level of the table: which rows are due from a row, and the lists of them, which compute. What the table itself asks of next
-- rows is said here and nowhere else. Assumes nothing.
use Rattle.std.specs.Prelude.{ℕ, ◌<◌, ◌≡◌, ◌⊎◌, List, ◌++◌, length}
use Rattle.std.proofs.Math.Option.{some}
use Rattle.automata.specs.Row.{Row}
use Rattle.automata.specs.Wait.{wait}
use Rattle.automata.specs.Edge.{Leads}
use Rattle.automata.specs.Automaton.{Table, edge}
use Rattle.automata.specs.Rows.{from, gather}
use Rattle.automata.specs.Successors.{wait_rows, edge_rows}

-- due rows ----------------------------------------------------------------------------------------------------------------------

-- "the wait row": r' is due from r by waiting
pub record TimeSuccessor (T : Table) (r r' : Row) : Type 0 where
  pub waits : wait T.bounds r ≡ some r'

-- an edge row: r' is due from r by edge i
pub record EdgeSuccessor (T : Table) (i : ℕ) (r r' : Row) : Type 0 where
  pub leads : Leads T.bounds (edge T i) r r'

-- by a wait, or by an edge
abbrev pub Next : Table → Row → Row → Type 0
Next T r r' = TimeSuccessor T r r' ⊎ ((i : ℕ) × (i < length T.edges) × EdgeSuccessor T i r r')

-- as lists ----------------------------------------------------------------------------------------------------------------------

-- the row that is due by waiting, if there is one
unfoldable pub time_successors : Table → Row → List Row
time_successors T r = wait_rows T.bounds r

-- the rows that are due by edge i, ascending
unfoldable pub edge_successors : Table → ℕ → Row → List Row
edge_successors T i r = edge_rows T.bounds (edge T i) r

-- "all edge rows": those that are due by some edge, edge by edge
abbrev pub by_edges : Table → Row → List Row
by_edges T r = gather (λ (i : ℕ). edge_successors T i r) (from 0 (length T.edges))

-- "the wait row and all edge rows" of a row
unfoldable pub next_rows : Table → Row → List Row
next_rows T r = time_successors T r ++ by_edges T r
