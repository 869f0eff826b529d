-- The main theorems, each stated whole. Assumes nothing.
use Prim.Native.Nat.{ℕ, ◌*◌, ◌≤◌, ◌<◌}
use mathlib.Core.Path.{◌≡◌}
use mathlib.Core.Bool.{true, false}
use mathlib.Core.Logic.{◌⊎◌, ◌↔◌}
use mathlib.Core.Option.{none, some}
use mathlib.Core.List.{List, map}
use lib.ListN.{length}
use Rattle.automata.specs.Comparison.{equal, holds}
use Rattle.automata.specs.Clocks.{at, greatest}
use Rattle.automata.specs.Row.{Row, IsRow}
use Rattle.automata.specs.Point.{Contains, later, scaled}
use Rattle.automata.specs.Wait.{wait, Waits}
use Rattle.automata.specs.Edge.{Guard, Guarded, GuardsIn, Edge, Allowed, Bounded, Leads}
use Rattle.automata.specs.Automaton.{Table, edge, Admitted}
use Rattle.automata.specs.Run.{State, Move, Run, scaled_state, scaled_move, Reached}
use Rattle.automata.specs.Closed.{Mem, Ascends, RowOf, Closed, ExactlyOne}
use Rattle.automata.specs.Successors.{guardsb, leadsb, wait_rows, edge_rows}
use Rattle.automata.specs.Next.{TimeSuccessor, EdgeSuccessor, Next, time_successors, edge_successors, next_rows}
use Rattle.automata.specs.Checks.{closedb}
use Rattle.automata.specs.Meeting.{Met, Successive}
use Rattle.automata.specs.Kept.{kept, enters, Kept, Entered}
use Rattle.automata.proofs.Laws.Comparison
use Rattle.automata.proofs.Laws.Scale
use Rattle.automata.proofs.Laws.Waiting
use Rattle.automata.proofs.Laws.Finer
use Rattle.automata.proofs.Laws.Time
use Rattle.automata.proofs.Laws.Guards
use Rattle.automata.proofs.Laws.Exists
use Rattle.automata.proofs.Laws.Unique
use Rattle.automata.proofs.Laws.Leads
use Rattle.automata.proofs.Laws.Successors
use Rattle.automata.proofs.Laws.Next as Due
use Rattle.automata.proofs.Laws.Checks
use Rattle.automata.proofs.Laws.Sound
use Rattle.automata.proofs.Laws.Complete
use Rattle.automata.proofs.Laws.Kept as Keeping

-- tables ------------------------------------------------------------------------------------------------------------------------

-- on every admitted table exactly one holds: some run ends in a final location, or some list of rows is closed
pub exactly_one : (T : Table) → Admitted T → ExactlyOne (Reached T) ((rows : List Row) × Closed T rows)
exactly_one = Complete.exactly_one

-- where a list of rows is closed, no run ends in a final location
pub sound : (T : Table) (rows : List Row) → Closed T rows → Reached T → ⊥
sound = Sound.sound

-- one of the two holds
pub complete : (T : Table) → Admitted T → Reached T ⊎ ((rows : List Row) × Closed T rows)
complete = Complete.complete

-- a closed list holds every row that a run, with a wait after its last step, comes to
pub met_listed : (T : Table) (rows : List Row) → Closed T rows → (r : Row) → Met T r → Mem r rows
met_listed = Sound.met_listed

-- a run comes to every row that waiting and edges lead to from the initial row
pub successive_met : (T : Table) → Admitted T → (r : Row) → Successive T r → Met T r
successive_met = Complete.reach_met

-- a run counted in 1/D is a run counted in 1/(k * D)
pub run_scaling : (k : ℕ) (p : 0 < k) {T : Table} {D : ℕ} {ms : List Move} {s : State} → Run T D ms s
    → Run T (k * D) (map (scaled_move k) ms) (scaled_state k s)
run_scaling = Finer.run_scaled

-- whether a list of rows is closed is decided by a test that computes
pub closed_law : (T : Table) → Admitted T → (rows : List Row) → (closedb T rows ≡ true) ↔ Closed T rows
closed_law = Checks.closed_law

-- lists made from a table ---------------------------------------------------------------------------------------------------------

-- the kept rows ascend
pub kept_ascends : (T : Table) → Ascends (kept T)
kept_ascends = Keeping.kept_ascends

-- next rows lead to them from the initial one through rows outside final locations, and to no other row, if they are at most 4,096
pub kept_sound : (T : Table) (r : Row) → Mem r (kept T) → Kept T r
kept_sound = Keeping.kept_sound

pub kept_complete : (T : Table) → length (kept T) ≤ 4096 → (r : Row) → Kept T r → Mem r (kept T)
kept_complete = Keeping.kept_complete

-- no other ascending list has just those rows
pub kept_is : (T : Table) (rows : List Row) → Ascends rows → ((r : Row) → Mem r rows → Kept T r) → ((r : Row) → Kept T r → Mem r rows) → length rows ≤ 4096
    → kept T ≡ rows
kept_is = Keeping.kept_is

-- no ascending list of such rows is longer, unless theirs is longer than 4,096
pub kept_most : (T : Table) (rows : List Row) → Ascends rows → ((r : Row) → Mem r rows → Kept T r) → (length rows ≤ length (kept T)) ⊎ (4096 < length (kept T))
kept_most = Keeping.kept_most

-- a run comes to each of them
pub kept_met : (T : Table) → Admitted T → {r : Row} → Kept T r → Met T r
kept_met = Keeping.kept_met

-- where a final location is entered, some run ends in one
pub entered_reached : (T : Table) → Admitted T → Entered T → Reached T
entered_reached = Keeping.entered_reached

-- where none is, the kept rows are a closed list
pub kept_closed : (T : Table) → Admitted T → length (kept T) ≤ 4096 → enters T (kept T) ≡ false → Closed T (kept T)
kept_closed = Keeping.kept_closed

-- so the test for it tells whether some run does
pub entered_law : (T : Table) → Admitted T → length (kept T) ≤ 4096 → (enters T (kept T) ≡ true) ↔ Reached T
entered_law = Keeping.entered_law

-- points and rows ---------------------------------------------------------------------------------------------------------------

-- every point lies in a row of each location
pub existence : (c : List ℕ) (D : ℕ) (v : List ℕ) (l : ℕ) → 0 < D → length v ≡ length c → (r : Row) × (r.location ≡ l) × IsRow c r × Contains c D v r
existence = Exists.existence

-- in one row only
pub uniqueness : (c : List ℕ) (D : ℕ) (v : List ℕ) (r s : Row) → r.location ≡ s.location → IsRow c r → IsRow c s → Contains c D v r → Contains c D v s → r ≡ s
uniqueness = Unique.row_unique

-- the same one, in whatever counts
pub scaling : (k : ℕ) → 0 < k → (c : List ℕ) (D : ℕ) (v : List ℕ) (r : Row) → Contains c D v r ↔ Contains c (k * D) (scaled k v) r
scaling = Scale.scaling

-- waiting -----------------------------------------------------------------------------------------------------------------------

-- after any delay the point is in a row that waits lead to
pub coverage : (c : List ℕ) (D : ℕ) (t : ℕ) (v : List ℕ) (r : Row) → IsRow c r → Contains c D v r → (s : Row) × Waits c r s × Contains c D (later t v) s
coverage = Time.coverage

-- from every point of a row the next row is met, at a half count
pub progress : (c : List ℕ) (D : ℕ) (v : List ℕ) (r r' : Row) → IsRow c r → Contains c D v r → wait c r ≡ some r'
    → (t : ℕ) × Contains c (2 * D) (later t (scaled 2 v)) r'
progress = Time.progress

-- and it is met first: the point is still in its row, or has been in the next by then
pub first : (c : List ℕ) (D : ℕ) (v : List ℕ) (r r' : Row) → IsRow c r → Contains c D v r → wait c r ≡ some r' → (t : ℕ)
    → Contains c D (later t v) r ⊎ ((t' : ℕ) × (t' ≤ 2 * t) × Contains c (2 * D) (later t' (scaled 2 v)) r')
first = Time.first

-- where there is no next row the point stays
pub rest : (c : List ℕ) (D : ℕ) (v : List ℕ) (r : Row) → IsRow c r → Contains c D v r → wait c r ≡ none → (t : ℕ) → Contains c D (later t v) r
rest = Time.rest

-- the next row is a row
pub wait_is_row : (c : List ℕ) (r r' : Row) → IsRow c r → wait c r ≡ some r' → IsRow c r'
wait_is_row = Waiting.wait_row

-- comparisons -------------------------------------------------------------------------------------------------------------------

-- = holds just where the numbers are equal, and comparison 5 just where they differ
pub equal_law : (x y : ℕ) → (holds equal x y ≡ true) ↔ (x ≡ y)
equal_law = Comparison.equal_law

pub not_equal_law : (x y : ℕ) → (holds 5 x y ≡ true) ↔ (x ≡ y → ⊥)
not_equal_law = Comparison.not_equal_law

-- edges -------------------------------------------------------------------------------------------------------------------------

-- a clock compares with a constant as its interval does with twice that, by every comparison
pub guard_holds : (c : List ℕ) (D : ℕ) (v : List ℕ) (r : Row) → Contains c D v r → (cmp z k : ℕ) → z < length c → k ≤ at c z
    → holds cmp (at v z) (k * D) ≡ holds cmp (at r.intervals z) (2 * k)
guard_holds = Guards.guard_holds

-- so the guards hold at every point of a row or at none
pub guards_law : (c : List ℕ) (D : ℕ) (v : List ℕ) (r : Row) → Contains c D v r → (gs : List Guard) → GuardsIn c gs → (guardsb r gs ≡ true) ↔ Guarded D v gs
guards_law = Guards.guards_law

-- the executable test is the semantic law
pub leads_law : (c : List ℕ) (e : Edge) (r r' : Row) → IsRow c r → Bounded c e → (leadsb c e r r' ≡ true) ↔ Leads c e r r'
leads_law = Leads.leads_law

-- what leads from one point of the row leads from every point, in any unit k times finer
pub from_any_point : (c : List ℕ) (e : Edge) (r r' : Row) → IsRow c r → Bounded c e → Leads c e r r'
    → (D : ℕ) (v : List ℕ) → Contains c D v r → (k : ℕ) → 2 ≤ k → greatest r'.ranks < k
    → (v' : List ℕ) × Contains c (k * D) v' r' × Guarded (k * D) (scaled k v) e.guards × Allowed (k * D) (scaled k v) v' e.updates
from_any_point = Leads.from_any_point

-- rows that waiting and an edge lead to, as lists --------------------------------------------------------------------------------

pub wait_rows_law : (c : List ℕ) (r r' : Row) → Mem r' (wait_rows c r) ↔ (wait c r ≡ some r')
wait_rows_law = Successors.wait_rows_law

pub edge_rows_law : (c : List ℕ) (e : Edge) (r r' : Row) → IsRow c r → Bounded c e → Mem r' (edge_rows c e r) ↔ Leads c e r r'
edge_rows_law = Successors.edge_rows_law

pub edge_rows_ascend : (c : List ℕ) (e : Edge) (r : Row) → Ascends (edge_rows c e r)
edge_rows_ascend = Successors.edge_rows_ascend

-- next rows of a table's row ----------------------------------------------------------------------------------------------------

-- by waiting, just those that waiting leads to
pub time_successor_law : (T : Table) (r r' : Row) → TimeSuccessor T r r' ↔ (wait T.bounds r ≡ some r')
time_successor_law = Due.time_successor_law

-- by an edge, just those that it leads to
pub edge_successor_law : (T : Table) (i : ℕ) (r r' : Row) → EdgeSuccessor T i r r' ↔ Leads T.bounds (edge T i) r r'
edge_successor_law = Due.edge_successor_law

-- the lists hold just those, ascending
pub time_successors_law : (T : Table) (r r' : Row) → Mem r' (time_successors T r) ↔ TimeSuccessor T r r'
time_successors_law = Due.time_successors_law

pub time_successors_ascend : (T : Table) (r : Row) → Ascends (time_successors T r)
time_successors_ascend = Due.time_successors_ascend

pub edge_successors_law : (T : Table) → Admitted T → (i : ℕ) → i < length T.edges → (r r' : Row) → IsRow T.bounds r
    → Mem r' (edge_successors T i r) ↔ EdgeSuccessor T i r r'
edge_successors_law = Due.edge_successors_law

pub edge_successors_ascend : (T : Table) (i : ℕ) (r : Row) → Ascends (edge_successors T i r)
edge_successors_ascend = Due.edge_successors_ascend

-- together they are those by a wait or an edge, and are the table's
pub next_rows_law : (T : Table) → Admitted T → (r r' : Row) → RowOf T r → Mem r' (next_rows T r) ↔ Next T r r'
next_rows_law = Due.next_rows_law

pub wait_keeps : (T : Table) (r r' : Row) → RowOf T r → TimeSuccessor T r r' → RowOf T r'
wait_keeps = Due.wait_keeps

pub edge_keeps : (T : Table) → Admitted T → (r r' : Row) (i : ℕ) → i < length T.edges → EdgeSuccessor T i r r' → RowOf T r'
edge_keeps = Due.edge_keeps
