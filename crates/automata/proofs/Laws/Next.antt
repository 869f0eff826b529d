-- The next rows of a table's row: the lists hold just those that are due, and they are the table's. Assumes nothing.
use Prim.Native.Nat.{ℕ, ◌<◌}
use native.Mathlib.Omega.{arith}
use mathlib.Core.Path.{◌≡◌, refl}
use mathlib.Core.Logic.{◌⊎◌, inl, inr, ◌↔◌}
use mathlib.Core.Option.{some}
use mathlib.Core.List.Memᴰ
use mathlib.Core.List.{List, ◌++◌}
use lib.ListN.{length}
use Rattle.automata.specs.Row.{Row, IsRow}
use Rattle.automata.specs.Wait.{wait}
use Rattle.automata.specs.Edge.{Leads}
use Rattle.automata.specs.Automaton.{Table, edge, Admitted}
use Rattle.automata.specs.Successors.{wait_rows, edge_rows}
use Rattle.automata.specs.Next.{TimeSuccessor, EdgeSuccessor, Next, time_successors, edge_successors, by_edges, next_rows}
use Rattle.automata.specs.Closed.{Mem, Ascends, RowOf}
use Rattle.automata.proofs.Laws.Waiting.{wait_row, wait_location}
use Rattle.automata.proofs.Laws.Members.{gather_in, gather_out, from_in, from_out}
use Rattle.automata.proofs.Laws.Successors.{wait_rows_law, wait_rows_ascend, edge_rows_law, edge_rows_ascend}

-- what is due is what the rules of rows say ----------------------------------------------------------------------------------------------

pub time_successor_law : (T : Table) (r r' : Row) → TimeSuccessor T r r' ↔ (wait T.bounds r ≡ some r')
time_successor_law T r r' = (λ d. d.waits, λ e. record { waits = e })

pub edge_successor_law : (T : Table) (i : ℕ) (r r' : Row) → EdgeSuccessor T i r r' ↔ Leads T.bounds (edge T i) r r'
edge_successor_law T i r r' = (λ d. d.leads, λ l. record { leads = l })

pub time_successors_are : (T : Table) (r : Row) → time_successors T r ≡ wait_rows T.bounds r
unfolding time_successors
time_successors_are T r = refl

pub edge_successors_are : (T : Table) (i : ℕ) (r : Row) → edge_successors T i r ≡ edge_rows T.bounds (edge T i) r
unfolding edge_successors
edge_successors_are T i r = refl

-- by waiting ----------------------------------------------------------------------------------------------------------------------------

pub time_successors_law : (T : Table) (r r' : Row) → Mem r' (time_successors T r) ↔ TimeSuccessor T r r'
unfolding time_successors
time_successors_law T r r' = (λ m. record { waits = (wait_rows_law T.bounds r r').0 m }, λ d. (wait_rows_law T.bounds r r').1 d.waits)

pub time_successors_ascend : (T : Table) (r : Row) → Ascends (time_successors T r)
unfolding time_successors
time_successors_ascend T r = wait_rows_ascend T.bounds r

pub wait_keeps : (T : Table) (r r' : Row) → RowOf T r → TimeSuccessor T r r' → RowOf T r'
wait_keeps T r r' i d = record {
  location_in = rw (wait_location T.bounds r r' i.is_row d.waits) i.location_in;
  is_row = wait_row T.bounds r r' i.is_row d.waits;
}

-- by an edge ----------------------------------------------------------------------------------------------------------------------------

pub edge_successors_law : (T : Table) → Admitted T → (i : ℕ) → i < length T.edges → (r r' : Row) → IsRow T.bounds r
    → Mem r' (edge_successors T i r) ↔ EdgeSuccessor T i r r'
unfolding edge_successors
edge_successors_law T admitted i h r r' R = (λ m. record { leads = law.0 m }, λ d. law.1 d.leads)
  where
    law : Mem r' (edge_rows T.bounds (edge T i) r) ↔ Leads T.bounds (edge T i) r r'
    law = edge_rows_law T.bounds (edge T i) r r' R (admitted.bounded i h)

pub edge_successors_ascend : (T : Table) (i : ℕ) (r : Row) → Ascends (edge_successors T i r)
unfolding edge_successors
edge_successors_ascend T i r = edge_rows_ascend T.bounds (edge T i) r

pub edge_keeps : (T : Table) → Admitted T → (r r' : Row) (i : ℕ) → i < length T.edges → EdgeSuccessor T i r r' → RowOf T r'
edge_keeps T admitted r r' i h d = record { location_in = rw d.leads.enters (admitted.target_in i h); is_row = d.leads.is_row }

-- by either -----------------------------------------------------------------------------------------------------------------------------

pub by_edges_law : (T : Table) (r r' : Row) → Mem r' (by_edges T r) ↔ ((i : ℕ) × (i < length T.edges) × Mem r' (edge_successors T i r))
by_edges_law T r r' = (out, into)
  where
    by_edge : ℕ → List Row
    by_edge i = edge_successors T i r

    out : Mem r' (by_edges T r) → (i : ℕ) × (i < length T.edges) × Mem r' (by_edge i)
    out m =
        let (i, a, b) = gather_out by_edge _ m in
        let (_, below) = from_out _ (length T.edges) i a in
        (i, omega arith, b)

    into : (i : ℕ) × (i < length T.edges) × Mem r' (by_edge i) → Mem r' (by_edges T r)
    into (i, h, m) = gather_in by_edge (from_in _ (length T.edges) i (omega arith) (omega arith)) m

pub next_rows_parts : (T : Table) (r r' : Row) → Mem r' (next_rows T r) ↔ (Mem r' (time_successors T r) ⊎ Mem r' (by_edges T r))
unfolding next_rows
next_rows_parts T r r' = (Memᴰ.append_cases (time_successors T r), into)
  where
    into : Mem r' (time_successors T r) ⊎ Mem r' (by_edges T r) → Mem r' (time_successors T r ++ by_edges T r)
    into (inl m) = Memᴰ.append_left (by_edges T r) m
    into (inr m) = Memᴰ.append_right (time_successors T r) m

pub next_rows_law : (T : Table) → Admitted T → (r r' : Row) → RowOf T r → Mem r' (next_rows T r) ↔ Next T r r'
next_rows_law T admitted r r' o = (λ m. out ((next_rows_parts T r r').0 m), λ n. (next_rows_parts T r r').1 (into n))
  where
    by_edge : (i : ℕ) → i < length T.edges → Mem r' (edge_successors T i r) ↔ EdgeSuccessor T i r r'
    by_edge i h = edge_successors_law T admitted i h r r' o.is_row

    out : Mem r' (time_successors T r) ⊎ Mem r' (by_edges T r) → Next T r r'
    out (inl m) = inl ((time_successors_law T r r').0 m)
    out (inr m) = let (i, h, k) = (by_edges_law T r r').0 m in inr (i, h, (by_edge i h).0 k)

    into : Next T r r' → Mem r' (time_successors T r) ⊎ Mem r' (by_edges T r)
    into (inl e) = inl ((time_successors_law T r r').1 e)
    into (inr (i, h, l)) = inr ((by_edges_law T r r').1 (i, h, (by_edge i h).1 l))
