-- The rows that waiting and an edge lead to, as lists: just those, ascending. Assumes nothing.
use Prim.Native.Nat.{ℕ}
use native.Mathlib.Omega.{arith}
use mathlib.Core.Path.{◌≡◌}
use mathlib.Core.Logic.{◌↔◌}
use mathlib.Core.Option.{Option, none, some}
use mathlib.Core.List.Memᴰ
use mathlib.Core.List.{List}
use Rattle.automata.specs.Row.{Row, IsRow, Below}
use Rattle.automata.specs.Wait.{wait}
use Rattle.automata.specs.Edge.{Edge, Bounded, Leads}
use Rattle.automata.specs.Closed.{Mem, Ascends}
use Rattle.automata.specs.Rows.{rows_at}
use Rattle.automata.specs.Successors.{leadsb, held, wait_rows, edge_rows}
use Rattle.automata.proofs.Laws.Members.{select_in, select_out, sorted_select, sorted_ascends}
use Rattle.automata.proofs.Laws.Rows.{rows_at_in, rows_at_sorted}
use Rattle.automata.proofs.Laws.Leads.{leads_law}

held_law : (o : Option Row) (r : Row) → Mem r (held o) ↔ (o ≡ some r)
held_law none r = (λ m. absurd (Memᴰ.not-nil m), λ e. let z : ◌≡◌ {A = ℕ} 0 1 = cc in absurd (omega arith))
held_law (some s) r = (λ m. rw (Memᴰ.eq_of_singleton m), λ e. let p : r ≡ s = cc in Memᴰ.head p)

pub wait_rows_law : (c : List ℕ) (r r' : Row) → Mem r' (wait_rows c r) ↔ (wait c r ≡ some r')
unfolding wait_rows
wait_rows_law c r r' = held_law (wait c r) r'

pub wait_rows_ascend : (c : List ℕ) (r : Row) → Ascends (wait_rows c r)
unfolding wait_rows
wait_rows_ascend c r = go (wait c r)
  where
    go : (o : Option Row) → Ascends (held o)
    go none = tt
    go (some s) = tt

pub edge_rows_law : (c : List ℕ) (e : Edge) (r r' : Row) → IsRow c r → Bounded c e → Mem r' (edge_rows c e r) ↔ Leads c e r r'
unfolding edge_rows
edge_rows_law c e r r' R B = (
  λ m. (leads_law c e r r' R B).0 (select_out (leadsb c e r) (rows_at c e.target) m).1,
  λ l. select_in (leadsb c e r) (rows_at_in c e.target r' l.enters l.is_row) ((leads_law c e r r' R B).1 l),
)

pub edge_rows_ascend : (c : List ℕ) (e : Edge) (r : Row) → Ascends (edge_rows c e r)
unfolding edge_rows
edge_rows_ascend c e r = sorted_ascends (edge_rows c e r) (sorted_select Below (leadsb c e r) (rows_at c e.target) (rows_at_sorted c e.target))
