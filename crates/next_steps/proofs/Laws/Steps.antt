-- Next rows step by step: those of all steps are the next rows of a row, and where a step leads into a final location all of them are there. Assumes nothing.
use Prim.Native.Nat.{ℕ, zero, suc, ◌≤◌}
use native.Mathlib.Omega.{arith}
use mathlib.Core.Path.{◌≡◌, sym, ◌∙◌}
use mathlib.Core.Bool.{Bool, true, false, ◌||◌}
use mathlib.Core.Logic.{◌⊎◌, inl, inr, ◌↔◌}
use mathlib.Core.List.{List}
use lib.ListN.{length}
use Rattle.automata.specs.Row.{Row, IsRow}
use Rattle.automata.specs.Automaton.{Table, clocks, edge, final}
use Rattle.automata.specs.Closed.{Mem}
use Rattle.automata.specs.Rows.{rows_at}
use Rattle.automata.specs.Successors.{leadsb, edge_rows}
use Rattle.automata.specs.Next.{time_successors, edge_successors, by_edges, next_rows}
use Rattle.automata.specs.Checks.{every, has}
use Rattle.automata.specs.Kept.{Kept, Entered, added, later}
use Rattle.automata.proofs.Laws.Tests.{never}
use Rattle.automata.proofs.Laws.Members.{select_out}
use Rattle.automata.proofs.Laws.Waiting.{wait_location}
use Rattle.automata.proofs.Laws.Rows.{rows_at_out}
use Rattle.automata.proofs.Laws.Next.{time_successors_law, edge_successors_are, by_edges_law, next_rows_parts}
use Rattle.automata.proofs.Laws.Checks.{has_law, every_law}
use Rattle.regions.specs.Image.{deterministic}
use Rattle.next_steps.specs.Steps.{due, into_final, plain, Settled, NewBy}
use Rattle.automata.proofs.Laws.Kept.{kept_outside}

-- whether all of some rows are in a list
pub all_listed : (rows xs : List Row) → (every (has rows) xs ≡ true) ↔ ((x : Row) → Mem x xs → Mem x rows)
all_listed rows xs = every_law (has rows) (has_law rows) xs

module _ (T : Table) where
  -- what is due by a step is a next row, and each next row is due by some step
  pub due_next : (m : ℕ) (r s : Row) → m ≤ length T.edges → Mem s (due T m r) → Mem s (next_rows T r)
  due_next zero r s h i = (next_rows_parts T r s).1 (inl i)
  due_next (suc j) r s h i = (next_rows_parts T r s).1 (inr ((by_edges_law T r s).1 (j, omega arith, i)))

  pub next_due : (r s : Row) → Mem s (next_rows T r) → (m : ℕ) × (m ≤ length T.edges) × Mem s (due T m r)
  next_due r s i = go ((next_rows_parts T r s).0 i)
    where
      go : Mem s (time_successors T r) ⊎ Mem s (by_edges T r) → (m : ℕ) × (m ≤ length T.edges) × Mem s (due T m r)
      go (inl k) = (0, omega arith, k)
      go (inr k) = let (j, h, l) = (by_edges_law T r s).0 k in (suc j, omega arith, l)

  -- rows that an edge leads to are in its target
  edge_location : (j : ℕ) (r s : Row) → Mem s (edge_successors T j r) → s.location ≡ (edge T j).target
  unfolding edge_rows
  edge_location j r s i =
      let k : Mem s (edge_rows T.bounds (edge T j) r) = rw (edge_successors_are T j r) at i in
      (rows_at_out T.bounds (edge T j).target s (select_out (leadsb T.bounds (edge T j) r) (rows_at T.bounds (edge T j).target) k).0).0

  pub due_final : (m : ℕ) (r s : Row) → Mem s (due T m r) → into_final T m ≡ true → final T s.location ≡ true
  due_final zero r s i q = never q
  due_final (suc j) r s i q = rw (edge_location j r s i) q

  pub due_outside : (m : ℕ) (r s : Row) → IsRow T.bounds r → Kept T r → Mem s (due T m r) → into_final T m ≡ false → final T s.location ≡ false
  due_outside zero r s R k i q = rw (wait_location T.bounds r s R ((time_successors_law T r s).0 i).waits) (kept_outside T k)
  due_outside (suc j) r s R k i q = rw (edge_location j r s i) q

  -- a step that is not plain leads into no final location
  pub walked_outside : (m : ℕ) → plain T m ≡ false → into_final T m ≡ false
  walked_outside zero q = never (sym q)
  walked_outside (suc j) q = go (final T (edge T j).target) (deterministic (clocks T) (edge T j)) q
    where
      go : (a b : Bool) → (a || b) ≡ false → a ≡ false
      go true b e = e
      go false b e = λ i. false

  -- rows that are settled stay so, if rows are added
  pub settled_more : (rows rows' : List Row) (e e' : Bool) (m : ℕ) (r : Row) → ((x : Row) → Mem x rows → Mem x rows') → (e ≡ true → e' ≡ true)
      → Settled T rows e m r → Settled T rows' e' m r
  settled_more rows rows' e e' m r more stays (inl (a, b)) = inl (a, stays b)
  settled_more rows rows' e e' m r more stays (inr q) = inr ((all_listed rows' (due T m r)).1 (λ x i. more x ((all_listed rows (due T m r)).0 q x i)))

  -- where a step is not plain, settled rows have all that is due in the list
  pub settled_walked : (rows : List Row) (e : Bool) (m : ℕ) (r : Row) → plain T m ≡ false → Settled T rows e m r → every (has rows) (due T m r) ≡ true
  settled_walked rows e m r q (inl (a, b)) = never (sym (walked_outside m q) ∙ a)
  settled_walked rows e m r q (inr h) = h

  -- a new row of a kept one is kept
  pub new_kept : (rows : List Row) (m : ℕ) (r new : Row) → IsRow T.bounds r → Kept T r → NewBy T rows m r new → Kept T new
  new_kept rows m r new R k N = added k (due_next m r new N.in_range N.is_due) (due_outside m r new R k N.is_due N.outside)

  -- a final location is entered, if one is from a kept row
  pub due_entered : (m : ℕ) (r s : Row) → Kept T r → m ≤ length T.edges → Mem s (due T m r) → into_final T m ≡ true → Entered T
  due_entered m r s k h i q = later k (due_next m r s h i) (due_final m r s i q)
