-- An edge whose source tells that it leaves from elsewhere. Assumes nothing.
use Prim.Native.Nat.{ℕ, suc, ◌<◌}
use mathlib.Core.Path.{◌≡◌, sym, ap, ◌∙◌}
use mathlib.Core.Bool.{Bool}
use mathlib.Core.List.{List}
use lib.ListN.{get_or}
use Rattle.automata.specs.Row.{Row}
use Rattle.automata.specs.Edge.{Edge}
use Rattle.automata.specs.Automaton.{edge}
use Rattle.automata.specs.Checks.{has}
use Rattle.automata.proofs.Laws.Tests.{never}
use Rattle.automata.proofs.Laws.Next.{edge_successors_are}
use Rattle.std.specs.Prelude.{None, is_some}
use Rattle.skylines.proofs.Laws.NoNext.{edge_elsewhere}
use Rattle.table_files.specs.Records.{part_at}
use Rattle.table_files.specs.Admission.{table_of}
use Rattle.table_records.specs.Edge.{edge_at, Stands}
use Rattle.table_records.specs.declared.head.Head.{Head}
use Rattle.tables.specs.Values.{Describes}
use Rattle.tables.specs.Bounds.{edge_start}
use Rattle.tables.proofs.Laws.Described.{edge_says}
use Rattle.next_steps.specs.Steps.{Asks}
use mathlib.Core.Logic.{inl, inr}

-- the third byte of a record is its edge's source
pub source_is : {n at : ℕ} {file bytes : List ℕ} → Stands n file at → bytes ≡ part_at file at 5 → get_or bytes 2 0 ≡ (edge_at n file at).source
unfolding edge_at
source_is S e = ap (λ (b : List ℕ). get_or b 2 0) e

module _ (table : List ℕ) (head : Head) (D : Describes table head) (j : ℕ) (l : j < head.edges) (p : ℕ)
    (m : p ≡ edge_start head.clocks.count head.locations table j) (rows : List Row) (r : Row) where
  -- it leaves from elsewhere
  pub asks_far : {n : ℕ} → (r.location ≡ (edge_at head.clocks.count table p).source → ⊥) → (entered : Bool)
      → Asks (table_of table) rows n (suc j) r entered None entered
  asks_far {n} h entered = record {
    settled = λ _ _. inr (rw (edge_successors_are (table_of table) j r) (sym (edge_elsewhere (table_of table).bounds (edge (table_of table) j) r (has rows) away)));
    new = λ v f. never (ap is_some f);
    stays = λ f. f;
    enters = λ f. inl f;
  }
    where
      away : r.location ≡ (edge (table_of table) j).source → ⊥
      away q = h (q ∙ sym (ap (λ (x : Edge). x.source) (edge_says table head D j l m)))
