-- One plain edge from one row. Assumes nothing.
use Prim.Native.Nat.{ℕ, suc, ◌<◌}
use native.Mathlib.Omega.{arith}
use mathlib.Core.Path.{◌≡◌, refl, sym, ap, subst, ◌∙◌}
use mathlib.Core.Bool.{Bool, true, false}
use mathlib.Core.Logic.{inl, inr}
use mathlib.Core.List.{List, []}
use lib.ListN.{length}
use Rattle.automata.specs.Row.{Row}
use Rattle.automata.specs.Edge.{Bounded}
use Rattle.automata.specs.Automaton.{Table, edge, final}
use Rattle.automata.specs.Closed.{Mem}
use Rattle.automata.specs.Successors.{wait_rows, edge_rows}
use Rattle.automata.specs.Checks.{every, has}
use Rattle.automata.proofs.Laws.Tests.{never}
use Rattle.automata.proofs.Laws.Next.{time_successors_are, edge_successors_are}
use Rattle.regions.specs.Values.{bounds_of, edge_of}
use Rattle.regions.specs.declared.clocks.Clocks.{Clocks}
use Rattle.regions.specs.declared.region.Region.{Region}
use Rattle.std.specs.Prelude.{Option, None, is_some}
use Rattle.regions.specs.declared.edge.Edge as edge_code
use Rattle.table_files.specs.Admission.{table_of}
use Rattle.table_files.proofs.Laws.Admission.{admission_admitted}
use Rattle.table_records.specs.declared.head.Head.{Head}
use Rattle.tables.specs.Values.{Describes}
use Rattle.new_rows.specs.New.{NewOf}
use Rattle.next_steps.specs.Steps.{due, into_final, plain, Settled, Asks}

module _ (table : List ℕ) (head : Head) (D : Describes table head) where
  abbrev T : Table
  T = table_of table

  module _ (j : ℕ) (l : j < head.edges) (e : edge_code.Edge) (means : edge_of head.clocks.count e ≡ edge T j) where
    pub target_in : e.target < head.locations
    target_in =
        let (records, p) = D.passes in
        let q : e.target ≡ (edge T j).target = λ i. (means i).target in
        omega (arith, q, D.locations, (admission_admitted table records p).target_in j (omega (arith, D.edges)))

  module _ (k : Clocks) (same : k ≡ head.clocks) where
    abbrev n : ℕ
    n = k.count

    -- what is due by waiting
    pub waits_are : (r : Row) → due T 0 r ≡ wait_rows (bounds_of k) r
    waits_are r = rw same (time_successors_are T r ∙ ap (λ (c : List ℕ). wait_rows c r) (sym D.bounds))

    module _ (j : ℕ) (l : j < head.edges) (e : edge_code.Edge) (means : edge_of head.clocks.count e ≡ edge T j) where
      edge_there : j < length T.edges
      edge_there = omega (arith, D.edges)

      pub edge_bounded : Bounded (bounds_of k) (edge_of n e)
      edge_bounded = let (records, p) = D.passes in rw (same, D.bounds, means) ((admission_admitted table records p).bounded j edge_there)

      pub target_is : final T e.target ≡ into_final T (suc j)
      target_is i = final T (means i).target

      -- what is due by the edge
      pub led_are : (r : Row) → due T (suc j) r ≡ edge_rows (bounds_of k) (edge_of n e) r
      led_are r = rw (same, D.bounds, means) (edge_successors_are T j r)

      settled_led : (rows : List Row) (r : Row) (entered : Bool) → every (has rows) (edge_rows (bounds_of k) (edge_of n e) r) ≡ true → Settled T rows entered (suc j) r
      settled_led rows r entered h = inr (rw (led_are r) h)

      module _ {rows : List Row} {r : Row} where
        -- where nothing is found and nothing more is entered, the row has to be settled
        asks_none : (entered : Bool) → (plain T (suc j) ≡ true → Settled T rows entered (suc j) r) → Asks T rows n (suc j) r entered None entered
        asks_none entered s = record {
          settled = λ _ p. s p;
          new = λ v f. never (ap is_some f);
          stays = λ h. h;
          enters = λ h. inl h;
        }

        -- it leads into a final location, if it leads anywhere
        pub asks_final : final T e.target ≡ true → (entered : Bool) → entered ≡ false → (leads : Bool)
            → (leads ≡ true → (x : Row) × Mem x (edge_rows (bounds_of k) (edge_of n e) r))
            → (leads ≡ false → edge_rows (bounds_of k) (edge_of n e) r ≡ [])
            → Asks T rows n (suc j) r entered None leads
        asks_final f entered t true some nothing = record {
          settled = λ _ p. inl (sym target_is ∙ f, refl);
          new = λ v g. never (ap is_some g);
          stays = λ h. refl;
          enters = λ h. let (x, i) = some refl in inr (x, rw (led_are r) i, sym target_is ∙ f);
        }
        asks_final f entered t false some nothing = rw t (asks_none false (λ _. settled_led rows r false (rw (nothing refl) refl)))

        -- it leads to one row at most
        pub asks_image : final T e.target ≡ false → (entered : Bool) (q : Option Region) → NewOf n (edge_rows (bounds_of k) (edge_of n e) r) rows q
            → Asks T rows n (suc j) r entered q entered
        asks_image f entered q N = record {
          settled = λ g p. settled_led rows r entered (subst (NewOf n (edge_rows (bounds_of k) (edge_of n e) r) rows) g N);
          new = λ v g.
              let (m, h) = subst (NewOf n (edge_rows (bounds_of k) (edge_of n e) r) rows) g N in
              record { in_range = edge_there; is_due = rw (led_are r) m; is_new = h; outside = sym target_is ∙ f };
          stays = λ h. h;
          enters = λ h. inl h;
        }
