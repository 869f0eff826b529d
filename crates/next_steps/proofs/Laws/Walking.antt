-- Walks from the rows of a list in the making: by one edge, and edge by edge. Assumes nothing.
use Prim.Native.Nat.{ℕ, suc, ◌+◌, ◌≤◌, ◌<◌}
use native.Mathlib.Decide.{ℕ_discrete}
use native.Mathlib.Omega.{arith}
use mathlib.Core.Path.{◌≡◌, refl, sym, ap, subst, ◌∙◌}
use mathlib.Core.Bool.{Bool, true, false}
use mathlib.Core.List.{List}
use lib.ListN.{length}
use lib.Dec.{ltb}
use borrow.Author.Tests.{ltb-true}
use Rattle.automata.specs.Row.{Row, IsRow}
use Rattle.automata.specs.Edge.{Edge}
use Rattle.automata.specs.Automaton.{Table, edge}
use Rattle.automata.specs.Closed.{Mem}
use Rattle.automata.specs.Successors.{edge_rows}
use Rattle.automata.specs.Checks.{every, has}
use Rattle.automata.proofs.Laws.Tests.{never}
use Rattle.regions.specs.Values.{row_of, region_of, edge_of}
use Rattle.regions.specs.declared.region.Region.{Region}
use Rattle.std.specs.Prelude.{Option, None, Some, is_some, unwrap_or}
use Rattle.regions.specs.declared.edge.Edge as edge_code
use Rattle.skylines.proofs.Laws.NoNext.{edge_elsewhere}
use Rattle.table_files.specs.Admission.{table_of}
use Rattle.table_records.specs.declared.head.Head.{Head}
use Rattle.tables.specs.Values.{Describes}
use Rattle.listed_rows.specs.Listed.{listed_row, listed_rows}
use Rattle.listed_rows.specs.Located.{RowsIn}
use Rattle.listed_rows.specs.RegionLists.{nth_row, all_rows}
use Rattle.listed_rows.specs.EdgesInLists.{bounds_in, edge_in, led_in}
use Rattle.listed_rows.specs.declared.listed.Span.{Span}
use Rattle.listed_rows.specs.declared.region_list.RegionList.{RegionList}
use Rattle.listed_rows.specs.declared.edge_in_list.EdgeInList.{EdgeInList}
use Rattle.listed_rows.proofs.Laws.RegionLists.{listed_of, ascends_of}
use Rattle.listed_rows.proofs.Laws.Listed.{listed_in, in_listed, listed_again}
use Rattle.listed_rows.proofs.Laws.Located.{between}
use Rattle.walked_rows.specs.Open.{SomeOpen}
use Rattle.selection.specs.Chosen.{taken_at}
use Rattle.walked_rows.specs.Leading.{TakenInside, LeadsIn, TakenIn}
use Rattle.kept_rows.specs.Births.{birth}
use Rattle.new_rows.specs.New.{NewOf}
use Rattle.next_steps.specs.Steps.{due, plain, NewBy, Walks}
use Rattle.next_steps.specs.Walking.{Leads, Old, OpenBy, Walked, WalkedBy}
use Rattle.next_steps.specs.declared.walking.Walk.{Walk}
use Rattle.next_steps.proofs.Laws.Steps.{walked_outside}
use Rattle.next_steps.proofs.Laws.Asking.{led_are}

-- one edge, of any bounds and list ---------------------------------------------------------------------------------------------------------------------

module _ (c : List ℕ) (e : Edge) (n : ℕ) (list : List ℕ) (count : ℕ) where
  abbrev rows : List Row
  rows = listed_rows n list count

  -- what `Leads` says
  abbrev Kept : Row → Type 0
  Kept r = every (has rows) (edge_rows c e r) ≡ true

  -- rows that are marked as old are old; what is said of the first is what `Old` says
  pub old_inside : (start stop : ℕ) → RowsIn n list count e.source start stop → (first : ℕ) → ((i : ℕ) → i < count → birth n list i < first → Kept (listed_row n list i))
      → (marks : List Bool) → ((i : ℕ) → start ≤ i → i < stop → taken_at marks i ≡ ltb (birth n list i) first) → TakenInside c e n list count start stop marks
  old_inside start stop I first old marks are i s l t = old i (omega (arith, I.together.within)) (ltb-true _ _ (sym (are i s l) ∙ t))

  -- what `WalkedBy` says: a new row that the edge leads to from one of the rows, or none; and the row that was walked from
  pub record WalkedFrom (next from : Option Region) : Type 0 where
    pub none : next ≡ None → (r : Row) → Mem r rows → Kept r
    pub one : (v : Region) → next ≡ Some v → (r : Row) × Mem r rows × Mem (row_of n v) (edge_rows c e r)
    pub new : (v : Region) → next ≡ Some v → has rows (row_of n v) ≡ false
    pub from_row : (v : Region) → from ≡ Some v → Mem (row_of n v) rows

  -- from a row of the list that is open, and so has a new one
  pub walked_open : (from : Region) → Mem (row_of n from) rows → (Kept (row_of n from) → ⊥) → (next : Option Region) → NewOf n (edge_rows c e (row_of n from)) rows next
      → WalkedFrom next (Some from)
  walked_open from i lacks None N = absurd (lacks N)
  walked_open from i lacks (Some x) N = record {
    none = λ g. never (sym (ap is_some g));
    one = λ v g. subst (λ (y : Region). (r : Row) × Mem r rows × Mem (row_of n y) (edge_rows c e r)) (ap (λ (o : Option Region). unwrap_or o x) g) (row_of n from, i, N.0);
    new = λ v g. subst (λ (y : Region). has rows (row_of n y) ≡ false) (ap (λ (o : Option Region). unwrap_or o x) g) N.1;
    from_row = λ v g. subst (λ (y : Region). Mem (row_of n y) rows) (ap (λ (o : Option Region). unwrap_or o from) g) i;
  }

-- one edge in a list -----------------------------------------------------------------------------------------------------------------------------------

module _ (k : EdgeInList) where
  abbrev n : ℕ
  n = k.list.clocks.count

  module _ (start stop : ℕ) (I : RowsIn n k.list.bytes.now k.list.count k.e.source start stop) (r : ℕ) (O : SomeOpen (LeadsIn k) start stop r) where
    pub open_none : stop ≤ r → OpenBy k None
    open_none h = λ x i. let (j, l, p) = in_listed n k.list.bytes.now k.list.count x i in rw p at (go j l (ℕ_discrete (nth_row k.list j).location k.e.source))
      where
        go : (j : ℕ) → j < k.list.count → Dec ((nth_row k.list j).location ≡ k.e.source) → Leads k (nth_row k.list j)
        go j l (yes q) = let (s, t) = between n k.list.bytes.now k.list.count k.e.source start stop I.starts I.together (ascends_of k.list) j l q in O.all (omega (arith, O.to)) j s t
        go j l (no q) = sym (edge_elsewhere (bounds_in k) (edge_in k) (nth_row k.list j) (has (all_rows k.list)) q)

    pub open_one : r < stop → (x : Region) → x ≡ region_of (nth_row k.list r) → OpenBy k (Some x)
    open_one h x m =
        let same = listed_again n k.list.bytes.now r x m in
        (rw same (listed_in n k.list.bytes.now k.list.count r (omega (arith, I.together.within))), λ L. O.here h (rw same at L))

  -- rows that are marked as old are old
  pub old_inside_in : (rows : Span) → RowsIn n k.list.bytes.now k.list.count k.e.source rows.start rows.end → (first : ℕ) → Old k first → (marks : List Bool)
      → ((i : ℕ) → rows.start ≤ i → i < rows.end → taken_at marks i ≡ ltb (birth n k.list.bytes.now i) first) → TakenIn k rows marks
  old_inside_in rows = old_inside (bounds_in k) (edge_in k) n k.list.bytes.now k.list.count rows.start rows.end

  -- a row of the list is a row of these clocks
  pub row_listed : (r : Row) → Mem r (all_rows k.list) → IsRow (bounds_in k) r
  row_listed r i = let (j, l, p) = in_listed n k.list.bytes.now k.list.count r i in rw p at ((listed_of k.list).are_rows j l)

  -- the row at a place, as a region
  pub near_listed : (i : ℕ) → i < k.list.count → (x : Region) → x ≡ region_of (nth_row k.list i) → Mem (row_of n x) (all_rows k.list)
  near_listed i l x m = rw (listed_again n k.list.bytes.now i x m) (listed_in n k.list.bytes.now k.list.count i l)

  -- from a row that was walked from
  pub walked_further : (from next : Region) → Mem (row_of n from) (all_rows k.list) → NewOf n (led_in k (row_of n from)) (all_rows k.list) (Some next)
      → Walked k (record { next = next; «from» = from })
  walked_further from next i N = record { one = (row_of n from, i, N.0); new = N.1; from_row = i }

  -- .. and that is open, so that there is a new one
  pub walked_open_in : (from : Region) (next : Option Region) → OpenBy k (Some from) → NewOf n (led_in k (row_of n from)) (all_rows k.list) next
      → (v : Region) × (next ≡ Some v) × WalkedBy k (Some (record { next = v; «from» = from }))
  walked_open_in from None O N = absurd (O.1 N)
  walked_open_in from (Some v) O N = (v, refl, walked_further from v O.0 N)

-- edge by edge -----------------------------------------------------------------------------------------------------------------------------------------

-- steps up to one of them, by which nothing new was found
pub record Past (T : Table) (rows : List Row) (step k : ℕ) : Type 0 where
  pub above : 1 ≤ step
  pub on : step ≤ k
  pub few : k ≤ suc (length T.edges)
  pub settled : (m : ℕ) → step ≤ m → m < k → plain T m ≡ false → (r : Row) → Mem r rows → every (has rows) (due T m r) ≡ true

module _ {T : Table} {rows : List Row} {step : ℕ} where
  module _ {k : ℕ} (P : Past T rows step k) where
    pub past_on : k ≤ length T.edges → (plain T k ≡ false → (r : Row) → Mem r rows → every (has rows) (due T k r) ≡ true) → Past T rows step (k + 1)
    past_on l s = record { above = P.above; on = omega (arith, P.on); few = omega arith; settled = λ m a b p r i. go m a b p r i (ℕ_discrete m k) }
      where
        go : (m : ℕ) → step ≤ m → m < k + 1 → plain T m ≡ false → (r : Row) → Mem r rows → Dec (m ≡ k) → every (has rows) (due T m r) ≡ true
        go m a b p r i (yes e) = subst (λ (t : ℕ). every (has rows) (due T t r) ≡ true) (sym e) (s (subst (λ (t : ℕ). plain T t ≡ false) e p) r i)
        go m a b p r i (no e) = P.settled m a (omega arith) p r i

    pub past_new : {n : ℕ} (w : Walk) (here : ℕ) (entered : Bool) → (r : Row) × Mem r rows × NewBy T rows k r (row_of n w.next)
        → Mem (row_of n w.from) rows
        → Walks T rows n step (record { next = Some w.next; step = k; here = here; entered = entered; «from» = Some w.from })
    past_new {n} w here entered N i = record {
      on = P.on;
      settled = P.settled;
      all = λ g. never (sym (ap is_some g));
      new = λ v g. subst (λ (x : Region). (r : Row) × Mem r rows × NewBy T rows k r (row_of n x)) (ap (λ (o : Option Region). unwrap_or o w.next) g) N;
      «from» = λ v g. subst (λ (x : Region). Mem (row_of n x) rows) (ap (λ (o : Option Region). unwrap_or o w.from) g) i;
    }

-- an edge that is the table's -------------------------------------------------------------------------------------------------------------------------

module _ (table : List ℕ) (head : Head) (D : Describes table head) (j : ℕ) (l : j < head.edges) (e : edge_code.Edge)
    (means : edge_of head.clocks.count e ≡ edge (table_of table) j) (list : RegionList) (same : list.clocks ≡ head.clocks) where
  abbrev T₁ : Table
  T₁ = table_of table

  abbrev rows₁ : List Row
  rows₁ = all_rows list

  module _ (k : EdgeInList) (of_list : k.list ≡ list) (is : k.e ≡ e) where
    -- what is due by the edge
    led_is : (r : Row) → led_in k r ≡ due T₁ (suc j) r
    led_is r = rw (of_list, is) (sym (led_are table head D list.clocks same j l e means r))

    pub led_old : (first : ℕ) → plain T₁ (suc j) ≡ false
        → ((m i : ℕ) → m ≤ head.edges → plain T₁ m ≡ false → i < list.count → birth list.clocks.count list.bytes.now i < first
        → every (has rows₁) (due T₁ m (nth_row list i)) ≡ true) → Old k first
    led_old first p old = λ i. rw (led_is (nth_row k.list i)) (rw of_list (old (suc j) i l p))

    pub walked_settled : WalkedBy k None → (r : Row) → Mem r rows₁ → every (has rows₁) (due T₁ (suc j) r) ≡ true
    walked_settled W r i = rw of_list at (rw (led_is r) at (W r (rw of_list i)))

    pub walked_comes : plain T₁ (suc j) ≡ false → (w : Walk) → Walked k w → (r : Row) × Mem r rows₁ × NewBy T₁ rows₁ (suc j) r (row_of list.clocks.count w.next)
    walked_comes p w W =
        let (r, i, m) = W.one in (
          r,
          rw of_list at i,
          record {
            in_range = omega (arith, D.edges);
            is_due = rw of_list at (rw (led_is r) at m);
            is_new = rw of_list at W.new;
            outside = walked_outside T₁ (suc j) p;
          },
        )
