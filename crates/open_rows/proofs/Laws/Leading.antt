-- From the rows of an edge's source to all rows, from edge to edge, and from these and waiting to all next rows. Assumes nothing.
use Prim.Native.Nat.{ℕ, ◌+◌, ◌≤◌, ◌<◌}
use native.Mathlib.Decide.{ℕ_discrete}
use native.Mathlib.Omega.{arith}
use mathlib.Core.Path.{◌≡◌, sym, ap, ◌∙◌}
use mathlib.Core.Bool.{true}
use mathlib.Core.Logic.{◌⊎◌, inl, inr, ◌↔◌}
use mathlib.Core.List.{List}
use lib.ListN.{length}
use Rattle.automata.specs.Row.{Row}
use Rattle.automata.specs.Edge.{Edge, Bounded}
use Rattle.automata.specs.Automaton.{Table, edge}
use Rattle.automata.specs.Closed.{Mem, Ascends}
use Rattle.automata.specs.Successors.{wait_rows, edge_rows}
use Rattle.automata.specs.Next.{time_successors, edge_successors, by_edges, next_rows}
use Rattle.automata.specs.Checks.{every, has}
use Rattle.automata.proofs.Laws.Next.{time_successors_are, edge_successors_are, by_edges_law, next_rows_parts}
use Rattle.automata.proofs.Laws.Checks.{has_law, every_law}
use Rattle.regions.specs.Values.{bounds_of, edge_of}
use Rattle.regions.specs.declared.edge.Edge as edge_code
use Rattle.skylines.proofs.Laws.NoNext.{edge_elsewhere}
use Rattle.table_files.specs.Admission.{table_of}
use Rattle.table_files.proofs.Laws.Admission.{admission_admitted}
use Rattle.table_records.specs.declared.head.Head.{Head}
use Rattle.tables.specs.Values.{Describes}
use Rattle.listed_rows.specs.Listed.{listed_row, listed_rows}
use Rattle.listed_rows.specs.Located.{RowsIn, Stretch}
use Rattle.listed_rows.specs.RegionLists.{nth_row, all_rows}
use Rattle.listed_rows.specs.EdgesInLists.{bounds_in, edge_in}
use Rattle.listed_rows.specs.declared.region_list.RegionList.{RegionList}
use Rattle.listed_rows.specs.declared.edge_in_list.EdgeInList.{EdgeInList}
use Rattle.listed_rows.proofs.Laws.Located.{between}
use Rattle.listed_rows.proofs.Laws.RegionLists.{ascends_of}
use Rattle.walked_rows.specs.Open.{Inside, FirstOpen}
use Rattle.walked_rows.specs.Leading.{LeadsIn}
use Rattle.open_rows.specs.Leading.{NextIn}
use Rattle.walked_rows.proofs.Laws.Open.{first_none, first_as, first_then}
use Rattle.open_rows.proofs.Laws.Open.{first_within}

-- whether all of some rows are in the list
all_listed : (rows xs : List Row) → (every (has rows) xs ≡ true) ↔ ((x : Row) → Mem x xs → Mem x rows)
all_listed rows xs = every_law (has rows) (has_law rows) xs

-- one edge -------------------------------------------------------------------------------------------------------------------------------

module _ (n : ℕ) (list : List ℕ) (count : ℕ) (c : List ℕ) (e : Edge) (start stop : ℕ) (I : RowsIn n list count e.source start stop)
    (a : Ascends (listed_rows n list count)) where
  abbrev In : ℕ → Type 0
  In = Inside (edge_rows c e) n list count

  -- the rows of its source are these
  among : (i : ℕ) → i < count → (listed_row n list i).location ≡ e.source → (start ≤ i) × (i < stop)
  among = between n list count e.source start stop I.starts I.together a

  -- it leads nowhere from the rows of other locations
  leads_if : (i : ℕ) → ((listed_row n list i).location ≡ e.source → In i) → In i
  leads_if i h = go (ℕ_discrete (listed_row n list i).location e.source)
    where
      go : Dec ((listed_row n list i).location ≡ e.source) → In i
      go (yes q) = h q
      go (no q) = sym (edge_elsewhere c e (listed_row n list i) (has (listed_rows n list count)) q)

  elsewhere : (i : ℕ) → i < count → ((start ≤ i) × (i < stop) → ⊥) → In i
  elsewhere i l h = leads_if i (λ q. absurd (h (among i l q)))

  module _ (end : ℕ) (short : end ≤ count) where
    pub source_after : end ≤ start → FirstOpen In 0 end end
    source_after h = first_none In 0 end (omega arith) (λ i g l. elsewhere i (omega arith) (λ q. omega (arith, q)))

    pub source_here : start ≤ end → end ≤ stop → (r : ℕ) → FirstOpen In start end r → FirstOpen In 0 end r
    source_here h g r F = record {
      from = omega arith;
      to = F.to;
      before = λ i _ l. leads_if i (λ q. F.before i (among i (omega (arith, F.to)) q).0 l);
      here = F.here;
    }

    pub source_before : stop ≤ end → (r : ℕ) → FirstOpen In start stop r → (r < stop → FirstOpen In 0 end r) × (stop ≤ r → FirstOpen In 0 end end)
    source_before h r F =
        first_within In start stop end I.together.from h (λ i l. elsewhere i (omega (arith, I.together.from, I.together.within)) (λ q. omega (arith, q)))
        (λ i g l. elsewhere i (omega arith) (λ q. omega (arith, q))) r F

-- .. as an edge in a list
module _ (k : EdgeInList) (start stop : ℕ) (I : RowsIn k.list.clocks.count k.list.bytes.now k.list.count k.e.source start stop) where
  pub source_stretch : (end : ℕ) → start ≤ end → end ≤ stop → Stretch k.list.clocks.count k.list.bytes.now k.list.count k.e.source start end
  source_stretch end h g = record { from = h; within = omega (arith, I.together.within); all = λ i l m. I.together.all i l (omega arith) }

  module _ (end : ℕ) (short : end ≤ k.list.count) where
    pub source_after_in : end ≤ start → FirstOpen (LeadsIn k) 0 end end
    source_after_in = source_after _ _ _ (bounds_in k) (edge_in k) start stop I (ascends_of k.list) end short

    pub source_here_in : start ≤ end → end ≤ stop → (r : ℕ) → FirstOpen (LeadsIn k) start end r → FirstOpen (LeadsIn k) 0 end r
    source_here_in = source_here _ _ _ (bounds_in k) (edge_in k) start stop I (ascends_of k.list) end short

    pub source_before_in : stop ≤ end → (r : ℕ) → FirstOpen (LeadsIn k) start stop r
        → (r < stop → FirstOpen (LeadsIn k) 0 end r) × (stop ≤ r → FirstOpen (LeadsIn k) 0 end end)
    source_before_in = source_before _ _ _ (bounds_in k) (edge_in k) start stop I (ascends_of k.list) end short

-- edge by edge ---------------------------------------------------------------------------------------------------------------------------

module _ (T : Table) (n : ℕ) (list : List ℕ) (count end : ℕ) where
  -- by the edges before edge k the rows that are due from row i are in the list
  abbrev pub EdgesInside : ℕ → ℕ → Type 0
  EdgesInside k i = (j : ℕ) → j < k → Inside (edge_successors T j) n list count i

  pub edges_begin : FirstOpen (EdgesInside 0) 0 end end
  edges_begin = first_none (EdgesInside 0) 0 end (omega arith) (λ i a b j l. absurd (omega arith))

  module _ (k first : ℕ) (F : FirstOpen (EdgesInside k) 0 end first) where
    pub edges_on : (r : ℕ) → FirstOpen (Inside (edge_successors T k) n list count) 0 first r → FirstOpen (EdgesInside (k + 1)) 0 end r
    edges_on r G =
        first_then (EdgesInside k) (Inside (edge_successors T k) n list count) 0 end (EdgesInside (k + 1))
        (λ i a b. (λ h. (λ j l. h j (omega arith), h k (omega arith)), λ h j l. go i h.0 h.1 j l (ℕ_discrete j k))) first F r G
      where
        go : (i : ℕ) → EdgesInside k i → Inside (edge_successors T k) n list count i → (j : ℕ) → j < k + 1 → Dec (j ≡ k) → Inside (edge_successors T j) n list count i
        go i h g j l (yes q) = rw q g
        go i h g j l (no q) = h j (omega arith)

    pub edges_all : length T.edges ≤ k → k ≤ length T.edges → FirstOpen (Inside (by_edges T) n list count) 0 end first
    edges_all g h = first_as (EdgesInside k) (Inside (by_edges T) n list count) 0 end (λ i a b. (into i, out i)) first F
      where
        rows : List Row
        rows = listed_rows n list count

        into : (i : ℕ) → EdgesInside k i → Inside (by_edges T) n list count i
        into i q =
            (all_listed (listed_rows n list count) (by_edges T (listed_row n list i))).1 (λ x m.
            let (j, l, b) = (by_edges_law T (listed_row n list i) x).0 m in
            (all_listed (listed_rows n list count) (edge_successors T j (listed_row n list i))).0 (q j (omega arith)) x b)

        out : (i : ℕ) → Inside (by_edges T) n list count i → EdgesInside k i
        out i q j l =
            (all_listed (listed_rows n list count) (edge_successors T j (listed_row n list i))).1 (λ x m.
            (all_listed (listed_rows n list count) (by_edges T (listed_row n list i))).0 q x ((by_edges_law T (listed_row n list i) x).1 (j, omega arith, m)))

-- waiting and edges ------------------------------------------------------------------------------------------------------------------------

module _ (T : Table) (n : ℕ) (list : List ℕ) (count : ℕ) where
  abbrev rows : List Row
  rows = listed_rows n list count

  next_inside : (i : ℕ) → Inside (next_rows T) n list count i ↔ (Inside (wait_rows T.bounds) n list count i × Inside (by_edges T) n list count i)
  next_inside i = (λ h. (rw (time_successors_are T r) at (time h), edges h), λ h. both (rw (← time_successors_are T r) at h.0) h.1)
    where
      r : Row
      r = listed_row n list i

      time : Inside (next_rows T) n list count i → every (has rows) (time_successors T r) ≡ true
      time h = (all_listed rows (time_successors T r)).1 (λ x m. (all_listed rows (next_rows T r)).0 h x ((next_rows_parts T r x).1 (inl m)))

      edges : Inside (next_rows T) n list count i → Inside (by_edges T) n list count i
      edges h = (all_listed rows (by_edges T r)).1 (λ x m. (all_listed rows (next_rows T r)).0 h x ((next_rows_parts T r x).1 (inr m)))

      both : every (has rows) (time_successors T r) ≡ true → Inside (by_edges T) n list count i → Inside (next_rows T) n list count i
      both u v = (all_listed rows (next_rows T r)).1 (λ x m. go x ((next_rows_parts T r x).0 m))
        where
          go : (x : Row) → Mem x (time_successors T r) ⊎ Mem x (by_edges T r) → Mem x rows
          go x (inl k) = (all_listed rows (time_successors T r)).0 u x k
          go x (inr k) = (all_listed rows (by_edges T r)).0 v x k

  pub first_of_both : (m : ℕ) → FirstOpen (Inside (wait_rows T.bounds) n list count) 0 count m → (r : ℕ) → FirstOpen (Inside (by_edges T) n list count) 0 m r
      → FirstOpen (Inside (next_rows T) n list count) 0 count r
  first_of_both m F r G =
      first_then (Inside (wait_rows T.bounds) n list count) (Inside (by_edges T) n list count) 0 count (Inside (next_rows T) n list count) (λ i a b. next_inside i) m F r G

-- the edge that the code reads is the table's
module _ (table : List ℕ) (head : Head) (D : Describes table head) (k : ℕ) (h : k < head.edges) (l : RegionList) (same : l.clocks ≡ head.clocks) (e : edge_code.Edge)
    (means : edge_of head.clocks.count e ≡ edge (table_of table) k) where
  edge_there : k < length (table_of table).edges
  edge_there = omega (arith, D.edges)

  pub edge_bounded : Bounded (bounds_of l.clocks) (edge_of l.clocks.count e)
  edge_bounded = let (records, p) = D.passes in rw (same, D.bounds, means) ((admission_admitted table records p).bounded k edge_there)

  rule : edge_rows (bounds_of l.clocks) (edge_of l.clocks.count e) ≡ edge_successors (table_of table) k
  rule i r = next r i
    where
      next : (r : Row) → edge_rows (bounds_of l.clocks) (edge_of l.clocks.count e) r ≡ edge_successors (table_of table) k r
      next r = rw (same, D.bounds, means) (sym (edge_successors_are (table_of table) k r))

  pub edge_rule : (g : EdgeInList) → g.list ≡ l → g.e ≡ e → LeadsIn g ≡ NextIn l (edge_successors (table_of table) k)
  edge_rule g here is = (λ t. NextIn (here t) (edge_rows (bounds_of (here t).clocks) (edge_of (here t).clocks.count (is t)))) ∙ ap (NextIn l) rule
