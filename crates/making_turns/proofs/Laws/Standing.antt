-- What holds between two turns, from turn to turn. Assumes nothing.
use Prim.Native.Nat.{ℕ, suc, ◌+◌, ◌≤◌, ◌<◌}
use native.Mathlib.Omega.{arith}
use native.Mathlib.Numerals.{add-one}
use mathlib.Core.Path.{◌≡◌, refl, sym, ap, subst, ◌∙◌}
use mathlib.Core.Bool.{Bool, true, false}
use mathlib.Core.Logic.{inl}
use mathlib.Core.List.{List}
use lib.ListN.{length, get_or, set}
use lib.Seq.{set-get_or}
use Rattle.automata.specs.Row.{Row, IsRow}
use Rattle.automata.specs.Closed.{Mem}
use Rattle.automata.specs.Checks.{every, has}
use Rattle.automata.proofs.Laws.Tests.{never}
use Rattle.regions.specs.Values.{row_of, bounds_of}
use Rattle.regions.specs.declared.region.Region.{Region}
use Rattle.std.specs.Prelude.{Option, None, Some}
use Rattle.std.proofs.lemmas.Option.{none-some}
use Rattle.table_files.specs.Admission.{table_of}
use Rattle.tables.specs.Bounds.{edge_start}
use Rattle.listed_rows.specs.Listed.{listed_row, listed_rows}
use Rattle.kept_rows.specs.Births.{birth}
use Rattle.next_steps.specs.declared.stride.Stride as stride_code
use Rattle.making_turns.specs.declared.work.Work as work_code
use Rattle.table_records.specs.declared.head.Head.{Head}
use Rattle.next_steps.specs.Steps.{due, plain, Follows, Walks}
use Rattle.making_turns.specs.Work.{blank, Grown, stored, Standing, Working, Loops, went, next_row, to_walks, to_rows, Comes}
use Rattle.next_steps.proofs.Laws.Steps.{settled_walked}
use Rattle.making_turns.proofs.Laws.Growing.{top_listed, grown_followed, grown_next, grown_walks, grown_walked, grown_on}

module _ {table before : List ℕ} {records : ℕ} {out : List ℕ} {ws : List Region} {s : work_code.Work Head} (S : Standing table before records out ws s) where
  abbrev n : ℕ
  n = s.head.clocks.count

  abbrev rows : List Row
  rows = listed_rows n out s.count

  abbrev At : ℕ → ℕ → ℕ → Bool → Bool → Type 0
  At start top step walking entered = Grown (table_of table) s.head.clocks before out s.count start top step walking entered

  -- where a turn wants no row to be stored, what changes is how far the rows are followed and walked
  stands_further : {take start top : ℕ} {walking : Bool} {q : stride_code.Stride} → At start top q.step walking q.entered → q.step ≤ suc s.head.edges
      → ((j : ℕ) → q.step ≡ suc j → q.here ≡ edge_start n s.head.locations table j) → (walking ≡ true → 1 ≤ q.step) → ((v : Region) → q.from ≡ Some v → Mem (row_of n v) rows)
      → take < records → (walking ≡ false → take ≡ top)
      → Standing table before records out ws (record s { take = take; start = start; top = top; walking = walking; last = q })
  stands_further grown step_in stands edge_next walked_from take_in takes = record {
    describes = S.describes;
    grown = grown;
    on = S.on;
    step_in = step_in;
    stands = stands;
    edge_next = edge_next;
    walked_from = walked_from;
    sized = S.sized;
    enough = S.enough;
    place_in = S.place_in;
    again = S.again;
    take_in = take_in;
    takes = takes;
    tied = S.tied;
  }

  -- how many edges there are
  pub edges_are : s.head.edges ≡ length (table_of table).edges
  edges_are = S.describes.edges

  -- where a turn wants no row to be stored, what is stored again is there
  pub stands_on : Working table before records out ws s
  stands_on = record {
    standing = subst (λ (l : List Region). Standing table before records out l s) (sym same) S;
    sized = S.sized;
    place_in = S.place_in;
    take_in = S.take_in;
    same_length = S.grown.same_length;
  }
    where
      same : stored ws s ≡ ws
      same = ap (λ (x : Region). set ws s.place x) (sym S.again) ∙ set-get_or ws s.place blank

  pub goes_on : Loops table before records out ws s
  goes_on = record { goes = λ g. stands_on; ends = λ a e. absurd (none-some a (sym S.on ∙ e)) }

  -- the row that is taken is the one at the top
  pub taken_tied : s.walking ≡ false → (r : Region) → r ≡ get_or ws s.take blank → (i : ℕ) → i < s.count → birth n out i ≡ s.top → listed_row n out i ≡ row_of n r
  taken_tied w r e i l b =
      let p : birth n out i ≡ s.take = b ∙ sym (S.takes w) in
      sym (S.tied i l) ∙ ap (λ (j : ℕ). row_of n (get_or ws j blank)) p ∙ ap (row_of n) (sym e)

  pub taken_row : s.walking ≡ false → (r : Region) → r ≡ get_or ws s.take blank → IsRow (bounds_of s.head.clocks) (row_of n r)
  taken_row w r e =
      let (i, h, b) = S.grown.born s.top (S.grown.follows w) in
      rw (taken_tied w r e i h b) at (S.grown.listed.are_rows i h)

  -- plain steps -------------------------------------------------------------------------------------------------------------------------------

  module _ (w : s.walking ≡ false) (r : Region) (e : r ≡ get_or ws s.take blank) (q : stride_code.Stride)
      (F : Follows (table_of table) rows n s.last.step (row_of n r) s.last.entered q) where
    pub taken_listed : Mem (row_of n r) rows
    taken_listed = top_listed S.grown w (row_of n r) (taken_tied w r e) q F

    stride_in : q.step ≤ suc s.head.edges
    stride_in = go q.next refl
      where
        go : (o : Option Region) → q.next ≡ o → q.step ≤ suc s.head.edges
        go None e = omega (arith, F.all e, edges_are)
        go (Some x) e = omega (arith, (F.new x e).in_range, edges_are)

    pub followed_stands : ((j : ℕ) → q.step ≡ suc j → q.here ≡ edge_start n s.head.locations table j) → Standing table before records out ws (went s q)
    followed_stands h =
        stands_further (grown_followed S.grown w (row_of n r) (taken_tied w r e) q F) stride_in h (λ v. never (sym w ∙ v)) (λ v f. absurd (none-some v (sym F.none_from ∙ f))) S.take_in S.takes

    pub followed_comes : (x : Region) → q.next ≡ Some x → Comes (table_of table) rows (row_of n x)
    followed_comes x f = record { by = q.step; parent = row_of n r; listed = taken_listed; is_new = F.new x f }

  -- other steps -------------------------------------------------------------------------------------------------------------------------------

  -- the rows that were found before the start lead into the list by them
  pub old_rows : (m i : ℕ) → m ≤ s.head.edges → plain (table_of table) m ≡ false → i < s.count → birth n out i < s.start
      → every (has rows) (due (table_of table) m (listed_row n out i)) ≡ true
  old_rows m i h p l b = settled_walked (table_of table) rows s.last.entered m (listed_row n out i) p (S.grown.walked m i (omega (arith, edges_are)) p l (inl b))

  module _ (w : s.walking ≡ true) (q : stride_code.Stride) (W : Walks (table_of table) rows n s.last.step q) (u : q.entered ≡ s.last.entered) where
    walk_in : q.step ≤ suc s.head.edges
    walk_in = go q.next refl
      where
        go : (o : Option Region) → q.next ≡ o → q.step ≤ suc s.head.edges
        go None e = omega (arith, W.all e, edges_are)
        go (Some x) e = omega (arith, (W.new x e).2.in_range, edges_are)

    pub walked_stands : ((j : ℕ) → q.step ≡ suc j → q.here ≡ edge_start n s.head.locations table j) → Standing table before records out ws (went s q)
    walked_stands h =
        stands_further
        (subst (λ (v : Bool). At s.start s.top q.step s.walking v) (sym u) (grown_walked S.grown w q W))
        walk_in h (λ v. omega (arith, W.on, S.edge_next v)) W.from S.take_in S.takes

    pub walked_comes : (x : Region) → q.next ≡ Some x → Comes (table_of table) rows (row_of n x)
    walked_comes x f = let (r, i, N) = W.new x f in record { by = q.step; parent = r; listed = i; is_new = N }

  -- from row to row, and from rows to walks -------------------------------------------------------------------------------------------------------

  -- the waiting list has room for all rows
  pub top_in : s.top < s.count → s.top < records
  top_in h = omega (arith, S.grown.listed.short, S.enough)

  module _ (w : s.walking ≡ false) (all : s.last.step ≡ suc s.head.edges) where
    all_edges : s.last.step ≡ suc (length (table_of table).edges)
    all_edges = all ∙ ap suc edges_are

    pub next_stands : s.top + 1 < s.count → Standing table before records out ws (next_row s)
    next_stands h =
        stands_further
        (subst (λ (t : ℕ). At s.start t 0 s.walking s.last.entered) (sym (add-one s.top)) (grown_next S.grown w all_edges (omega arith)))
        (omega arith) (λ j q. absurd (omega arith)) (λ v. never (sym w ∙ v)) S.walked_from (omega (arith, S.grown.listed.short, S.enough)) (λ v. refl)

    pub walks_stand : s.count ≤ s.top + 1 → (first : ℕ) → first ≡ edge_start n s.head.locations table 0 → Standing table before records out ws (to_walks s first)
    walks_stand h first e =
        stands_further
        (subst (λ (t : ℕ). At s.start t 1 true s.last.entered) (sym (add-one s.top)) (grown_walks S.grown w all_edges (omega (arith, S.grown.follows w))))
        (omega arith) (λ j q. let z : 0 ≡ j = omega arith in rw (← z) e) (λ v. omega arith) S.walked_from S.take_in (λ v. never (sym v))

  module _ (w : s.walking ≡ true) (all : s.last.step ≡ suc s.head.edges) where
    pub rows_stand : s.top < s.count → Standing table before records out ws (to_rows s)
    rows_stand h =
        stands_further (grown_on S.grown w (all ∙ ap suc edges_are) h) (omega arith) (λ j q. absurd (omega arith)) (λ v. never v) S.walked_from (omega (arith, S.grown.listed.short, S.enough)) (λ v. refl)
