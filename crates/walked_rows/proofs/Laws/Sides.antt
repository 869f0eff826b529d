-- An edge that is taken by its sides, side after side. Assumes nothing.
use Prim.Native.Nat.{ℕ, ◌+◌, ◌≤◌, ◌<◌}
use native.Mathlib.Decide.{ℕ_discrete}
use native.Mathlib.Omega.{arith}
use mathlib.Core.Path.{◌≡◌, refl, sym, ap, ◌∙◌}
use mathlib.Core.Bool.{Bool, true, false}
use mathlib.Core.Logic.{◌↔◌}
use mathlib.Core.List.{List}
use lib.ListN.{length}
use Rattle.automata.specs.Row.{IsRow}
use Rattle.automata.specs.Edge.{Edge, Bounded}
use Rattle.automata.specs.Successors.{edge_rows}
use Rattle.automata.specs.Checks.{has}
use Rattle.automata.proofs.Laws.Tests.{never}
use Rattle.regions.specs.Values.{bounds_of, edge_of}
use Rattle.regions.specs.declared.edge.Edge as edge_code
use Rattle.skylines.specs.Sides.{sided, is_choice}
use Rattle.skylines.proofs.Laws.Sides.{sided_bounded, sides_every}
use Rattle.listed_rows.specs.Listed.{listed_row, listed_rows}
use Rattle.walked_rows.specs.Open.{Inside, FirstOpen, SomeOpen}
use Rattle.listed_rows.specs.Located.{RowsIn}
use Rattle.listed_rows.specs.EdgesInLists.{bounds_in, edge_in}
use Rattle.listed_rows.specs.declared.edge_in_list.EdgeInList.{EdgeInList}
use Rattle.walked_rows.specs.Leading.{TakenInside, LeadsIn}
use Rattle.walked_rows.proofs.Laws.Open.{first_none, first_as, first_then}

-- an edge by its sides leads from where the edge does to where the edge does
sided_ends : (n : ℕ) (e : Edge) (k : ℕ) → ((sided n e k).source ≡ e.source) × ((sided n e k).target ≡ e.target)
unfolding sided
sided_ends n e k = (refl, refl)

-- the edge that the code takes is for the same list and clocks
module _ (k : EdgeInList) (s : edge_code.Edge) (j : ℕ) (means : edge_of k.list.clocks.count s ≡ sided k.list.clocks.count (edge_in k) j) where
  pub side_source : s.source ≡ k.e.source
  side_source = ap (λ (d : Edge). d.source) means ∙ (sided_ends k.list.clocks.count (edge_in k) j).0

  pub side_target : s.target ≡ k.e.target
  side_target = ap (λ (d : Edge). d.target) means ∙ (sided_ends k.list.clocks.count (edge_in k) j).1

  pub side_bounded : Bounded (bounds_in k) (edge_of k.list.clocks.count s)
  side_bounded = rw means (rw k.list.sized at (sided_bounded (bounds_in k) (edge_in k) k.bounded j))

  pub side_rows_in : RowsIn k.list.clocks.count k.list.bytes.now k.list.count s.target k.into.start k.into.end
  side_rows_in = rw side_target k.rows_in

-- it leads into the same list just where the edge by these sides does
pub side_leads : (k s : EdgeInList) (j : ℕ) → s.list ≡ k.list → edge_in s ≡ sided k.list.clocks.count (edge_in k) j
    → LeadsIn s ≡ Inside (edge_rows (bounds_in k) (sided k.list.clocks.count (edge_in k) j)) k.list.clocks.count k.list.bytes.now k.list.count
side_leads k s j same means = λ t. Inside (edge_rows (bounds_of (same t).clocks) (means t)) (same t).clocks.count (same t).bytes.now (same t).count

module _ (c : List ℕ) (e : Edge) (n : ℕ) (list : List ℕ) (count start end : ℕ) where
  -- by the sides of the choices before k the edge leads into the list from row i
  abbrev pub SidesInside : ℕ → ℕ → Type 0
  SidesInside k i = (j : ℕ) → j < k → is_choice n e j ≡ true → Inside (edge_rows c (sided n e j)) n list count i

  pub sides_begin : start ≤ end → FirstOpen (SidesInside 0) start end end
  sides_begin h = first_none (SidesInside 0) start end h (λ i a b j l. absurd (omega arith))

  module _ (k first : ℕ) (F : FirstOpen (SidesInside k) start end first) where
    pub sides_on : (r : ℕ) → is_choice n e k ≡ true → FirstOpen (Inside (edge_rows c (sided n e k)) n list count) start first r → FirstOpen (SidesInside (k + 1)) start end r
    sides_on r t G =
        first_then (SidesInside k) (Inside (edge_rows c (sided n e k)) n list count) start end (SidesInside (k + 1))
        (λ i a b. (λ h. (λ j l. h j (omega arith), h k (omega arith) t), λ h j l. go i h.0 h.1 j l (ℕ_discrete j k))) first F r G
      where
        go : (i : ℕ) → SidesInside k i → Inside (edge_rows c (sided n e k)) n list count i → (j : ℕ) → j < k + 1 → Dec (j ≡ k) → is_choice n e j ≡ true → Inside (edge_rows c (sided n e j)) n list count i
        go i h g j l (yes q) = rw q (λ _. g)
        go i h g j l (no q) = h j (omega arith)

    pub sides_pass : is_choice n e k ≡ false → FirstOpen (SidesInside (k + 1)) start end first
    sides_pass f = first_as (SidesInside k) (SidesInside (k + 1)) start end (λ i a b. (λ h j l. go i h j l (ℕ_discrete j k), λ h j l. h j (omega arith))) first F
      where
        go : (i : ℕ) → SidesInside k i → (j : ℕ) → j < k + 1 → Dec (j ≡ k) → is_choice n e j ≡ true → Inside (edge_rows c (sided n e j)) n list count i
        go i h j l (yes q) = rw q (λ t. never (sym f ∙ t))
        go i h j l (no q) = h j (omega arith)

  module _ (sized : length c ≡ n) (few : n ≤ 4) (bounded : Bounded c e) (are_rows : (j : ℕ) → j < count → IsRow c (listed_row n list j)) (within : end ≤ count) where
    -- it leads into the list just from where it does by all of them
    all_sides : (i : ℕ) → i < end → Inside (edge_rows c e) n list count i ↔ SidesInside 16 i
    all_sides i b = rw sized at (sides_every c e (listed_row n list i) (omega arith) (are_rows i (omega arith)) bounded (has (listed_rows n list count)))

    pub sides_all : (k first : ℕ) → FirstOpen (SidesInside k) start end first → 16 ≤ k → k ≤ 16 → FirstOpen (Inside (edge_rows c e) n list count) start end first
    sides_all k first F g h =
        first_as (SidesInside k) (Inside (edge_rows c e) n list count) start end
        (λ i a b. (λ q. (all_sides i b).1 (λ j l t. q j (omega arith) t), λ q j l t. (all_sides i b).0 q j (omega arith) t)) first F

    -- one side of it
    module _ (k : ℕ) (l : k < 16) (t : is_choice n e k ≡ true) where
      -- the rows that are taken lead into the list by this side too
      pub side_taken : (ts : List Bool) → TakenInside c e n list count start end ts → TakenInside c (sided n e k) n list count start end ts
      side_taken ts T i a b m = (all_sides i b).0 (T i a b m) k l t

      -- a row from which it leads out of the list is open
      pub side_found : (r : ℕ) → SomeOpen (Inside (edge_rows c (sided n e k)) n list count) start end r → r < end → SomeOpen (Inside (edge_rows c e) n list count) start end r
      side_found r S b = record { from = S.from; to = S.to; all = λ z. absurd (omega arith); here = λ _ h. S.here b ((all_sides r b).0 h k l t) }
