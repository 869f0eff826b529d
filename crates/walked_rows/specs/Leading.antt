-- What walks from rows of a list tell of them. Assumes nothing.
use Rattle.std.specs.Prelude.{ℕ, ◌≤◌, ◌<◌, ◌≡◌, Bool, true, false, ◌⊎◌, List}
use Rattle.automata.specs.Edge.{Edge}
use Rattle.automata.specs.Successors.{guardsb, edge_rows}
use Rattle.listed_rows.specs.Listed.{listed_row}
use Rattle.listed_rows.specs.declared.listed.Span.{Span}
use Rattle.listed_rows.specs.declared.edge_in_list.EdgeInList.{EdgeInList}
use Rattle.listed_rows.specs.EdgesInLists.{bounds_in, edge_in, led_in}
use Rattle.selection.specs.Chosen.{taken_at}
use Rattle.walked_rows.specs.Open.{Inside}

-- the edge cannot be taken from row i: a guard fails there
abbrev pub Blocked : Edge → ℕ → List ℕ → ℕ → Type 0
Blocked e n list i = guardsb (listed_row n list i) e.guards ≡ false

-- the edge leads into the list from the rows from lo to before hi that are taken
abbrev pub TakenInside : List ℕ → Edge → ℕ → List ℕ → ℕ → ℕ → ℕ → List Bool → Type 0
TakenInside c e n list count lo hi ts = (i : ℕ) → lo ≤ i → i < hi → taken_at ts i ≡ true → Inside (edge_rows c e) n list count i

-- it is so for an edge and rows of its list
abbrev pub TakenIn : EdgeInList → Span → List Bool → Type 0
TakenIn k rows = TakenInside (bounds_in k) (edge_in k) k.list.clocks.count k.list.bytes.now k.list.count rows.start rows.end

-- the edge leads into its list from row i
abbrev pub LeadsIn : EdgeInList → ℕ → Type 0
LeadsIn k = Inside (led_in k) k.list.clocks.count k.list.bytes.now k.list.count

-- of the rows from lo to before hi the same are taken
abbrev pub SameTaken : ℕ → ℕ → List Bool → List Bool → Type 0
SameTaken lo hi ts ts' = (i : ℕ) → lo ≤ i → i < hi → taken_at ts' i ≡ taken_at ts i

-- r is one of the rows from lo to before hi from which the edge leads out of the list, or hi where it leads into it from all rows that are newly taken
pub record Grouped (c : List ℕ) (e : Edge) (n : ℕ) (list : List ℕ) (count lo hi : ℕ) (ts ts' : List Bool) (r : ℕ) : Type 0 where
  pub from : lo ≤ r
  pub to : r ≤ hi
  pub all : r ≡ hi → (i : ℕ) → lo ≤ i → i < hi → taken_at ts' i ≡ true → (taken_at ts i ≡ true) ⊎ Inside (edge_rows c e) n list count i
  pub here : r < hi → Inside (edge_rows c e) n list count r → ⊥
