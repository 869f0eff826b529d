-- Rows of a list that an edge is walked from, and what they tell of the others. Assumes nothing.
use Rattle.std.specs.Prelude.{ℕ, suc, ◌≤◌, ◌<◌, ◌≡◌, Bool, true, false, ◌⊎◌, List, get_or}
use Rattle.automata.specs.Clocks.{at}
use Rattle.automata.specs.Row.{Row}
use Rattle.automata.specs.Edge.{Edge}
use Rattle.automata.specs.Successors.{guardsb, edge_rows}
use Rattle.automata.specs.Checks.{every}
use Rattle.skylines.specs.Reach.{ReachOf}
use Rattle.skylines.specs.declared.reach.Reach.{Reach}
use Rattle.skylines.specs.Skyline.{member}
use Rattle.listed_rows.specs.Listed.{listed_row}

-- all rows that the edge leads to from row i pass a test
abbrev pub Leads : List ℕ → Edge → ℕ → List ℕ → (Row → Bool) → ℕ → Type 0
Leads c e n list p i = every p (edge_rows c e (listed_row n list i)) ≡ true

-- a reach is that of the row whose number it has, which is one from lo to before hi that the edge can be taken from
pub record Sits (c : List ℕ) (e : Edge) (n : ℕ) (list : List ℕ) (lo hi : ℕ) (m : Reach) : Type 0 where
  pub from : lo ≤ m.row
  pub to : m.row < hi
  pub located : (listed_row n list m.row).location ≡ e.source
  pub guarded : guardsb (listed_row n list m.row) e.guards ≡ true
  pub reach : ReachOf c e (listed_row n list m.row) m.row m

-- so do the first so many of them
abbrev pub AllSit : List ℕ → Edge → ℕ → List ℕ → ℕ → ℕ → List Reach → ℕ → Type 0
AllSit c e n list lo hi ms size = (k : ℕ) → k < size → Sits c e n list lo hi (member ms k)

-- all rows that the edge leads to from the rows of the first so many pass a test
abbrev pub AllLead : List ℕ → Edge → ℕ → List ℕ → (Row → Bool) → List Reach → ℕ → Type 0
AllLead c e n list p ms size = (k : ℕ) → k < size → Leads c e n list p ((member ms k).row)

-- row i is offered to those that are chosen, unless it is taken already: what passes from all that are chosen then passes from all that were, and from row i
-- if it is taken now, as it is where none was chosen
pub record Offers (c : List ℕ) (e : Edge) (n : ℕ) (list : List ℕ) (lo hi i : ℕ) (already : Bool) (ms : List Reach) (size : ℕ) (ms' : List Reach) (size' : ℕ) (taken : Bool) : Type 0 where
  pub room : size' ≤ 64
  pub sit : AllSit c e n list lo hi ms' size'
  pub lead : (p : Row → Bool) → AllLead c e n list p ms' size' → AllLead c e n list p ms size
  pub covers : (p : Row → Bool) → AllLead c e n list p ms' size' → taken ≡ true → (already ≡ true) ⊎ Leads c e n list p i
  pub first : size ≡ 0 → taken ≡ true

-- whether row j is taken
abbrev pub taken_at : List Bool → ℕ → Bool
taken_at ts j = get_or ts j false

-- of the rows from lo to before hi that are not taken some are chosen: all before the next one are taken then; what passes from the chosen rows passes from
-- all that are newly taken
pub record Chooses (c : List ℕ) (e : Edge) (n : ℕ) (list : List ℕ) (lo hi : ℕ) (ts ts' : List Bool) (ms : List Reach) (size next : ℕ) : Type 0 where
  pub sit : AllSit c e n list lo hi ms size
  pub room : size ≤ 64
  pub later : lo < hi → lo < next
  pub within : next ≤ hi
  pub taken : (j : ℕ) → lo ≤ j → j < next → taken_at ts' j ≡ true
  pub lead : (p : Row → Bool) → AllLead c e n list p ms size → (j : ℕ) → lo ≤ j → j < hi → taken_at ts' j ≡ true → (taken_at ts j ≡ true) ⊎ Leads c e n list p j

-- rows that slots hold ----------------------------------------------------------------------------------------------------------

-- row j is one from lo to before hi that the edge can be taken from
pub record Offered (e : Edge) (n : ℕ) (list : List ℕ) (lo hi j : ℕ) : Type 0 where
  pub from : lo ≤ j
  pub to : j < hi
  pub located : (listed_row n list j).location ≡ e.source
  pub guarded : guardsb (listed_row n list j) e.guards ≡ true

-- so is each row that a slot holds; a slot with 0 holds none, one with j + 1 row j
abbrev pub AllHeld : Edge → ℕ → List ℕ → ℕ → ℕ → List ℕ → Type 0
AllHeld e n list lo hi slots = (k j : ℕ) → k < 1024 → at slots k ≡ suc j → Offered e n list lo hi j

-- all rows that the edge leads to from the rows that slots hold pass a test
abbrev pub HeldLead : List ℕ → Edge → ℕ → List ℕ → (Row → Bool) → List ℕ → Type 0
HeldLead c e n list p slots = (k j : ℕ) → k < 1024 → at slots k ≡ suc j → Leads c e n list p j

-- row i is offered to the slots, unless it is taken already: what passes from all that they hold then passes from all that they held, and from row i if it is
-- taken now
pub record Lodges (c : List ℕ) (e : Edge) (n : ℕ) (list : List ℕ) (lo hi i : ℕ) (already : Bool) (slots slots' : List ℕ) (taken : Bool) : Type 0 where
  pub held : AllHeld e n list lo hi slots'
  pub lead : (p : Row → Bool) → HeldLead c e n list p slots' → HeldLead c e n list p slots
  pub covers : (p : Row → Bool) → HeldLead c e n list p slots' → taken ≡ true → (already ≡ true) ⊎ Leads c e n list p i

-- rows from lo to before hi were offered to the slots: what passes from the rows that they hold then passes from all that they held, and from all rows that
-- are newly taken
pub record Groups (c : List ℕ) (e : Edge) (n : ℕ) (list : List ℕ) (lo hi : ℕ) (ts ts' : List Bool) (slots slots' : List ℕ) : Type 0 where
  pub held : AllHeld e n list lo hi slots'
  pub still : (p : Row → Bool) → HeldLead c e n list p slots' → HeldLead c e n list p slots
  pub lead : (p : Row → Bool) → HeldLead c e n list p slots' → (j : ℕ) → lo ≤ j → j < hi → taken_at ts' j ≡ true → (taken_at ts j ≡ true) ⊎ Leads c e n list p j
