-- Walks from the rows of a list in the making. Assumes nothing.
use Rattle.std.specs.Prelude.{ℕ, ◌<◌, ◌≡◌, true, false, Option, None, Some}
use Rattle.automata.specs.Row.{Row}
use Rattle.automata.specs.Closed.{Mem}
use Rattle.automata.specs.Checks.{every, has}
use Rattle.regions.specs.Values.{row_of}
use Rattle.regions.specs.declared.region.Region.{Region}
use Rattle.listed_rows.specs.RegionLists.{nth_row, all_rows}
use Rattle.listed_rows.specs.EdgesInLists.{led_in}
use Rattle.listed_rows.specs.declared.edge_in_list.EdgeInList.{EdgeInList}
use Rattle.kept_rows.specs.Births.{birth}
use Rattle.next_steps.specs.declared.walking.Walk.{Walk}

-- all rows that the edge leads to from a row are among those that are kept
abbrev pub Leads : EdgeInList → Row → Type 0
Leads k r = every (has (all_rows k.list)) (led_in k r) ≡ true

-- so it is with all rows that were found before the one of this number
abbrev pub Old : EdgeInList → ℕ → Type 0
Old k first = (i : ℕ) → i < k.list.count → birth k.list.clocks.count k.list.bytes.now i < first → Leads k (nth_row k.list i)

-- one of the rows of which it is not so, or none
abbrev pub OpenBy : EdgeInList → Option Region → Type 0
OpenBy k None = (r : Row) → Mem r (all_rows k.list) → Leads k r
OpenBy k (Some v) = Mem (row_of k.list.clocks.count v) (all_rows k.list) × (Leads k (row_of k.list.clocks.count v) → ⊥)

-- a new row that the edge leads to from one of the rows, and the row that was walked from
pub record Walked (k : EdgeInList) (w : Walk) : Type 0 where
  pub one : (r : Row) × Mem r (all_rows k.list) × Mem (row_of k.list.clocks.count w.next) (led_in k r)
  pub new : has (all_rows k.list) (row_of k.list.clocks.count w.next) ≡ false
  pub from_row : Mem (row_of k.list.clocks.count w.from) (all_rows k.list)

-- .. or none, where there is none
abbrev pub WalkedBy : EdgeInList → Option Walk → Type 0
WalkedBy k None = (r : Row) → Mem r (all_rows k.list) → Leads k r
WalkedBy k (Some w) = Walked k w
