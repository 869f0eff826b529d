-- What a list lacks, and what is known of its rows. Assumes nothing.
use Rattle.std.specs.Prelude.{ℕ, ◌<◌, ◌≡◌, Bool, true, false, List}
use Rattle.automata.specs.Row.{Row, IsRow}
use Rattle.automata.specs.Checks.{has}
use Rattle.skylines.specs.declared.reach.Reach.{Reach}
use Rattle.skylines.specs.Skyline.{member}
use Rattle.regions.specs.Values.{row_of}
use Rattle.regions.specs.declared.region.Region.{Region}
use Rattle.listed_rows.specs.RegionLists.{all_rows}
use Rattle.listed_rows.specs.EdgesInLists.{bounds_in, edge_in}
use Rattle.listed_rows.specs.declared.region_list.RegionList.{RegionList}
use Rattle.listed_rows.specs.declared.edge_in_list.EdgeInList.{EdgeInList}
use Rattle.selection.specs.Chosen.{Sits, taken_at}
use Rattle.walked_rows.specs.Open.{Inside}
use Rattle.walked_rows.specs.Leading.{LeadsIn}

-- the next rows of row i by a rule are in the list
abbrev pub NextIn : RegionList → (Row → List Row) → ℕ → Type 0
NextIn l next = Inside next l.clocks.count l.bytes.now l.count

-- a region is one of the edge's target that the list lacks
pub record Lacked (k : EdgeInList) (v : Region) : Type 0 where
  pub is_row : IsRow (bounds_in k) (row_of k.list.clocks.count v)
  pub located : v.location ≡ k.e.target
  pub missing : has (all_rows k.list) (row_of k.list.clocks.count v) ≡ false

-- each reach that is marked is that of a row that the edge leads into the list from
pub record Known (k : EdgeInList) (ms : List Reach) (marks : List Bool) : Type 0 where
  pub sits : (j : ℕ) → j < 64 → taken_at marks j ≡ true → Sits (bounds_in k) (edge_in k) k.list.clocks.count k.list.bytes.now 0 k.list.count (member ms j)
  pub leads : (j : ℕ) → j < 64 → taken_at marks j ≡ true → LeadsIn k (member ms j).row
