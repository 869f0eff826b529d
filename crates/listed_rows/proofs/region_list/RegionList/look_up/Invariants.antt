use Prim.Native.Nat.{◌-◌, ◌<◌}
use Rattle.automata.specs.Checks.{same_row}
use Rattle.listed_rows.proofs.Laws.Listed.{Searched}
use Rattle.listed_rows.specs.RegionLists.{nth_row}
use Rattle.regions.specs.Values.{row_of}
use mathlib.Core.Bool.{false}
use mathlib.Core.Path.{◌≡◌}
use Rattle.listed_rows.proofs.region_list.RegionList.look_up.Given as goal

abbrev pub invariant-loop-low : goal.invariant-loop-low
invariant-loop-low l = Searched (nth_row l.self) l.self.count (row_of l.n l.wanted) l.low l.high × (l.high < l.self.count → same_row (nth_row l.self l.high) (row_of l.n l.wanted) ≡ false)

abbrev pub decreases-loop-low : goal.decreases-loop-low
decreases-loop-low l = l.high - l.low
