use Rattle.edge_walk.specs.Way.{rows_on}
use Rattle.listed_rows.specs.RegionLists.{all_rows}
use Rattle.new_rows.proofs.Laws.Walking.{Walked, rows_left}
use Rattle.regions.specs.Values.{found_of}
use Rattle.new_rows.proofs.walking.first_new.Given as goal

abbrev pub invariant-loop-next : goal.invariant-loop-next
invariant-loop-next l = Walked (rows_on l.way) (all_rows l.list) (found_of l.list.clocks.count l.fn.floor) (found_of l.list.clocks.count l.next)

abbrev pub decreases-loop-next : goal.decreases-loop-next
decreases-loop-next l = rows_left (rows_on l.way) (found_of l.list.clocks.count l.next)
