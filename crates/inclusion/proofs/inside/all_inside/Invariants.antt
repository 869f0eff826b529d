use Rattle.automata.specs.Checks.{has}
use Rattle.edge_walk.proofs.Laws.Visit.{Visiting}
use Rattle.edge_walk.specs.Intervals.{Chosen}
use Rattle.edge_walk.specs.Stand.{steps_left}
use Rattle.listed_rows.specs.RegionLists.{all_rows}
use Rattle.ranked_ways.specs.Memo.{Kept}
use Rattle.inclusion.proofs.inside.all_inside.Given as goal

abbrev pub invariant-loop-stand : goal.invariant-loop-stand
invariant-loop-stand l = Visiting l.search (has (all_rows l.list)) l.initial.stand l.stand × Chosen l.search l.stand × Kept l.search l.memo

abbrev pub decreases-loop-stand : goal.decreases-loop-stand
decreases-loop-stand l = steps_left l.search l.stand
