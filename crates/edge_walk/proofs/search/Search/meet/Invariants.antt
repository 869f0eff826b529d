use Rattle.edge_walk.proofs.Laws.Meet.{Unmet}
use Rattle.edge_walk.specs.Stand.{steps_left}
use Rattle.edge_walk.proofs.search.Search.meet.Given as goal

abbrev pub invariant-loop-at : goal.invariant-loop-at
invariant-loop-at l = Unmet l.self l.initial.at l.at

abbrev pub decreases-loop-at : goal.decreases-loop-at
decreases-loop-at l = steps_left l.self l.at
