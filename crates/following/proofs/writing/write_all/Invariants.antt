use Rattle.edge_walk.specs.Stand.{steps_left}
use Rattle.following.proofs.Laws.Taking.{Taken, rows_from}
use Rattle.ranked_ways.specs.Memo.{Kept}
use Rattle.following.proofs.writing.write_all.Given as goal

abbrev pub invariant-loop-stand : goal.invariant-loop-stand
invariant-loop-stand l = Taken (rows_from l.search l.initial.stand) l.search l.stand l.initial.buffer l.buffer l.at × Kept l.search l.memo

abbrev pub decreases-loop-stand : goal.decreases-loop-stand
decreases-loop-stand l = steps_left l.search l.stand
