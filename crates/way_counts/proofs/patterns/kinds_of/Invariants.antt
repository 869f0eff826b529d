use Rattle.way_counts.proofs.Laws.Loops.{Filled}
use Rattle.way_counts.proofs.patterns.kinds_of.Given as goal

abbrev pub invariant-loop-z : goal.invariant-loop-z
invariant-loop-z l = Filled l.search.moves.each l.z l.each
