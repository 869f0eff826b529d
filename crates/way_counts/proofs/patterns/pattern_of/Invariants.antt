use Rattle.way_counts.proofs.Laws.Loops.{Chosen}
use Rattle.way_counts.proofs.patterns.pattern_of.Given as goal

abbrev pub invariant-loop-z : goal.invariant-loop-z
invariant-loop-z l = Chosen l.kinds l.number l.location l.z l.part l.times
