use Rattle.skylines.proofs.Laws.Covered.{Dropping}
use Rattle.skylines.proofs.skyline.Skyline.drop_covered.Given as goal

abbrev pub invariant-loop-k : goal.invariant-loop-k
invariant-loop-k l = Dropping l.n l.own l.initial.self.members l.initial.self.size l.k l.kept l.self.members
