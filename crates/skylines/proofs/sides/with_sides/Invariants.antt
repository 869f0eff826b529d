use Rattle.skylines.proofs.Laws.SideTests.{Siding}
use Rattle.skylines.proofs.sides.with_sides.Given as goal

abbrev pub invariant-loop-z : goal.invariant-loop-z
invariant-loop-z l = Siding l.n l.e l.k l.updates l.z
