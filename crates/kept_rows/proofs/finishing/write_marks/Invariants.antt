use Rattle.kept_rows.proofs.Laws.Finished.{Marked}
use Rattle.kept_rows.proofs.finishing.write_marks.Given as goal

abbrev pub invariant-loop-i : goal.invariant-loop-i
invariant-loop-i l = Marked l.n l.initial.out l.count l.i l.out
