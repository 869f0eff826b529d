use Rattle.run_lists.proofs.Laws.RunCode.{Underway}
use Rattle.table_files.specs.Admission.{table_of}
use Rattle.run_lists.proofs.run.check_steps.Given as goal

abbrev pub invariant-loop-i : goal.invariant-loop-i
invariant-loop-i l = Underway (table_of l.table.file.now) l.scale l.steps l.table.head.clocks.count l.table.head.locations l.list l.reached l.at l.i
