use Rattle.listed_rows.specs.RegionLists.{all_rows}
use Rattle.next_steps.proofs.Laws.Following.{Begins, Along}
use Rattle.regions.specs.Values.{row_of}
use Rattle.table_files.specs.Admission.{table_of}
use Rattle.next_steps.proofs.following.follow_edges.Given as goal

abbrev pub invariant-loop-step : goal.invariant-loop-step
invariant-loop-step l = (Along (table_of l.table.file.now) (all_rows l.list) (row_of l.list.clocks.count l.row) l.fn.last.step l.fn.last.entered l.step l.entered) × Begins l.table.file.now l.table.head l.step l.here
