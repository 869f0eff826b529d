use Rattle.region_lists.proofs.Laws.ListRecords.{RowsSoFar}
use Rattle.table_files.specs.Admission.{table_of}
use Rattle.region_lists.proofs.list_records.read_rows.Given as goal

abbrev pub invariant-loop-i : goal.invariant-loop-i
invariant-loop-i l = RowsSoFar (table_of l.table.file.now) l.list l.count l.at l.i-counter
