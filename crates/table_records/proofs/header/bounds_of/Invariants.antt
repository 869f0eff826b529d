use Rattle.table_records.proofs.Laws.Header.{Copying}
use Rattle.table_records.proofs.header.bounds_of.Given as goal

abbrev pub invariant-loop-z : goal.invariant-loop-z
invariant-loop-z l = Copying l.bytes l.z l.bounds
