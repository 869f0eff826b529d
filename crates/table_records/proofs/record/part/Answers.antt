use Rattle.table_files.proofs.Laws.Records.{span}
use Rattle.table_files.specs.Records.{part_at}
use Rattle.table_records.proofs.record.part.Goals as goal

pub returns-then-is_there : goal.returns-then-is_there
unfolding part_at
returns-then-is_there c =
    simp (← c.is_there.ensures, c.if-is_there.true, span)

pub returns-else-is_there : goal.returns-else-is_there
unfolding part_at
returns-else-is_there c =
    simp (← c.is_there.ensures, c.if-is_there.false)
