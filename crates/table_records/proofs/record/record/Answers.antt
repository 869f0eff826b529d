use Rattle.table_files.specs.Records.{record_at}
use Rattle.table_records.proofs.Laws.Parts.{begins}
use borrow.Author.Rules.{rules}
use mathlib.Core.Path.{sym, ◌∙◌}
use Rattle.table_records.proofs.record.record.Goals as goal

pub returns-then-starts_with : goal.returns-then-starts_with
unfolding record_at
returns-then-starts_with c =
    rw (← c.part-bytes.ensures, sym (begins c.args.mark _ _ (search rules) c.starts_with.ensures.value) ∙ c.if-starts_with.true)

pub returns-else-starts_with : goal.returns-else-starts_with
unfolding record_at
returns-else-starts_with c =
    rw (← c.part-bytes.ensures, sym (begins c.args.mark _ _ (search rules) c.starts_with.ensures.value) ∙ c.if-starts_with.false)
