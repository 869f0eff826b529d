use Rattle.tables.proofs.Laws.Tables.{opened}
use Rattle.tables.proofs.Laws.Refusals.{described, records_few, answers}
use mathlib.Core.Path.{sym}
use native.Mathlib.Omega.{arith}
use Rattle.tables.proofs.admission.admission.Goals as goal

pub overflow_add-result-2 : goal.overflow_add-result-2
overflow_add-result-2 c =
    omega (arith, records_few c.args.file.now _ (opened c.in_ok-head.field-0 c.in_ok-head.ensures))

pub returns-clause-answer : goal.returns-clause-answer
returns-clause-answer c =
    (answers c.args.file.now _ (sym (described c.args.file.now _ (opened c.in_ok-head.field-0 c.in_ok-head.ensures)))).0

pub returns-clause-admitted : goal.returns-clause-admitted
returns-clause-admitted c =
    (answers c.args.file.now _ (sym (described c.args.file.now _ (opened c.in_ok-head.field-0 c.in_ok-head.ensures)))).1
