use Rattle.std.proofs.Common.{◌∙◌, ap}
use Rattle.table_files.specs.Answer.{packed}
use Rattle.host_calls.proofs.Laws.HostCalls.{admission_promises}
use Rattle.host_calls.proofs.c.tzelmaruf_admit.Goals as goal

pub returns-clause-one : goal.returns-clause-one
returns-clause-one c = (admission_promises c.args.table.now c.packed.result (c.packed.ensures ∙ ap packed c.admission.ensures.answer)).1
