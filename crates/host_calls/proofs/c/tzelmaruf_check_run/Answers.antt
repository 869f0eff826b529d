use Rattle.tables.specs.Values.{answer_of}
use Rattle.host_calls.proofs.Laws.HostCalls.{run_promises}
use Rattle.host_calls.proofs.c.tzelmaruf_check_run.Goals as goal

pub returns-clause-run : goal.returns-clause-run
returns-clause-run c =
    (run_promises c.args.table.now c.args.list.now (answer_of c.check_run.result) c.packed.result c.packed.ensures c.check_run.ensures.answer c.check_run.ensures.run c.check_run.ensures.reached).1.0

pub returns-clause-reached : goal.returns-clause-reached
returns-clause-reached c =
    (run_promises c.args.table.now c.args.list.now (answer_of c.check_run.result) c.packed.result c.packed.ensures c.check_run.ensures.answer c.check_run.ensures.run c.check_run.ensures.reached).1.1
