use Rattle.tables.specs.Values.{answer_of}
use Rattle.region_lists.proofs.Laws.RegionCall.{packed_promises}
use Rattle.host_calls.proofs.c.tzelmaruf_check_regions.Goals as goal

pub returns-clause-closed : goal.returns-clause-closed
returns-clause-closed c =
    let e = c.check_regions.ensures in
    (packed_promises c.args.table.now c.args.list.now (answer_of c.check_regions.result) c.packed.result c.packed.ensures (e.answer, (e.closed, (e.empty, e.complete)))).1.0

pub returns-clause-empty : goal.returns-clause-empty
returns-clause-empty c =
    let e = c.check_regions.ensures in
    (packed_promises c.args.table.now c.args.list.now (answer_of c.check_regions.result) c.packed.result c.packed.ensures (e.answer, (e.closed, (e.empty, e.complete)))).1.1.0
