use Rattle.std.proofs.Common.{◌∙◌, ap, length}
use Rattle.table_files.specs.Answer.{packed}
use Rattle.host_calls.proofs.Laws.HostCalls.{made_list, made_empty, made_reached}
use Rattle.host_calls.proofs.c.tzelmaruf_make_list.Goals as goal

pub returns-clause-list : goal.returns-clause-list
returns-clause-list c =
    let e = c.make_list.ensures in
    made_list c.args.table.now (length c.args.waiting.now) c.args.buffer.now c.make_list.new.buffer c.packed.result (c.packed.ensures ∙ ap packed e.answer) e.buffer

pub returns-clause-empty : goal.returns-clause-empty
returns-clause-empty c =
    let e = c.make_list.ensures in
    made_empty c.args.table.now (length c.args.waiting.now) c.args.buffer.now c.make_list.new.buffer c.packed.result (c.packed.ensures ∙ ap packed e.answer) e.buffer

pub returns-clause-reached : goal.returns-clause-reached
returns-clause-reached c =
    let e = c.make_list.ensures in
    made_reached c.args.table.now (length c.args.waiting.now) c.args.buffer.now c.make_list.new.buffer c.packed.result (c.packed.ensures ∙ ap packed e.answer) e.buffer
