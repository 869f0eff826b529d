use Rattle.tables.proofs.Laws.Tables.{describes_of}
use Rattle.run_lists.proofs.Laws.RunCode.{begins, refused_at, ends_missing, ends_out, goes_round, ends_long, concludes, step_length}
use Rattle.table_files.specs.Admission.{table_of}
use Rattle.tables.proofs.Laws.Starts.{few_edges}
use borrow.Author.Tests.{eqb-true, eqb-false}
use mathlib.Core.Path.{sym, ◌∙◌}
use native.Mathlib.Omega.{arith}
use Rattle.run_lists.proofs.run.check_steps.Goals as goal

pub loop-i-init : goal.loop-i-init
loop-i-init c =
    begins c.args.table.now.file.now c.args.table.now.head (describes_of c.args.table.now) c.args.scale c.args.steps c.args.list.now

pub returns-then-is_empty : goal.returns-then-is_empty
returns-then-is_empty c =
    refused_at c.at.ensures (ends_missing c.args.table.now.file.now c.args.table.now.head (describes_of c.args.table.now) c.args.scale c.args.steps c.args.list.now c.loop-i.reached c.loop-i.at c.loop-i.i c.loop-i.invariant c.loop-i-test.true c.record-step.result.now c.record-step.ensures (eqb-true _ _ (sym c.is_empty.ensures ∙ c.if-is_empty.true)))

pub two_bytes-number-requires : goal.two_bytes-number-requires
two_bytes-number-requires c =
    omega (arith, step_length (table_of c.args.table.now.file.now) c.args.table.now.head.clocks.count c.args.table.now.count c.loop-i.i c.loop-i.at c.args.list.now c.record-step.result.now c.record-step.ensures (eqb-false _ _ (sym c.is_empty.ensures ∙ c.if-is_empty.false)))

pub returns-then-head-number : goal.returns-then-head-number
returns-then-head-number c =
    refused_at c.at-then-head-number.ensures (ends_out c.args.table.now.file.now c.args.table.now.head (describes_of c.args.table.now) c.args.scale c.args.steps c.args.list.now c.loop-i.reached c.loop-i.at c.loop-i.i c.loop-i.invariant c.loop-i-test.true c.record-step.result.now c.record-step.ensures (eqb-false _ _ (sym c.is_empty.ensures ∙ c.if-is_empty.false)) (rw c.two_bytes-number.ensures at c.if-head-number.true))

pub take_step-reached-requires-clause-step_len : goal.take_step-reached-requires-clause-step_len
take_step-reached-requires-clause-step_len c =
    let e = step_length (table_of c.args.table.now.file.now) c.args.table.now.head.clocks.count c.args.table.now.count c.loop-i.i c.loop-i.at c.args.list.now c.record-step.result.now c.record-step.ensures (eqb-false _ _ (sym c.is_empty.ensures ∙ c.if-is_empty.false)) in
    e

pub take_step-reached-requires-clause-step_bound : goal.take_step-reached-requires-clause-step_bound
take_step-reached-requires-clause-step_bound c =
    let h = rw c.two_bytes-number.ensures at c.if-head-number.false in
    h

pub take_step-reached-requires-clause-start_value : goal.take_step-reached-requires-clause-start_value
take_step-reached-requires-clause-start_value c =
    let h = rw c.two_bytes-number.ensures at c.if-head-number.false in
    rw c.two_bytes-number.ensures (c.edge_starts-starts.ensures _ h)

pub loop-i-preserved : goal.loop-i-preserved
loop-i-preserved c =
    goes_round c.args.table.now.file.now c.args.table.now.head (describes_of c.args.table.now) c.args.scale c.args.steps c.args.list.now c.loop-i.reached c.loop-i.at c.loop-i.i c.loop-i.invariant c.loop-i-test.true c.record-step.result.now c.record-step.ensures (eqb-false _ _ (sym c.is_empty.ensures ∙ c.if-is_empty.false)) (rw c.two_bytes-number.ensures at c.if-head-number.false) c.take_step-reached.result c.take_step-reached.ensures.means c.take_step-reached.ensures.inside

pub returns-then-at-list : goal.returns-then-at-list
returns-then-at-list c =
    refused_at c.at-then-at-list.ensures (ends_long c.args.table.now.file.now c.args.table.now.head (describes_of c.args.table.now) c.args.scale c.args.steps c.args.list.now c.loop-i.reached c.loop-i.at c.loop-i.i c.loop-i.invariant c.loop-i-test.false c.if-at-list.true)

pub returns : goal.returns
returns c =
    c.conclude.ensures ∙ concludes c.args.table.now.file.now c.args.table.now.head (describes_of c.args.table.now) c.args.scale c.args.steps c.args.list.now c.loop-i.reached c.loop-i.at c.loop-i.i c.loop-i.invariant c.loop-i-test.false c.if-at-list.false

pub bounds-starts-number : goal.bounds-starts-number
bounds-starts-number c =
    omega (arith, few_edges c.args.table.now.file.now c.args.table.now.head (describes_of c.args.table.now), c.if-head-number.false)
