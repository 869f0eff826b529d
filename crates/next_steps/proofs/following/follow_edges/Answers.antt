use Rattle.tables.proofs.Laws.Tables.{describes_of}
use Prim.Native.Nat.{ℕ}
use Rattle.listed_rows.specs.RegionLists.{all_rows}
use Rattle.next_steps.proofs.Laws.Following.{step_edge, at_step, step_next, along_on, along_new}
use Rattle.next_steps.specs.Steps.{Asks}
use Rattle.regions.specs.Values.{row_of}
use Rattle.table_files.proofs.Laws.Admission.{admission_limits}
use Rattle.table_files.specs.Admission.{table_of}
use Rattle.tables.proofs.Laws.Described.{edge_stands}
use mathlib.Core.Path.{sym}
use native.Mathlib.Omega.{arith}
use Rattle.next_steps.proofs.following.follow_edges.Goals as goal

pub ask_at-asked-requires-clause-by_index : goal.ask_at-asked-requires-clause-by_index
ask_at-asked-requires-clause-by_index c =
    let (A, B) = c.loop-step.invariant in
    let (j, _, l, m) = step_edge c.args.table.now.file.now c.args.table.now.head c.loop-step.step c.loop-step.here (omega (arith, A.above, A.on)) (omega (arith, c.loop-step-test.true)) B in
    (j, l, m)

pub returns-then-is_some-clause-follows : goal.returns-then-is_some-clause-follows
returns-then-is_some-clause-follows c =
    let (A, B) = c.loop-step.invariant in
    let rows = all_rows c.args.list.now in
    let r = row_of c.args.list.now.clocks.count c.args.row in
    let Q = at_step c.args.table.now.file.now c.args.table.now.head c.loop-step.step c.loop-step.here (omega (arith, A.above, A.on)) (omega (arith, c.loop-step-test.true)) B (λ (t : ℕ). Asks (table_of c.args.table.now.file.now) rows c.args.list.now.clocks.count t r c.loop-step.entered c.ask_at-asked.result.next c.ask_at-asked.result.entered) c.ask_at-asked.ensures in
    along_new A (omega (arith, c.loop-step-test.true, c.args.table.now.edges)) Q (sym c.if-is_some.ensures) c.loop-step.here

pub after_edge-here-requires : goal.after_edge-here-requires
after_edge-here-requires c =
    let (A, B) = c.loop-step.invariant in
    let (j, _, l, m) = step_edge c.args.table.now.file.now c.args.table.now.head c.loop-step.step c.loop-step.here (omega (arith, A.above, A.on)) (omega (arith, c.loop-step-test.true)) B in
    edge_stands c.args.table.now.file.now c.args.table.now.head (describes_of c.args.table.now) j l m

pub overflow_add-end : goal.overflow_add-end
overflow_add-end c =
    let D = (describes_of c.args.table.now) in
    let (h, q) = D.passes in
    omega (arith, D.edges, (admission_limits c.args.table.now.file.now h q).few_edges)

pub loop-step-preserved : goal.loop-step-preserved
loop-step-preserved c =
    let (A, B) = c.loop-step.invariant in
    let rows = all_rows c.args.list.now in
    let r = row_of c.args.list.now.clocks.count c.args.row in
    let Q = at_step c.args.table.now.file.now c.args.table.now.head c.loop-step.step c.loop-step.here (omega (arith, A.above, A.on)) (omega (arith, c.loop-step-test.true)) B (λ (t : ℕ). Asks (table_of c.args.table.now.file.now) rows c.args.list.now.clocks.count t r c.loop-step.entered c.ask_at-asked.result.next c.ask_at-asked.result.entered) c.ask_at-asked.ensures in
    (along_on A (omega (arith, c.loop-step-test.true, c.args.table.now.edges)) Q (sym c.if-is_some.ensures), step_next c.args.table.now.file.now c.args.table.now.head c.loop-step.step c.loop-step.here c.after_edge-here.result (omega (arith, A.above, A.on)) B c.after_edge-here.ensures)
