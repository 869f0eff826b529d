use Rattle.tables.proofs.Laws.Tables.{describes_of}
use Prim.Native.Nat.{ℕ}
use Rattle.automata.specs.Checks.{every, has}
use Rattle.automata.specs.Closed.{Mem}
use Rattle.automata.specs.Row.{Row}
use Rattle.automata.proofs.Laws.Tests.{never}
use Rattle.listed_rows.specs.RegionLists.{all_rows}
use Rattle.next_steps.proofs.Laws.Asking.{edge_bounded}
use Rattle.next_steps.proofs.Laws.Following.{step_edge, at_step, step_next}
use Rattle.next_steps.proofs.Laws.Walking.{past_on, past_new, led_old, walked_settled, walked_comes}
use Rattle.next_steps.specs.Steps.{due, plain, NewBy}
use Rattle.regions.specs.Values.{row_of}
use Rattle.std.specs.Prelude.{is_some}
use Rattle.table_files.proofs.Laws.Admission.{admission_limits}
use Rattle.table_files.specs.Admission.{table_of}
use Rattle.tables.proofs.Laws.Described.{edge_stands, edge_says}
use borrow.Author.Rules.{rules}
use mathlib.Core.Bool.{true, false}
use mathlib.Core.Path.{◌≡◌, sym, ap, ◌∙◌}
use native.Mathlib.Omega.{arith}
use Rattle.next_steps.proofs.walking.walk_edges.Goals.{else-not-is_plain-via-else-not-is_plain, else-not-is_plain-via-then-not-is_plain+in-None-1}
use Rattle.next_steps.proofs.walking.walk_edges.Goals as goal

pub overflow_add-end : goal.overflow_add-end
overflow_add-end c =
    let D = (describes_of c.args.table.now) in
    let (h, q) = D.passes in
    omega (arith, D.edges, (admission_limits c.args.table.now.file.now h q).few_edges)

pub edge_from-e-requires-clause-stands : goal.edge_from-e-requires-clause-stands
edge_from-e-requires-clause-stands c =
    let ((P, B), _) = c.loop-step.invariant in
    let (j, _, l, m) = step_edge c.args.table.now.file.now c.args.table.now.head c.loop-step.step c.loop-step.here (omega (arith, P.above, P.on)) c.loop-step-test.true B in
    edge_stands c.args.table.now.file.now c.args.table.now.head (describes_of c.args.table.now) j l m

pub is_plain-requires : goal.is_plain-requires
is_plain-requires c =
    let ((P, B), _) = c.loop-step.invariant in
    let (j, _, l, m) = step_edge c.args.table.now.file.now c.args.table.now.head c.loop-step.step c.loop-step.here (omega (arith, P.above, P.on)) c.loop-step-test.true B in
    record { by_index = (j, l, c.edge_from-e.ensures.means ∙ edge_says c.args.table.now.file.now c.args.table.now.head (describes_of c.args.table.now) j l m) }

pub left_by-requires : goal.left_by-requires
left_by-requires c =
    let ((P, B), _) = c.loop-step.invariant in
    let (j, _, l, m) = step_edge c.args.table.now.file.now c.args.table.now.head c.loop-step.step c.loop-step.here (omega (arith, P.above, P.on)) c.loop-step-test.true B in
    let means = c.edge_from-e.ensures.means ∙ edge_says c.args.table.now.file.now c.args.table.now.head (describes_of c.args.table.now) j l m in
    record { bounded = edge_bounded c.args.table.now.file.now c.args.table.now.head (describes_of c.args.table.now) c.args.list.now.clocks c.requires.clocks j l c.edge_from-e.result means }

pub walk_edge-requires-clause-old : goal.walk_edge-requires-clause-old
walk_edge-requires-clause-old c =
    let ((P, B), _) = c.loop-step.invariant in
    let (j, _, l, m) = step_edge c.args.table.now.file.now c.args.table.now.head c.loop-step.step c.loop-step.here (omega (arith, P.above, P.on)) c.loop-step-test.true B in
    let means = c.edge_from-e.ensures.means ∙ edge_says c.args.table.now.file.now c.args.table.now.head (describes_of c.args.table.now) j l m in
    led_old c.args.table.now.file.now c.args.table.now.head (describes_of c.args.table.now) j l c.edge_from-e.result means c.args.list.now c.requires.clocks c.left_by.result c.left_by.ensures.list c.left_by.ensures.e c.args.first (sym (c.is_plain.ensures j l means) ∙ c.if-not-is_plain.true) c.requires.by_index

pub walk_edge-requires-clause-mem : goal.walk_edge-requires-clause-mem
walk_edge-requires-clause-mem c =
    let (_, M) = c.loop-step.invariant in
    rw c.left_by.ensures.list M

pub returns-in-loop-step-clause-walks : goal.returns-in-loop-step-clause-walks
returns-in-loop-step-clause-walks c =
    let ((P, B), _) = c.loop-step.invariant in
    let T = table_of c.args.table.now.file.now in
    let rows = all_rows c.args.list.now in
    let comes = at_step c.args.table.now.file.now c.args.table.now.head c.loop-step.step c.loop-step.here (omega (arith, P.above, P.on)) c.loop-step-test.true B (λ (t : ℕ). (r : Row) × Mem r rows × NewBy T rows t r (row_of c.args.list.now.clocks.count c.in-Some.walk.next)) (λ j l m. let means = c.edge_from-e.ensures.means ∙ edge_says c.args.table.now.file.now c.args.table.now.head (describes_of c.args.table.now) j l m in walked_comes c.args.table.now.file.now c.args.table.now.head (describes_of c.args.table.now) j l c.edge_from-e.result means c.args.list.now c.requires.clocks c.left_by.result c.left_by.ensures.list c.left_by.ensures.e (sym (c.is_plain.ensures j l means) ∙ c.if-not-is_plain.true) c.in-Some.walk c.in-Some.ensures) in
    past_new P c.in-Some.walk c.loop-step.here c.args.last.entered comes (rw c.left_by.ensures.list at c.in-Some.ensures.from_row)

pub after_edge-here-requires : goal.after_edge-here-requires
after_edge-here-requires c =
    let ((P, B), _) = c.loop-step.invariant in
    let (j, _, l, m) = step_edge c.args.table.now.file.now c.args.table.now.head c.loop-step.step c.loop-step.here (omega (arith, P.above, P.on)) c.loop-step-test.true B in
    edge_stands c.args.table.now.file.now c.args.table.now.head (describes_of c.args.table.now) j l m

pub loop-step-preserved : goal.loop-step-preserved
loop-step-preserved c =
    let ((P, B), _) = c.loop-step.invariant in
    let T = table_of c.args.table.now.file.now in
    let rows = all_rows c.args.list.now in
    let settled = at_step c.args.table.now.file.now c.args.table.now.head c.loop-step.step c.loop-step.here (omega (arith, P.above, P.on)) c.loop-step-test.true B (λ (t : ℕ). plain T t ≡ false → (r : Row) → Mem r rows → every (has rows) (due T t r) ≡ true) (λ j l m pl. let means = c.edge_from-e.ensures.means ∙ edge_says c.args.table.now.file.now c.args.table.now.head (describes_of c.args.table.now) j l m in elim c.else-not-is_plain.branch [ else-not-is_plain-via-then-not-is_plain+in-None-1 w ↦ walked_settled c.args.table.now.file.now c.args.table.now.head (describes_of c.args.table.now) j l c.edge_from-e.result means c.args.list.now c.requires.clocks w.left_by.result w.left_by.ensures.list w.left_by.ensures.e (search rules) | else-not-is_plain-via-else-not-is_plain w ↦ never (sym (c.is_plain.ensures j l means ∙ pl) ∙ w.if-not-is_plain.false) ]) in
    ((past_on P (omega (arith, c.loop-step-test.true, c.args.table.now.edges)) settled, step_next c.args.table.now.file.now c.args.table.now.head c.loop-step.step c.loop-step.here c.after_edge-here.result (omega (arith, P.above, P.on)) B c.after_edge-here.ensures), λ v f. never (ap is_some f))
