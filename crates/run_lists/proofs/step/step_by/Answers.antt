use Rattle.automata.specs.Run.{Move}
use Rattle.regions.specs.Values.{edge_of}
use Rattle.run_lists.proofs.Laws.OneStep.{step_leaves_not, step_guards_fail, step_updates_fail, step_taken}
use Rattle.run_lists.specs.Step.{move_of, point_of}
use Rattle.table_records.proofs.Laws.Scan.{refusal}
use mathlib.Core.Path.{sym, ◌∙◌}
use Rattle.run_lists.proofs.step.step_by.Goals as goal

pub returns-then-state-e-clause-means : goal.returns-then-state-e-clause-means
returns-then-state-e-clause-means c =
    let m : Move = move_of c.args.n c.args.step.now in
    sym (refusal c.at.ensures (step_leaves_not (edge_of c.args.n c.args.e) c.args.scale c.args.place (point_of c.args.n c.args.state) m c.if-state-e.true))

pub returns-then-not-guards_hold-clause-means : goal.returns-then-not-guards_hold-clause-means
returns-then-not-guards_hold-clause-means c =
    let m : Move = move_of c.args.n c.args.step.now in
    let g = rw c.four_bytes-delay.ensures at c.guards_hold.ensures in
    sym (refusal c.at-then-not-guards_hold.ensures (step_guards_fail (edge_of c.args.n c.args.e) c.args.scale c.args.place (point_of c.args.n c.args.state) m c.if-state-e.false (sym g ∙ c.if-not-guards_hold.true)))

pub returns-then-not-updates_allow-clause-means : goal.returns-then-not-updates_allow-clause-means
returns-then-not-updates_allow-clause-means c =
    let m : Move = move_of c.args.n c.args.step.now in
    let g = rw c.four_bytes-delay.ensures at c.guards_hold.ensures in
    let u = rw (c.four_bytes-delay.ensures, c.new_values-values.ensures) at c.updates_allow.ensures in
    sym (refusal c.at-then-not-updates_allow.ensures (step_updates_fail (edge_of c.args.n c.args.e) c.args.scale c.args.place (point_of c.args.n c.args.state) m c.if-state-e.false (sym g ∙ c.if-not-guards_hold.false) (sym u ∙ c.if-not-updates_allow.true)))

pub returns-clause-means : goal.returns-clause-means
returns-clause-means c =
    let m : Move = move_of c.args.n c.args.step.now in
    let g = rw c.four_bytes-delay.ensures at c.guards_hold.ensures in
    let u = rw (c.four_bytes-delay.ensures, c.new_values-values.ensures) at c.updates_allow.ensures in
    rw c.new_values-values.ensures (sym (step_taken (edge_of c.args.n c.args.e) c.args.scale c.args.place (point_of c.args.n c.args.state) m c.if-state-e.false (sym g ∙ c.if-not-guards_hold.false) (sym u ∙ c.if-not-updates_allow.false)))
