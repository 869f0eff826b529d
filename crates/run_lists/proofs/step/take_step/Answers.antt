use Rattle.tables.proofs.Laws.Tables.{describes_of}
use Rattle.automata.specs.Automaton.{edge}
use Rattle.automata.specs.Run.{Move}
use Rattle.regions.specs.Values.{edge_of}
use Rattle.run_lists.proofs.Laws.OneStep.{names, target_in}
use Rattle.run_lists.specs.Step.{move_of, point_of, step_by}
use Rattle.std.proofs.lemmas.Result.{IfOk-weaker, err_from_is_err_and}
use Rattle.std.specs.Prelude.{Ok, Err}
use Rattle.tables.proofs.Laws.Described.{edge_stands, edge_says}
use Rattle.table_files.specs.Admission.{table_of}
use Rattle.table_files.specs.Reading.{carry}
use borrow.Author.Rules.{rules}
use lib.ListN.{length, length-map}
use mathlib.Core.List.{[]}
use mathlib.Core.Path.{◌≡◌, ◌∙◌}
use Rattle.run_lists.proofs.step.take_step.Goals as goal

pub edge_from-e-requires-clause-stands : goal.edge_from-e-requires-clause-stands
edge_from-e-requires-clause-stands c =
    edge_stands _ _ (describes_of c.args.table.now) _ c.requires.step_bound c.requires.start_value

pub edge_from-e-requires-clause-clocks_bound : goal.edge_from-e-requires-clause-clocks_bound
edge_from-e-requires-clause-clocks_bound c =
    c.args.table.now.head.clocks.few

pub step_by-requires-clause-n_bound : goal.step_by-requires-clause-n_bound
step_by-requires-clause-n_bound c =
    c.args.table.now.head.clocks.few

pub step_by-requires-clause-names : goal.step_by-requires-clause-names
step_by-requires-clause-names c =
    let T = table_of c.args.table.now.file.now in
    let m : Move = move_of c.args.table.now.head.clocks.count c.args.step.now in
    let same : edge_of c.args.table.now.head.clocks.count c.edge_from-e.result ≡ edge T m.number = c.edge_from-e.ensures.means ∙ edge_says c.args.table.now.file.now c.args.table.now.head (describes_of c.args.table.now) m.number c.requires.step_bound c.requires.start_value in
    let gs : length c.edge_from-e.result.guards ≡ 8 = search (rules, length-map) in
    let us : length c.edge_from-e.result.updates ≡ 4 = search (rules, length-map) in
    names c.args.table.now.file.now c.args.table.now.head (describes_of c.args.table.now) m.number c.requires.step_bound c.edge_from-e.result same c.edge_from-e.ensures.few gs us

pub step_by-requires-clause-step_len : goal.step_by-requires-clause-step_len
step_by-requires-clause-step_len c =
    c.requires.step_len

pub returns-in_err-state-clause-means : goal.returns-in_err-state-clause-means
unfolding carry
returns-in_err-state-clause-means c =
    let p = err_from_is_err_and c.from_residual.result c.from_residual.ensures.1 in
    let w : c.args.before ≡ Err c.in_err-state.field-0.0 = c.in_err-state.was in
    rw (p.1, p.2, w)

pub returns-clause-means : goal.returns-clause-means
unfolding carry
returns-clause-means c =
    let m : Move = move_of c.args.table.now.head.clocks.count c.args.step.now in
    let same : edge_of c.args.table.now.head.clocks.count c.edge_from-e.result ≡ edge (table_of c.args.table.now.file.now) m.number = c.edge_from-e.ensures.means ∙ edge_says c.args.table.now.file.now c.args.table.now.head (describes_of c.args.table.now) m.number c.requires.step_bound c.requires.start_value in
    let w : c.args.before ≡ Ok c.in_ok-state.state = c.in_ok-state.was in
    rw w (c.step_by.ensures.means ∙ (λ i. step_by (same i) c.args.scale c.args.place (point_of c.args.table.now.head.clocks.count c.in_ok-state.state) m []))

pub returns-clause-inside : goal.returns-clause-inside
returns-clause-inside c =
    let m : Move = move_of c.args.table.now.head.clocks.count c.args.step.now in
    let same : edge_of c.args.table.now.head.clocks.count c.edge_from-e.result ≡ edge (table_of c.args.table.now.file.now) m.number = c.edge_from-e.ensures.means ∙ edge_says c.args.table.now.file.now c.args.table.now.head (describes_of c.args.table.now) m.number c.requires.step_bound c.requires.start_value in
    let l = target_in c.args.table.now.file.now c.args.table.now.head (describes_of c.args.table.now) m.number c.requires.step_bound c.edge_from-e.result same in
    IfOk-weaker c.step_by.result _ _ (λ s e. rw e l) c.step_by.ensures.inside
