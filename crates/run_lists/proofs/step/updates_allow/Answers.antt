use Rattle.automata.proofs.Laws.Chains.{allb_from_all}
use Rattle.regions.specs.declared.edge.Action as action_code
use Rattle.regions.specs.declared.edge.Update.{Update}
use Rattle.run_lists.proofs.Laws.OneStep.{answer_at, updates_each}
use borrow.Author.Rules.{rules}
use borrow.Author.Tests.{tests}
use lib.ListN.{length}
use mathlib.Core.Path.{◌≡◌, ◌∙◌}
use native.Mathlib.Omega.{arith}
use Rattle.run_lists.proofs.step.updates_allow.Goals as goal

pub returns : goal.returns
returns c =
    let long : length c.args.values ≡ 4 = search rules in
    let d : Update = record { action = action_code.TheVariants.Keep; comparison = 0 } in
    allb_from_all (λ z. answer_at c.args.scale c.args.n c.args.delay c.args.values c.args.news c.args.e (omega arith) (omega arith) c.requires.names z d) _ _ _ c.all.ensures.ran (λ x b q k. search (rules, tests))
    ∙ updates_each c.args.scale c.args.n c.args.delay c.args.values c.args.news c.args.e (omega arith) (omega arith) c.requires.names d
