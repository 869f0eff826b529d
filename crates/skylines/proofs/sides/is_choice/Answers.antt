use Rattle.automata.proofs.Laws.Chains.{allb_from_all}
use Rattle.regions.specs.Values.{edge_of}
use Rattle.skylines.proofs.Laws.SideTests.{choice_by}
use Rattle.skylines.specs.Sides.{may_choose}
use borrow.Author.Rules.{rules}
use borrow.Author.Tests.{tests}
use Rattle.skylines.proofs.sides.is_choice.Goals as goal

pub returns-then-all : goal.returns-then-all
returns-then-all c =
    (choice_by _ _ _ _ (allb_from_all (may_choose (edge_of c.args.n c.args.e) c.args.k) _ _ _ c.all.ensures.ran (λ x b q k. search (rules, tests)))).0 c.if-all.true

pub returns-else-all : goal.returns-else-all
returns-else-all c =
    (choice_by _ _ _ _ (allb_from_all (may_choose (edge_of c.args.n c.args.e) c.args.k) _ _ _ c.all.ensures.ran (λ x b q k. search (rules, tests)))).1 c.if-all.false
