use Rattle.automata.proofs.Laws.Chains.{allb_from_all}
use Rattle.regions.specs.Placing.{some_permitted}
use borrow.Author.Rules.{rules}
use borrow.Author.Tests.{tests}
use Rattle.regions.proofs.placing.Moves.all_permit.Goals as goal

pub returns : goal.returns
returns c =
    allb_from_all (some_permitted c.args.self.each) _ _ _ c.all.ensures.ran (λ x b q k. search (rules, tests))
