use Rattle.automata.proofs.Laws.Chains.{allb_from_all}
use Rattle.skylines.proofs.Laws.Reach.{within_at}
use Rattle.skylines.specs.Reach.{withinb}
use borrow.Author.Rules.{rules}
use borrow.Author.Tests.{tests}
use Rattle.skylines.proofs.reach.is_within.Goals as goal

pub returns : goal.returns
unfolding withinb
returns c =
    allb_from_all (within_at c.args.a c.args.b) _ _ _ c.all.ensures.ran (λ x b q k. search (rules, tests))
