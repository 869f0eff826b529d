use Rattle.automata.proofs.Laws.Chains.{someb_from_any}
use Rattle.automata.specs.Rankings.{usedb}
use borrow.Author.Rules.{rules}
use borrow.Author.Tests.{tests}
use Rattle.regions.proofs.room.is_used.Goals as goal

pub returns : goal.returns
unfolding usedb
returns c =
    someb_from_any _ _ _ _ c.any.ensures.ran (λ x b q k. search (rules, tests))
