use Rattle.automata.specs.Rankings.{newb}
use borrow.Author.Rules.{rules}
use borrow.Author.Tests.{tests}
use Rattle.regions.proofs.room.is_new.Goals as goal

pub returns-then-rank-ne0 : goal.returns-then-rank-ne0
unfolding newb
returns-then-rank-ne0 c = search (rules, tests)

pub returns-else-rank-ne0 : goal.returns-else-rank-ne0
unfolding newb
returns-else-rank-ne0 c = search (rules, tests)
