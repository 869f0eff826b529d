use Rattle.regions.specs.Image.{moved_rank}
use borrow.Author.Rules.{rules}
use borrow.Author.Tests.{tests}
use Rattle.regions.proofs.clock_move.Move.moved_rank.Goals as goal

pub returns-then-interval-eq1 : goal.returns-then-interval-eq1
unfolding moved_rank
returns-then-interval-eq1 c = rw (← c.requires) (search (rules, tests))

pub returns-else-interval-self : goal.returns-else-interval-self
unfolding moved_rank
returns-else-interval-self c = rw (← c.requires) (search (rules, tests))
