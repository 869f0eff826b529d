use Rattle.regions.specs.Placing.{placed_at}
use borrow.Author.Rules.{rules}
use borrow.Author.Tests.{tests}
use Rattle.regions.proofs.placing.Moves.are_placed.Goals as goal

pub returns-then-rank_fits : goal.returns-then-rank_fits
unfolding placed_at
returns-then-rank_fits c = search (rules, tests)

pub returns-else-rank_fits : goal.returns-else-rank_fits
unfolding placed_at
returns-else-rank_fits c = search (rules, tests)
