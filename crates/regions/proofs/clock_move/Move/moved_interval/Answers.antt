use Rattle.regions.specs.Image.{moved_interval}
use borrow.Author.Rules.{rules}
use Rattle.regions.proofs.clock_move.Move.moved_interval.Goals as goal

pub returns : goal.returns
unfolding moved_interval
returns c = search rules
