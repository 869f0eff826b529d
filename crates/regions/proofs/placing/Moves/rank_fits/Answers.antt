use Rattle.automata.proofs.Laws.Chains.{allb_from_all}
use Rattle.regions.specs.Placing.{clock_fits_at, rank_fits_at}
use borrow.Author.Rules.{rules}
use borrow.Author.Tests.{tests}
use Rattle.regions.proofs.placing.Moves.rank_fits.Goals as goal

pub returns : goal.returns
unfolding rank_fits_at
returns c =
    allb_from_all (clock_fits_at c.args.self.each c.args.part.intervals c.args.part.ranks c.args.rank c.args.position) _ _ _ c.all.ensures.ran (λ x b q k. search (rules, tests))
