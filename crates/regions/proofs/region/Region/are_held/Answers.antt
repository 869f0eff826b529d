use Rattle.automata.proofs.Laws.Chains.{allb_from_all}
use Rattle.automata.specs.Rows.{heldb}
use Rattle.regions.specs.Values.{bounds_of, row_of}
use borrow.Author.Rules.{rules}
use borrow.Author.Tests.{tests}
use Rattle.regions.proofs.region.Region.are_held.Goals as goal

pub returns : goal.returns
returns c =
    allb_from_all (heldb (bounds_of c.args.clocks) (row_of c.args.clocks.count c.args.self)) _ _ _ c.all.ensures.ran (λ x b q k. search (rules, tests))
