use Rattle.automata.proofs.Laws.Chains.{allb_from_all}
use Rattle.automata.specs.Rows.{clockb}
use Rattle.regions.proofs.Laws.RegionTests.{row_is}
use Rattle.regions.specs.Values.{bounds_of, row_of}
use borrow.Author.Rules.{rules}
use borrow.Author.Tests.{tests}
use mathlib.Core.Path.{◌∙◌}
use Rattle.regions.proofs.region.Region.is_region.Goals as goal

pub returns : goal.returns
returns c =
    allb_from_all (clockb (bounds_of c.args.clocks) (row_of c.args.clocks.count c.args.self)) _ _ _ c.all.ensures.ran (λ x b q k. search (rules, tests))
    ∙ row_is c.args.clocks c.args.self (search rules) (search rules) (search rules) (search rules)
