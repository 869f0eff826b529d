use Rattle.automata.proofs.Laws.Chains.{someb_from_any}
use Rattle.automata.specs.Clocks.{at}
use Rattle.automata.specs.Wait.{entersb, growsb}
use Rattle.regions.proofs.Laws.WaitTests.{some_test}
use borrow.Author.Rules.{rules}
use borrow.Author.Tests.{tests}
use mathlib.Core.Path.{◌∙◌}
use Rattle.regions.proofs.region.Region.grows.Goals as goal

pub returns : goal.returns
unfolding growsb
returns c =
    someb_from_any (λ z. entersb (at c.args.clocks.bounds z) (at c.args.self.intervals z)) _ _ _ c.any.ensures.ran (λ x b q k. search (rules, tests))
    ∙ some_test c.args.clocks c.args.self (search rules) (search rules) entersb
