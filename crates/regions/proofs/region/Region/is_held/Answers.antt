use Rattle.automata.proofs.Laws.Chains.{someb_from_any}
use Rattle.automata.specs.Clocks.{at}
use Rattle.regions.proofs.Laws.RegionTests.{held_zero, held_some}
use borrow.Author.Rules.{rules}
use borrow.Author.Tests.{tests}
use lib.Dec.{eqb}
use mathlib.Core.Path.{◌∙◌}
use Rattle.regions.proofs.region.Region.is_held.Goals as goal

pub returns-then-rank-eq0 : goal.returns-then-rank-eq0
returns-then-rank-eq0 c =
    search (rules, tests, held_zero c.args.clocks c.args.self)

pub returns-else-rank-eq0 : goal.returns-else-rank-eq0
returns-else-rank-eq0 c =
    someb_from_any (λ z. eqb (at c.args.self.ranks z) c.args.rank) _ _ _ c.any.ensures.ran (λ x b q k. search (rules, tests))
    ∙ held_some c.args.clocks c.args.self c.args.clocks.few (search rules) _ c.if-rank-eq0.false
