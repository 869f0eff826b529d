use Rattle.edge_walk.specs.Choice.{allowsb}
use Rattle.inclusion.proofs.Laws.Counted.{passed_numbers}
use Rattle.listed_rows.proofs.Laws.Listed.{listed_again}
use Rattle.listed_rows.specs.Listed.{listed_row}
use Rattle.std.proofs.lemmas.Iterator.{YieldsList-from_range}
use Rattle.std.proofs.lemmas.Iterator.Consumers.{count_from_yields_List, YieldsList-from_filter}
use borrow.Author.Rules.{rules}
use borrow.Author.Tests.{tests}
use mathlib.Core.Path.{refl, ◌∙◌}
use Rattle.inclusion.proofs.counted.allowed_rows.Goals as goal

pub returns : goal.returns
returns c =
    let n = c.args.s.clocks.count in
    count_from_yields_List c.filter.result _ c.count.ensures.ran
    (YieldsList-from_filter _ (λ i. allowsb c.args.s (listed_row n c.args.list.now i)) (YieldsList-from_range c.args.start c.args.end _ c.filter.ensures.source refl) c.filter.ensures.closure
    (λ x b q k. search (rules, tests, listed_again)))
    ∙ passed_numbers (allowsb c.args.s) (listed_row n c.args.list.now) _ c.args.start
