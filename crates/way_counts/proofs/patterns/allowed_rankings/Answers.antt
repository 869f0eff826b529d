use Rattle.way_counts.proofs.Laws.Loops.{tried_all, ranking_tried}
use Rattle.std.proofs.lemmas.Iterator.{YieldsList-from_range}
use Rattle.std.proofs.lemmas.Iterator.Consumers.{count_from_yields_List, YieldsList-from_filter}
use Rattle.regions.specs.Values.{row_of}
use Rattle.rankings.specs.Ranking.{rows_ranked}
use Rattle.edge_walk.specs.Choice.{allowsb}
use borrow.Author.Rules.{rules}
use borrow.Author.Tests.{tests}
use lib.ListN.{get_or}
use native.Mathlib.Omega.{arith}
use mathlib.Core.Path.{◌∙◌}
use Prim.Native.Nat.{ℕ}
use Rattle.way_counts.proofs.patterns.allowed_rankings.Goals as goal

pub returns : goal.returns
returns c =
    count_from_yields_List c.filter.result _ c.count.ensures.ran (YieldsList-from_filter _ (λ (j : ℕ). allowsb c.args.search (get_or (rows_ranked c.args.search.clocks c.args.part) j (row_of c.args.search.clocks.count c.args.part))) (YieldsList-from_range 0 c.rankings_of.result c.rankings_of.result c.filter.ensures.source (omega arith)) c.filter.ensures.closure (λ x b q k. search (rules, tests, ranking_tried)))
    ∙ tried_all c.args.search _ _ _ _ c.rankings_of.ensures
