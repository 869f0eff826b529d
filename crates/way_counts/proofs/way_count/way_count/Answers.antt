use Rattle.edge_walk.proofs.Laws.Ready.{ready_of}
use Rattle.std.proofs.lemmas.Iterator.{YieldsList-from_range, YieldsList-from_map}
use Rattle.std.proofs.lemmas.Iterator.Consumers.{sum_from_yields_List, fits_from_yields_list}
use Rattle.way_counts.proofs.Laws.Loops.{few_of_each, sum_fits, way_summed}
use Rattle.way_counts.specs.Patterns.{FewOfEach, pattern_rows}
use Rattle.std.proofs.iter.Serving.{serving}
use borrow.Author.Rules.{rules}
use native.Mathlib.Omega.{arith}
use mathlib.Core.Path.{◌∙◌}
use Rattle.way_counts.proofs.way_count.way_count.Goals as goal

pub sum-requires-clause-can : goal.sum-requires-clause-can
sum-requires-clause-can c =
    let few : FewOfEach c.args.way.search.clocks.count c.kinds_of-kinds.result = few_of_each _ (ready_of c.args.way.search) _ c.kinds_of-kinds.ensures c.requires.by_index in
    grind serving

pub sum-requires-clause-fits : goal.sum-requires-clause-fits
sum-requires-clause-fits c =
    fits_from_yields_list c.map.result _ (YieldsList-from_map _ (pattern_rows c.args.way.search c.args.way.target c.kinds_of-kinds.result) (YieldsList-from_range 0 c.pattern_count.result c.pattern_count.result c.map.ensures.source (omega arith)) c.map.ensures.closure (λ x r q k. search rules)) (sum_fits c.args.way (ready_of c.args.way.search) (search rules) _ c.kinds_of-kinds.ensures (few_of_each _ (ready_of c.args.way.search) _ c.kinds_of-kinds.ensures c.requires.by_index) _ (rw c.from.ensures at c.pattern_count.ensures))

pub returns : goal.returns
returns c =
    sum_from_yields_List c.map.result _ c.sum.ensures.ran (YieldsList-from_map _ (pattern_rows c.args.way.search c.args.way.target c.kinds_of-kinds.result) (YieldsList-from_range 0 c.pattern_count.result c.pattern_count.result c.map.ensures.source (omega arith)) c.map.ensures.closure (λ x r q k. search rules)) ∙ way_summed c.args.way (ready_of c.args.way.search) (search rules) _ c.kinds_of-kinds.ensures (few_of_each _ (ready_of c.args.way.search) _ c.kinds_of-kinds.ensures c.requires.by_index) _ (rw c.from.ensures at c.pattern_count.ensures)
