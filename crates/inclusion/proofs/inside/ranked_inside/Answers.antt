use Rattle.edge_walk.proofs.Laws.Ready.{ready_of}
use Rattle.automata.specs.Checks.{has}
use Rattle.edge_walk.specs.Choice.{allowsb}
use Rattle.inclusion.proofs.Laws.RankedInside.{turn_fails, turn_passes, told}
use Rattle.listed_rows.specs.RegionLists.{all_rows}
use Rattle.rankings.specs.Ranking.{rows_ranked}
use Rattle.regions.specs.Values.{row_of}
use Rattle.rankings.proofs.Laws.Ranking.{in_table}
use borrow.Author.Rules.{rules}
use Rattle.std.proofs.lemmas.Result.{err_from_is_err_and}
use Rattle.regions.specs.declared.clocks.Clocks.{Clocks}
use mathlib.Core.Bool.{not, ◌||◌}
use mathlib.Core.Path.{refl, sym, ap, ◌∙◌}
use native.Mathlib.Omega.{arith}
use Rattle.inclusion.proofs.inside.ranked_inside.Goals as goal

pub overflow_mul-parts : goal.overflow_mul-parts
overflow_mul-parts c =
    let t = told c.args.part c.ranked_from-region.result (ready_of c.args.search) (search rules) (search rules) c.requires.in_range c.requires.permitted c.loop-j.invariant.1 c.parted_pattern-parts.ensures c.first_ranking-first.ensures (omega (arith, c.loop-j-test.true, c.rankings_of-j-end.ensures)) c.ranked_from-region.ensures.intervals c.ranked_from-region.ensures.table in omega (arith, t.parts_low)

pub overflow_add-parts : goal.overflow_add-parts
overflow_add-parts c =
    let t = told c.args.part c.ranked_from-region.result (ready_of c.args.search) (search rules) (search rules) c.requires.in_range c.requires.permitted c.loop-j.invariant.1 c.parted_pattern-parts.ensures c.first_ranking-first.ensures (omega (arith, c.loop-j-test.true, c.rankings_of-j-end.ensures)) c.ranked_from-region.ensures.intervals c.ranked_from-region.ensures.table in omega (arith, t.parts_low, t.ranking_low)

pub is_allowed-wanted-requires-clause-place_in_bounds : goal.is_allowed-wanted-requires-clause-place_in_bounds
is_allowed-wanted-requires-clause-place_in_bounds c =
    (told c.args.part c.ranked_from-region.result (ready_of c.args.search) (search rules) (search rules) c.requires.in_range c.requires.permitted c.loop-j.invariant.1 c.parted_pattern-parts.ensures c.first_ranking-first.ensures (omega (arith, c.loop-j-test.true, c.rankings_of-j-end.ensures)) c.ranked_from-region.ensures.intervals c.ranked_from-region.ensures.table).there

pub is_allowed-wanted-requires-clause-ranks_value : goal.is_allowed-wanted-requires-clause-ranks_value
is_allowed-wanted-requires-clause-ranks_value c =
    (told c.args.part c.ranked_from-region.result (ready_of c.args.search) (search rules) (search rules) c.requires.in_range c.requires.permitted c.loop-j.invariant.1 c.parted_pattern-parts.ensures c.first_ranking-first.ensures (omega (arith, c.loop-j-test.true, c.rankings_of-j-end.ensures)) c.ranked_from-region.ensures.intervals c.ranked_from-region.ensures.table).free

pub is_allowed-wanted-requires-clause-ranks_value_2 : goal.is_allowed-wanted-requires-clause-ranks_value_2
is_allowed-wanted-requires-clause-ranks_value_2 c =
    (told c.args.part c.ranked_from-region.result (ready_of c.args.search) (search rules) (search rules) c.requires.in_range c.requires.permitted c.loop-j.invariant.1 c.parted_pattern-parts.ensures c.first_ranking-first.ensures (omega (arith, c.loop-j-test.true, c.rankings_of-j-end.ensures)) c.ranked_from-region.ensures.intervals c.ranked_from-region.ensures.table).one

pub is_allowed-wanted-requires-clause-ranks_value_3 : goal.is_allowed-wanted-requires-clause-ranks_value_3
is_allowed-wanted-requires-clause-ranks_value_3 c =
    (told c.args.part c.ranked_from-region.result (ready_of c.args.search) (search rules) (search rules) c.requires.in_range c.requires.permitted c.loop-j.invariant.1 c.parted_pattern-parts.ensures c.first_ranking-first.ensures (omega (arith, c.loop-j-test.true, c.rankings_of-j-end.ensures)) c.ranked_from-region.ensures.intervals c.ranked_from-region.ensures.table).two

pub returns-in_err-last-clause-listed : goal.returns-in_err-last-clause-listed
returns-in_err-last-clause-listed c =
    let t = told c.args.part c.ranked_from-region.result (ready_of c.args.search) (search rules) (search rules) c.requires.in_range c.requires.permitted c.loop-j.invariant.1 c.parted_pattern-parts.ensures c.first_ranking-first.ensures (omega (arith, c.loop-j-test.true, c.rankings_of-j-end.ensures)) c.ranked_from-region.ensures.intervals c.ranked_from-region.ensures.table in rw (err_from_is_err_and c.from_residual.result c.from_residual.ensures.1).1 (turn_fails (allowsb c.args.search) (has (all_rows c.args.list.now)) (rows_ranked c.args.search.clocks c.args.part) c.loop-j.j _ c.loop-j.invariant.0 _ (row_of c.args.search.clocks.count c.args.part) _ _ (omega (arith, c.loop-j-test.true, c.rankings_of-j-end.ensures)) c.ranked_from-region.ensures.row (t.allowed _ c.is_allowed-wanted.ensures.allowed) (c.in_err-last.ensures ∙ (ap (λ (k : Clocks). not c.is_allowed-wanted.result || has (all_rows c.args.list.now) (row_of k.count c.ranked_from-region.result)) (sym c.requires.clocks))) refl)

pub returns-in_err-last-clause-memo : goal.returns-in_err-last-clause-memo
returns-in_err-last-clause-memo c =
    (told c.args.part c.ranked_from-region.result (ready_of c.args.search) (search rules) (search rules) c.requires.in_range c.requires.permitted c.loop-j.invariant.1 c.parted_pattern-parts.ensures c.first_ranking-first.ensures (omega (arith, c.loop-j-test.true, c.rankings_of-j-end.ensures)) c.ranked_from-region.ensures.intervals c.ranked_from-region.ensures.table).kept _ c.is_allowed-wanted.ensures.allowed _ c.is_allowed-wanted.ensures.memo

pub loop-j-preserved : goal.loop-j-preserved
loop-j-preserved c =
    let t = told c.args.part c.ranked_from-region.result (ready_of c.args.search) (search rules) (search rules) c.requires.in_range c.requires.permitted c.loop-j.invariant.1 c.parted_pattern-parts.ensures c.first_ranking-first.ensures (omega (arith, c.loop-j-test.true, c.rankings_of-j-end.ensures)) c.ranked_from-region.ensures.intervals c.ranked_from-region.ensures.table in (turn_passes (allowsb c.args.search) (has (all_rows c.args.list.now)) (rows_ranked c.args.search.clocks c.args.part) c.loop-j.j _ c.loop-j.invariant.0 _ (row_of c.args.search.clocks.count c.args.part) _ _ (omega (arith, c.loop-j-test.true, c.rankings_of-j-end.ensures)) c.ranked_from-region.ensures.row (t.allowed _ c.is_allowed-wanted.ensures.allowed) (c.in_ok-last.ensures ∙ (ap (λ (k : Clocks). not c.is_allowed-wanted.result || has (all_rows c.args.list.now) (row_of k.count c.ranked_from-region.result)) (sym c.requires.clocks))) refl, t.kept _ c.is_allowed-wanted.ensures.allowed _ c.is_allowed-wanted.ensures.memo)

pub overflow_add-first : goal.overflow_add-first
overflow_add-first c =
    omega (arith, c.first_ranking-first.ensures, in_table c.args.search.clocks c.args.part c.args.search.clocks.few (search rules) (search rules) c.requires.in_range c.loop-j.j (omega (arith, c.loop-j-test.true, c.rankings_of-j-end.ensures)))
