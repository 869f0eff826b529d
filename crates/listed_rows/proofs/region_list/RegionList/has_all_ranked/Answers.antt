use Rattle.listed_rows.proofs.Laws.Listed.{row_room}
use Rattle.listed_rows.proofs.Laws.Ranked.{ranked_ways, few_ranked, all_ranked}
use Rattle.listed_rows.proofs.Laws.RegionLists.{listed_of, ascends_of}
use Rattle.regions.specs.Values.{row_of}
use borrow.Author.Rules.{rules}
use mathlib.Core.Path.{refl, sym, ◌∙◌}
use native.Mathlib.Omega.{arith}
use Rattle.listed_rows.proofs.region_list.RegionList.has_all_ranked.Goals as goal

pub overflow_add-end : goal.overflow_add-end
overflow_add-end c =
    let few = few_ranked _ _ _ (listed_of c.args.self.now) c.args.part (search rules) c.requires.in_range _ c.rankings_of.ensures in omega (arith, few.1, c.rows_below-first.ensures.within, c.args.self.now.short)

pub overflow_sub-end : goal.overflow_sub-end
overflow_sub-end c =
    let few = few_ranked _ _ _ (listed_of c.args.self.now) c.args.part (search rules) c.requires.in_range _ c.rankings_of.ensures in omega (arith, few.0)

pub row_is_beside-requires-clause-has_row : goal.row_is_beside-requires-clause-has_row
row_is_beside-requires-clause-has_row c =
    let few = few_ranked _ _ _ (listed_of c.args.self.now) c.args.part (search rules) c.requires.in_range _ c.rankings_of.ensures in row_room _ _ _ _ c.args.self.now.room (omega (arith, few.0, c.if-end-self.true))

pub returns-then-row_is_beside : goal.returns-then-row_is_beside
returns-then-row_is_beside c =
    λ t. all_ranked c.args.self.now.clocks c.args.self.now.bytes.now c.args.self.now.count (listed_of c.args.self.now) (ascends_of c.args.self.now) (row_of c.args.self.now.clocks.count c.args.part) _ c.rows_below-first.ensures _ _ (ranked_ways _ _ _ (listed_of c.args.self.now) c.args.part (search rules) c.requires.in_range _ c.rankings_of.ensures) refl c.if-end-self.true (sym c.row_is_beside.ensures ∙ c.if-row_is_beside.true)
