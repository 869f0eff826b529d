use Rattle.edge_walk.proofs.Laws.Ready.{ready_of}
use Prim.Native.Nat.{◌+◌, ◌<◌}
use Rattle.edge_walk.specs.Choice.{allowsb}
use Rattle.following.proofs.Laws.Put.{turn_room, turn_more}
use Rattle.ranked_ways.proofs.Laws.Memo.{parts_low, place_in, free_known, one_known, two_known, allowed_is, kept_on}
use Rattle.rankings.proofs.Laws.Ranking.{in_table}
use Rattle.rankings.specs.Ranking.{rows_ranked}
use borrow.Author.Rules.{rules}
use lib.ListN.{length, length-take, length-drop}
use native.Mathlib.Omega.{arith}
use Rattle.following.proofs.writing.write_ranked.Goals as goal

pub overflow_mul-parts : goal.overflow_mul-parts
overflow_mul-parts c =
    let h : c.loop-j.j < length (rows_ranked c.args.search.clocks c.args.part) = omega (arith, c.loop-j-test.true, c.rankings_of-count.ensures) in
    let i : c.first_ranking-first.result + c.loop-j.j < 150 = omega (arith, c.first_ranking-first.ensures, in_table c.args.search.clocks c.args.part (ready_of c.args.search).few.few (search rules) (search rules) c.requires.in_range c.loop-j.j h) in
    omega (arith, parts_low c.args.search c.args.part c.ranked_from-region.result c.loop-j.memo c.loop-j.invariant.1 (ready_of c.args.search).few.few _ _ c.requires.permitted c.parted_pattern-parts.ensures i c.ranked_from-region.ensures.intervals c.ranked_from-region.ensures.table)

pub overflow_add-parts : goal.overflow_add-parts
overflow_add-parts c =
    let h : c.loop-j.j < length (rows_ranked c.args.search.clocks c.args.part) = omega (arith, c.loop-j-test.true, c.rankings_of-count.ensures) in
    let i : c.first_ranking-first.result + c.loop-j.j < 150 = omega (arith, c.first_ranking-first.ensures, in_table c.args.search.clocks c.args.part (ready_of c.args.search).few.few (search rules) (search rules) c.requires.in_range c.loop-j.j h) in
    omega (arith, i, parts_low c.args.search c.args.part c.ranked_from-region.result c.loop-j.memo c.loop-j.invariant.1 (ready_of c.args.search).few.few _ _ c.requires.permitted c.parted_pattern-parts.ensures i c.ranked_from-region.ensures.intervals c.ranked_from-region.ensures.table)

pub is_allowed-wanted-requires : goal.is_allowed-wanted-requires
is_allowed-wanted-requires c =
    let h : c.loop-j.j < length (rows_ranked c.args.search.clocks c.args.part) = omega (arith, c.loop-j-test.true, c.rankings_of-count.ensures) in
    let i : c.first_ranking-first.result + c.loop-j.j < 150 = omega (arith, c.first_ranking-first.ensures, in_table c.args.search.clocks c.args.part (ready_of c.args.search).few.few (search rules) (search rules) c.requires.in_range c.loop-j.j h) in
    record {
      n_bound = (ready_of c.args.search).few.few;
      ranks_bound = (ready_of c.args.search).few_ranks;
      place_in_bounds = place_in c.args.search c.args.part c.ranked_from-region.result c.loop-j.memo c.loop-j.invariant.1 (ready_of c.args.search).few.few _ _ c.requires.permitted c.parted_pattern-parts.ensures i c.ranked_from-region.ensures.intervals c.ranked_from-region.ensures.table;
      ranks_value = free_known c.args.search c.args.part c.ranked_from-region.result c.loop-j.memo c.loop-j.invariant.1 (ready_of c.args.search).few.few _ _ c.requires.permitted c.parted_pattern-parts.ensures i c.ranked_from-region.ensures.intervals c.ranked_from-region.ensures.table;
      ranks_value_2 = one_known c.args.search c.args.part c.ranked_from-region.result c.loop-j.memo c.loop-j.invariant.1 (ready_of c.args.search).few.few _ _ c.requires.permitted c.parted_pattern-parts.ensures i c.ranked_from-region.ensures.intervals c.ranked_from-region.ensures.table;
      ranks_value_3 = two_known c.args.search c.args.part c.ranked_from-region.result c.loop-j.memo c.loop-j.invariant.1 (ready_of c.args.search).few.few _ _ c.requires.permitted c.parted_pattern-parts.ensures i c.ranked_from-region.ensures.intervals c.ranked_from-region.ensures.table;
    }

pub write_if-at-requires-clause-region_in_bounds : goal.write_if-at-requires-clause-region_in_bounds
write_if-at-requires-clause-region_in_bounds c =
    let h : c.loop-j.j < length (rows_ranked c.args.search.clocks c.args.part) = omega (arith, c.loop-j-test.true, c.rankings_of-count.ensures) in
    let i : c.first_ranking-first.result + c.loop-j.j < 150 = omega (arith, c.first_ranking-first.ensures, in_table c.args.search.clocks c.args.part (ready_of c.args.search).few.few (search rules) (search rules) c.requires.in_range c.loop-j.j h) in
    simp (length-take, length-drop) (omega (arith, turn_room (allowsb c.args.search) (rows_ranked c.args.search.clocks c.args.part) _ _ _ _ c.loop-j.invariant.0 _ _ c.is_allowed-wanted.result h c.ranked_from-region.ensures.row (allowed_is c.args.search c.args.part c.ranked_from-region.result c.loop-j.memo c.loop-j.invariant.1 (ready_of c.args.search).few.few _ _ c.requires.permitted c.parted_pattern-parts.ensures i c.ranked_from-region.ensures.intervals c.ranked_from-region.ensures.table _ c.is_allowed-wanted.ensures.allowed) c.requires.part_in_bounds))

pub loop-j-preserved : goal.loop-j-preserved
loop-j-preserved c =
    let h : c.loop-j.j < length (rows_ranked c.args.search.clocks c.args.part) = omega (arith, c.loop-j-test.true, c.rankings_of-count.ensures) in
    let i : c.first_ranking-first.result + c.loop-j.j < 150 = omega (arith, c.first_ranking-first.ensures, in_table c.args.search.clocks c.args.part (ready_of c.args.search).few.few (search rules) (search rules) c.requires.in_range c.loop-j.j h) in (
      rw c.write_if-at.ensures.bytes (turn_more (allowsb c.args.search) (rows_ranked c.args.search.clocks c.args.part) _ _ _ _ c.loop-j.invariant.0 _ _ c.is_allowed-wanted.result h c.ranked_from-region.ensures.row (allowed_is c.args.search c.args.part c.ranked_from-region.result c.loop-j.memo c.loop-j.invariant.1 (ready_of c.args.search).few.few _ _ c.requires.permitted c.parted_pattern-parts.ensures i c.ranked_from-region.ensures.intervals c.ranked_from-region.ensures.table _ c.is_allowed-wanted.ensures.allowed) c.requires.part_in_bounds _ c.write_if-at.ensures.rows),
      kept_on c.args.search c.args.part c.ranked_from-region.result c.loop-j.memo c.loop-j.invariant.1 (ready_of c.args.search).few.few _ _ c.requires.permitted c.parted_pattern-parts.ensures i c.ranked_from-region.ensures.intervals c.ranked_from-region.ensures.table _ c.is_allowed-wanted.ensures.allowed _ c.is_allowed-wanted.ensures.memo,
    )

pub overflow_add-first : goal.overflow_add-first
overflow_add-first c =
    let h : c.loop-j.j < length (rows_ranked c.args.search.clocks c.args.part) = omega (arith, c.loop-j-test.true, c.rankings_of-count.ensures) in
    omega (arith, c.first_ranking-first.ensures, in_table c.args.search.clocks c.args.part (ready_of c.args.search).few.few (search rules) (search rules) c.requires.in_range c.loop-j.j h)
