use Rattle.listed_rows.proofs.Laws.Listed.{listed_again}
use Rattle.listed_rows.proofs.Laws.RegionLists.{listed_of}
use Rattle.listed_rows.specs.EdgesInLists.{led_in}
use Rattle.listed_rows.specs.RegionLists.{nth_row, all_rows}
use Rattle.open_rows.proofs.Laws.Tracing.{lacking}
use Rattle.regions.specs.Values.{row_of}
use native.Mathlib.Omega.{arith}
use Rattle.open_rows.proofs.tracing.traced.Goals as goal

pub first_gap-requires : goal.first_gap-requires
first_gap-requires c =
    record { row = rw (listed_again _ _ _ _ c.row-last.ensures) ((listed_of c.args.edge.now.list).are_rows _ (omega (arith, c.requires.in_source.within, c.requires.start_lt_end))) }

pub lacked_before-requires : goal.lacked_before-requires
lacked_before-requires c =
    record { row = rw (listed_again _ _ _ _ c.row-last.ensures) ((listed_of c.args.edge.now.list).are_rows _ (omega (arith, c.requires.in_source.within, c.requires.start_lt_end))) }

pub returns-in-Some-clause-open : goal.returns-in-Some-clause-open
returns-in-Some-clause-open c =
    let k = c.args.edge.now in
    λ l. lacking (all_rows k.list) (led_in k (nth_row k.list c.first_leading_to.result)) (row_of k.list.clocks.count c.in-Some.guess) (c.is_lacked.ensures c.if-is_lacked.true).missing (c.first_leading_to.ensures.leads l)
