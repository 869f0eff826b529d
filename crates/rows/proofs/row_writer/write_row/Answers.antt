use Rattle.calls.proofs.Laws.Rows.{row_width_is}
use Rattle.rows.proofs.Laws.Writing.{row_written}
use borrow.Author.Rules.{rules}
use lib.ListN.{length, take}
use lib.Seq.{length-take-le}
use mathlib.Core.Path.{◌≡◌, refl}
use native.Mathlib.Omega.{arith}
use Rattle.rows.proofs.row_writer.write_row.Goals as goal

pub write_start-requires : goal.write_start-requires
write_start-requires c =
    let w = row_width_is c.args.n in search rules

pub write_intervals-requires-clause-n_bound : goal.write_intervals-requires-clause-n_bound
write_intervals-requires-clause-n_bound c =
    let w = row_width_is c.args.n in search rules

pub write_intervals-requires-clause-n_in_bounds : goal.write_intervals-requires-clause-n_in_bounds
write_intervals-requires-clause-n_in_bounds c =
    let w = row_width_is c.args.n in search rules

pub write_intervals-requires-clause-by_index : goal.write_intervals-requires-clause-by_index
write_intervals-requires-clause-by_index c =
    let w = row_width_is c.args.n in c.requires.by_index

pub write_ranks-requires-clause-n_bound : goal.write_ranks-requires-clause-n_bound
write_ranks-requires-clause-n_bound c =
    let w = row_width_is c.args.n in search rules

pub write_ranks-requires-clause-n_in_bounds : goal.write_ranks-requires-clause-n_in_bounds
write_ranks-requires-clause-n_in_bounds c =
    let w = row_width_is c.args.n in search rules

pub returns : goal.returns
returns c =
    let long : length c.args.region.intervals ≡ 4 = search rules in
    let short : length (take c.args.n c.args.region.intervals) ≡ c.args.n = length-take-le c.args.n c.args.region.intervals (omega arith) in
    row_written _ _ _ _ _ c.args.n c.args.region.location c.args.region.intervals c.args.region.ranks short c.write_start.ensures
    c.write_intervals.ensures refl c.write_ranks.ensures
