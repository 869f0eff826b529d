use Rattle.skylines.proofs.Laws.Reach.{keep_ends, constant_ends, clock_ends}
use native.Mathlib.Omega.{arith}
use Rattle.skylines.proofs.reach.update_ends.Goals as goal

pub returns-in-Keep-clause-low : goal.returns-in-Keep-clause-low
returns-in-Keep-clause-low c =
    rw c.in-Keep.is (keep_ends c.args.clocks.count c.args.clocks.bounds c.args.from c.args.z c.args.comparison _ c.requires.z_lt_count c.place-kept.ensures).0

pub returns-in-Keep-clause-high : goal.returns-in-Keep-clause-high
returns-in-Keep-clause-high c =
    rw c.in-Keep.is (keep_ends c.args.clocks.count c.args.clocks.bounds c.args.from c.args.z c.args.comparison _ c.requires.z_lt_count c.place-kept.ensures).1

pub returns-in-Constant-clause-low : goal.returns-in-Constant-clause-low
returns-in-Constant-clause-low c =
    rw c.in-Constant.is (constant_ends c.args.clocks.count c.args.clocks.bounds c.args.from c.args.z c.args.comparison c.in-Constant.field-0).0

pub returns-in-Constant-clause-high : goal.returns-in-Constant-clause-high
returns-in-Constant-clause-high c =
    rw c.in-Constant.is (constant_ends c.args.clocks.count c.args.clocks.bounds c.args.from c.args.z c.args.comparison c.in-Constant.field-0).1

pub returns-in-Clock-clause-low : goal.returns-in-Clock-clause-low
returns-in-Clock-clause-low c =
    let q = rw c.in-Clock.is at c.requires.bounded_by in rw c.in-Clock.is (clock_ends c.args.clocks.count c.args.clocks.bounds c.args.from c.args.z _ _ _ c.args.comparison _ _ _ c.requires.z_lt_count (omega (arith, q.0, c.requires.clocks_len)) c.place.ensures c.ends_at.ensures.low c.ends_at.ensures.high).0

pub returns-in-Clock-clause-high : goal.returns-in-Clock-clause-high
returns-in-Clock-clause-high c =
    let q = rw c.in-Clock.is at c.requires.bounded_by in rw c.in-Clock.is (clock_ends c.args.clocks.count c.args.clocks.bounds c.args.from c.args.z _ _ _ c.args.comparison _ _ _ c.requires.z_lt_count (omega (arith, q.0, c.requires.clocks_len)) c.place.ensures c.ends_at.ensures.low c.ends_at.ensures.high).1
