use Rattle.skylines.proofs.Laws.Reach.{reach_begins, reach_on, reach_all, update_bounded, low_ends_here, high_ends_here}
use native.Mathlib.Omega.{arith}
use Rattle.skylines.proofs.reach.reach_of.Goals as goal

pub loop-z-init : goal.loop-z-init
loop-z-init c =
    reach_begins _ _ _

pub update_ends-ends-requires-clause-bounded_by : goal.update_ends-ends-requires-clause-bounded_by
update_ends-ends-requires-clause-bounded_by c =
    update_bounded c.args.clocks.count c.args.e c.loop-z.z c.loop-z-test.true _ c.requires.clocks_len c.requires.bounded

pub loop-z-preserved : goal.loop-z-preserved
loop-z-preserved c =
    reach_on _ _ _ _ _ _ _ _ (omega (arith, c.args.clocks.few)) c.loop-z.invariant (low_ends_here c.args.clocks.count c.args.e c.loop-z.z c.loop-z-test.true _ _ _ c.update_ends-ends.ensures.low) (high_ends_here c.args.clocks.count c.args.e c.loop-z.z c.loop-z-test.true _ _ _ c.update_ends-ends.ensures.high)

pub returns : goal.returns
returns c =
    reach_all _ _ _ _ _ _ _ (omega (arith, c.loop-z-test.false, c.requires.clocks_len)) c.loop-z.invariant
