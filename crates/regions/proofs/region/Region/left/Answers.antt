use Rattle.regions.proofs.Laws.WaitTests.{rank_small, left_interval_next, left_rank_next, left_is}
use borrow.Author.Rules.{rules}
use mathlib.Core.Path.{refl}
use native.Mathlib.Omega.{arith}
use Rattle.regions.proofs.region.Region.left.Goals as goal

pub loop-z-init : goal.loop-z-init
loop-z-init c =
    (search rules, refl, refl)

pub leave_rank-requires-clause-rank_bound : goal.leave_rank-requires-clause-rank_bound
leave_rank-requires-clause-rank_bound c =
    rank_small c.args.clocks c.args.self (search rules) (search rules) c.requires.row _ c.loop-z-test.true

pub loop-z-preserved : goal.loop-z-preserved
loop-z-preserved c = (
  omega arith,
  left_interval_next c.args.clocks c.args.self (search rules) (search rules) _ _ _ c.loop-z-test.true c.loop-z.invariant.1 c.leave_interval.ensures,
  left_rank_next c.args.clocks c.args.self (search rules) (search rules) _ _ _ c.loop-z-test.true _ c.loop-z.invariant.2 c.leave_rank.ensures,
)

pub returns : goal.returns
returns c =
    left_is c.args.clocks c.args.self (search rules) (search rules) _ _ _ c.loop-z.invariant.0 c.loop-z-test.false _ c.grows-grow.ensures c.loop-z.invariant.1 c.loop-z.invariant.2
