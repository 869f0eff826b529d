use Rattle.regions.proofs.Laws.WaitTests.{arrived_interval_next, arrived_rank_next, arrived_is}
use borrow.Author.Rules.{rules}
use mathlib.Core.Path.{refl}
use native.Mathlib.Omega.{arith}
use Rattle.regions.proofs.region.Region.arrived.Goals as goal

pub loop-z-init : goal.loop-z-init
loop-z-init c =
    (search rules, refl, refl)

pub loop-z-preserved : goal.loop-z-preserved
loop-z-preserved c = (
  omega arith,
  arrived_interval_next c.args.clocks c.args.self (search rules) (search rules) _ _ _ c.loop-z-test.true _ c.loop-z.invariant.1 c.arrive_interval.ensures,
  arrived_rank_next c.args.clocks c.args.self (search rules) (search rules) _ _ _ c.loop-z-test.true _ c.loop-z.invariant.2 c.arrive_rank.ensures,
)

pub returns : goal.returns
returns c =
    arrived_is c.args.clocks c.args.self (search rules) (search rules) _ _ _ c.loop-z.invariant.0 c.loop-z-test.false _ c.requires.top_rank_value c.loop-z.invariant.1 c.loop-z.invariant.2
