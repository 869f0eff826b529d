use Rattle.automata.specs.Clocks.{allb}
use Rattle.regions.proofs.Laws.Moved.{below_zero, reached_next, interval_next, rank_next, moved_is}
use Rattle.regions.proofs.Laws.Moves.{bounded_at}
use borrow.Author.Rules.{rules}
use mathlib.Core.Path.{refl}
use native.Mathlib.Omega.{arith}
use Rattle.regions.proofs.region.Region.moved.Goals as goal

pub loop-z-init : goal.loop-z-init
unfolding allb
loop-z-init c =
    (omega arith, refl, refl, refl)

pub clock_move-asked-requires-clause-bounded_by : goal.clock_move-asked-requires-clause-bounded_by
clock_move-asked-requires-clause-bounded_by c =
    bounded_at c.args.clocks c.args.self c.args.e c.args.clocks.few (search rules) _ c.loop-z-test.true (search rules) c.requires.bounded

pub returns-then-asked : goal.returns-then-asked
returns-then-asked c =
    below_zero c.args.clocks c.args.self c.args.e c.args.clocks.few (search rules) (search rules) _ c.loop-z-test.true _ c.clock_move-asked.ensures c.if-asked.true

pub loop-z-preserved : goal.loop-z-preserved
loop-z-preserved c = (
  omega arith,
  interval_next c.args.clocks c.args.self c.args.e c.args.clocks.few (search rules) (search rules) _ c.loop-z-test.true _ c.clock_move-asked.ensures _ _ c.loop-z.invariant.1 c.moved_interval-interval.ensures,
  rank_next c.args.clocks c.args.self c.args.e c.args.clocks.few (search rules) (search rules) _ c.loop-z-test.true _ c.clock_move-asked.ensures _ _ c.loop-z.invariant.2 c.moved_rank.ensures,
  reached_next c.args.clocks c.args.self c.args.e c.args.clocks.few (search rules) (search rules) _ c.loop-z-test.true _ c.clock_move-asked.ensures c.loop-z.invariant.3 (λ h. omega arith),
)

pub returns : goal.returns
returns c =
    moved_is c.args.clocks c.args.self c.args.e c.args.clocks.few (search rules) (search rules) _ c.loop-z.invariant.0 (λ h. omega arith) _ _ c.loop-z.invariant.1 c.loop-z.invariant.2 c.loop-z.invariant.3
