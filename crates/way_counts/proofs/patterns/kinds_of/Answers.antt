use Rattle.way_counts.proofs.Laws.Loops.{filled_none, filled_one}
use borrow.Author.Rules.{rules}
use native.Mathlib.Omega.{arith}
use Rattle.way_counts.proofs.patterns.kinds_of.Goals as goal

pub loop-z-init : goal.loop-z-init
loop-z-init c = filled_none _ _ (search rules)

pub loop-z-preserved : goal.loop-z-preserved
loop-z-preserved c =
    filled_one _ _ _ _ _ _ c.loop-z.invariant (omega (arith, c.args.search.clocks.few)) c.of_kind.ensures c.of_kind-in-loop-z.ensures c.of_kind-in-loop-z-2.ensures

pub returns : goal.returns
returns c = λ z d h. c.loop-z.invariant.right z d (omega arith)
