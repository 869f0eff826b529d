use Rattle.way_counts.proofs.Laws.Kinds.{stretch_none}
use borrow.Author.Tests.{tests}
use borrow.Author.Rules.{rules}
use native.Mathlib.Omega.{arith}
use Rattle.way_counts.proofs.kinds.one_of_kind.Goals as goal

pub loop-interval-preserved : goal.loop-interval-preserved
loop-interval-preserved c =
    (omega (arith, c.next_stretch-interval.ensures), stretch_none _ _ _ c.next_stretch-interval.ensures _ c.loop-interval.invariant.1 (search (rules, tests)) (search (rules, tests)))
