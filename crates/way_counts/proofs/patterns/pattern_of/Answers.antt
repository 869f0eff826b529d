use Rattle.way_counts.proofs.Laws.Loops.{chosen_none, times_fit, chosen_on, chosen_all}
use mathlib.Core.Path.{refl}
use native.Mathlib.Omega.{arith}
use Rattle.way_counts.proofs.patterns.pattern_of.Goals as goal

pub loop-z-init : goal.loop-z-init
loop-z-init c = chosen_none _ _ _

pub overflow_mul-times : goal.overflow_mul-times
overflow_mul-times c =
    let low = times_fit _ _ _ c.requires.n_bound c.requires.few_of_each _ _ _ _ _ c.loop-z.invariant c.loop-z-test.true (c.digits_of-digits.ensures.digits c.loop-z.z (omega (arith, c.requires.n_bound))) in rw c.from-times.ensures (omega arith)

pub loop-z-preserved : goal.loop-z-preserved
loop-z-preserved c =
    rw c.from-times.ensures (chosen_on _ _ _ c.requires.n_bound c.requires.few_of_each _ _ _ _ _ c.loop-z.invariant c.loop-z-test.true (c.digits_of-digits.ensures.digits c.loop-z.z (omega (arith, c.requires.n_bound))) _ refl)

pub returns-clause-intervals : goal.returns-clause-intervals
returns-clause-intervals c =
    (chosen_all _ _ _ c.requires.n_bound c.requires.few_of_each _ _ _ _ c.loop-z.invariant (omega arith)).1.1
