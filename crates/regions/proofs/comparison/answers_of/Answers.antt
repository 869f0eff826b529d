use Rattle.automata.proofs.Laws.Comparison.{no_answer}
use Rattle.automata.specs.Comparison.{answer}
use mathlib.Core.Path.{refl, sym}
use Rattle.regions.proofs.comparison.answers_of.Goals as goal

pub returns-then-row-ge-COMPARISONS-clause-at : goal.returns-then-row-ge-COMPARISONS-clause-at
returns-then-row-ge-COMPARISONS-clause-at c =
    sym (no_answer _ _ c.if-row-ge-COMPARISONS.true)

pub returns-then-row-ge-COMPARISONS-clause-below : goal.returns-then-row-ge-COMPARISONS-clause-below
returns-then-row-ge-COMPARISONS-clause-below c =
    sym (no_answer _ _ c.if-row-ge-COMPARISONS.true)

pub returns-then-row-ge-COMPARISONS-clause-above : goal.returns-then-row-ge-COMPARISONS-clause-above
returns-then-row-ge-COMPARISONS-clause-above c =
    sym (no_answer _ _ c.if-row-ge-COMPARISONS.true)

pub returns-clause-below : goal.returns-clause-below
unfolding answer
returns-clause-below c =
    refl

pub returns-clause-at : goal.returns-clause-at
unfolding answer
returns-clause-at c =
    refl

pub returns-clause-above : goal.returns-clause-above
unfolding answer
returns-clause-above c =
    refl
