use Rattle.automata.proofs.Laws.Comparison.{no_comparison}
use Rattle.automata.specs.Comparison.{holds, answer}
use borrow.Author.Rules.{rules}
use borrow.Author.Tests.{tests}
use Rattle.regions.proofs.comparison.holds.Goals as goal

pub returns-then-row-lt-COMPARISONS : goal.returns-then-row-lt-COMPARISONS
unfolding holds answer
returns-then-row-lt-COMPARISONS c =
    rw c.side.ensures

pub returns-else-row-lt-COMPARISONS : goal.returns-else-row-lt-COMPARISONS
returns-else-row-lt-COMPARISONS c =
    search (rules, tests, no_comparison)
