use Rattle.automata.specs.Comparison.{at_alone}
use borrow.Author.Rules.{rules}
use borrow.Author.Tests.{tests}
use Rattle.std.proofs.lemmas.Grind.{common_steps}
use native.Mathlib.Omega.{arith}
use Rattle.regions.proofs.comparison.is_at_alone.Goals as goal

pub returns-then-not-answers : goal.returns-then-not-answers
unfolding at_alone
returns-then-not-answers c = search (rules, tests)

pub returns-else-not-answers : goal.returns-else-not-answers
unfolding at_alone
returns-else-not-answers c = search (rules, tests)
