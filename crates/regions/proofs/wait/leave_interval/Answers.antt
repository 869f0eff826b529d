use Rattle.automata.specs.Wait.{evenb}
use borrow.Author.Rules.{rules}
use borrow.Author.Tests.{tests}
use Rattle.regions.proofs.wait.leave_interval.Goals as goal

pub overflow_add-result : goal.overflow_add-result
unfolding evenb
overflow_add-result c = search (rules, tests)
