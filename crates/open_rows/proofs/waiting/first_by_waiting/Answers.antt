use Rattle.automata.specs.Checks.{every, has}
use Rattle.automata.specs.Successors.{wait_rows}
use Rattle.listed_rows.proofs.Laws.Listed.{listed_again}
use Rattle.listed_rows.proofs.Laws.RegionLists.{listed_of}
use Rattle.listed_rows.specs.RegionLists.{nth_row, all_rows}
use Rattle.open_rows.proofs.Laws.Open.{first_found}
use Rattle.regions.specs.Values.{bounds_of}
use Rattle.std.proofs.lemmas.Iterator.{serves_from_Range}
use borrow.Author.Rules.{rules}
use borrow.Author.Tests.{tests}
use native.Mathlib.Omega.{arith}
use Rattle.open_rows.proofs.waiting.first_by_waiting.Goals as goal

pub find-requires-clause-callable : goal.find-requires-clause-callable
find-requires-clause-callable c =
    serves_from_Range (λ x q k. search (rules, tests)) (λ x a h. let row = (listed_of c.args.list.now).are_rows x h in search (rules, listed_again))

pub returns : goal.returns
returns c =
    let l = c.args.list.now in
    rw c.unwrap_or.ensures (first_found (λ i. every (has (all_rows l)) (wait_rows (bounds_of l.clocks) (nth_row l i))) 0 l.count (omega arith) _ _ _ c.find.ensures.ran (λ x b q k. search (rules, tests, listed_again)))
