use Rattle.listed_rows.specs.EdgesInLists.{edge_in}
use Rattle.regions.specs.Values.{edge_of}
use Rattle.std.proofs.lemmas.Iterator.{first_from_Range}
use Rattle.walked_rows.proofs.Laws.Open.{first_found}
use Rattle.walked_rows.specs.Leading.{Blocked}
use borrow.Author.Rules.{rules}
use borrow.Author.Tests.{tests}
use Prim.Native.Nat.{ℕ}
use Rattle.walked_rows.proofs.guarded.first_guarded.Goals as goal

pub returns : goal.returns
returns c =
    let P = λ (i : ℕ). Blocked (edge_in c.args.edge.now) c.args.edge.now.list.clocks.count c.args.edge.now.list.bytes.now i in
    rw c.unwrap_or.ensures (first_found P _ _ c.requires.in_source.from c.find.result (first_from_Range _ _ _ _ (λ i. P i → ⊥) P c.find.ensures.ran (λ x q k. search (rules, tests)) (λ x q k. search (rules, tests))))
