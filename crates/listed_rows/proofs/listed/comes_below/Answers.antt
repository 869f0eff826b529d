use Prim.Native.Nat.{ℕ, ◌+◌}
use Rattle.automata.specs.Clocks.{at}
use Rattle.listed_rows.proofs.Laws.ListedNumbers.{listed_is_below, listed_not_below}
use borrow.Author.Rules.{rules}
use borrow.Author.Tests.{le-ltb}
use mathlib.Core.List.{List}
use mathlib.Core.Path.{ap, ◌∙◌}
use Rattle.listed_rows.proofs.listed.comes_below.Goals as goal

pub returns-then-same-n : goal.returns-then-same-n
returns-then-same-n c =
    let same = ap (λ (b : List ℕ). at b (2 + c.args.same)) c.row_bytes.ensures.bytes in listed_is_below c.args.n c.args.list.now c.args.i c.args.wanted (search rules) (search rules, search rules) _ c.requires.same_value _ _ (c.wide.ensures ∙ same) c.number.ensures c.if-same-n.true

pub returns-else-same-n : goal.returns-else-same-n
returns-else-same-n c =
    le-ltb _ _ c.if-same-n.false ∙ listed_not_below c.args.n c.args.list.now c.args.i c.args.wanted (search rules) (search rules, search rules) _ c.requires.same_value c.if-same-n.false
