use Rattle.automata.proofs.Laws.Chains.{allb_from_all}
use Rattle.automata.specs.Clocks.{at}
use Rattle.way_counts.proofs.Laws.Loops.{loose_where}
use borrow.Author.Rules.{rules}
use borrow.Author.Tests.{tests}
use lib.Dec.{eqb}
use mathlib.Core.Bool.{not}
use Prim.Native.Nat.{ℕ}
use Rattle.way_counts.proofs.patterns.is_loose.Goals as goal

pub returns : goal.returns
returns c =
    loose_where _ _ _ c.digits_of-digits.result c.requires c.digits_of-digits.ensures.digits (allb_from_all (λ (z : ℕ). not (eqb (at c.digits_of-digits.result z) 1)) _ _ _ c.all.ensures.ran (λ z b q k. search (rules, tests)))
