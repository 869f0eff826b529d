use Rattle.automata.specs.Wait.{wait}
use borrow.Author.Tests.{eq-eqb, ne_eqb}
use Rattle.regions.proofs.region.Region.wait.Goals as goal

pub returns-then-some_even : goal.returns-then-some_even
unfolding wait
returns-then-some_even c =
    simp (c.left.ensures, ← c.some_even.ensures, c.if-some_even.true)

pub returns-then-top_rank-eq0 : goal.returns-then-top_rank-eq0
unfolding wait
returns-then-top_rank-eq0 c =
    simp (← c.some_even.ensures, c.if-some_even.false, ← c.greatest_rank-top_rank.ensures, eq-eqb _ _ c.if-top_rank-eq0.true)

pub returns : goal.returns
unfolding wait
returns c =
    simp (c.arrived.ensures, ← c.some_even.ensures, c.if-some_even.false, ← c.greatest_rank-top_rank.ensures, ne_eqb _ _ c.if-top_rank-eq0.false)
