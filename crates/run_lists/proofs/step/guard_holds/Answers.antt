use Rattle.run_lists.proofs.step.guard_holds.Goals as goal

pub returns : goal.returns
returns c =
    simp (c.holds.ensures, c.counts.ensures.value, c.waited-value.ensures.value)
