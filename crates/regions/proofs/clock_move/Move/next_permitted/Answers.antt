use Rattle.regions.proofs.Laws.Least.{least_here, least_none, least_leap}
use Rattle.regions.proofs.Laws.Move.{stretch_permits}
use mathlib.Core.Path.{refl, sym, ◌∙◌}
use native.Mathlib.Omega.{arith}
use Rattle.regions.proofs.clock_move.Move.next_permitted.Goals as goal

pub loop-interval-init : goal.loop-interval-init
loop-interval-init c =
    refl

pub returns-then-permits : goal.returns-then-permits
returns-then-permits c =
    sym (c.loop-interval.invariant ∙ least_here _ _ _ (omega arith) (sym c.permits.ensures ∙ c.if-permits.true))

pub loop-interval-preserved : goal.loop-interval-preserved
loop-interval-preserved c =
    c.loop-interval.invariant ∙ least_leap _ _ _ _ (omega arith) (omega arith) (λ j l h. stretch_permits _ _ _ c.next_stretch-interval.ensures j l h ∙ sym c.permits.ensures ∙ c.if-permits.false)

pub returns : goal.returns
returns c =
    sym (c.loop-interval.invariant ∙ least_none _ _ _ (omega arith))
