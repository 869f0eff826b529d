use Prim.Native.Nat.{◌-◌}
use Rattle.automata.specs.Clocks.{at}
use Rattle.walked_rows.proofs.Laws.Open.{least_none, least_on, least_skips}
use native.Mathlib.Omega.{arith}
use Rattle.walked_rows.proofs.walking.least_held.Goals as goal
use Rattle.walked_rows.proofs.walking.least_held.Goals.{then-holder-ne0, else-holder-ne0}

pub loop-holder-init : goal.loop-holder-init
loop-holder-init c =
    least_none _ _ _

pub look_from-least-requires : goal.look_from-least-requires
look_from-least-requires c =
    record { offered = c.requires.all_held c.loop-holder.holder-index (at c.args.slots.now c.loop-holder.holder-index - 1) (omega arith) (omega arith) }

pub loop-holder-preserved : goal.loop-holder-preserved
loop-holder-preserved c =
    elim c.if-holder-ne0.branch [
      | then-holder-ne0 w ↦ rw w.least-is (least_on _ _ _ _ _ c.loop-holder.invariant _ _ (omega arith) (λ j q. omega arith) w.look_from-least.ensures)
      | else-holder-ne0 w ↦ rw w.least-is (least_skips _ _ _ _ _ c.loop-holder.invariant (λ j q. omega arith))
    ]
