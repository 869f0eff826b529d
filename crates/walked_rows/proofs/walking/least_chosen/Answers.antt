use Rattle.walked_rows.proofs.Laws.Open.{least_none, least_on}
use Rattle.std.proofs.lemmas.List.{length-take}
use lib.Seq.{get_or-take}
use Rattle.skylines.specs.Skyline.{no_reach}
use mathlib.Core.Path.{refl, sym}
use native.Mathlib.Omega.{arith}
use Rattle.walked_rows.proofs.walking.least_chosen.Goals as goal

pub loop-reach-init : goal.loop-reach-init
loop-reach-init c =
    least_none _ _ _

pub loop-reach-preserved : goal.loop-reach-preserved
loop-reach-preserved c =
    let here = get_or-take c.args.size c.args.members.now c.loop-reach.reach-index no_reach (omega (arith, length-take c.args.size c.args.members.now)) in
    least_on _ _ _ _ _ c.loop-reach.invariant _ _ refl (λ j q. sym q) (rw here at c.look_from-least.ensures)
