use Rattle.automata.proofs.Laws.Lists.{length_each}
use Rattle.automata.specs.Clocks.{each}
use Rattle.regions.proofs.Laws.Filling.{filled_more}
use Rattle.run_lists.specs.Step.{value_in}
use lib.ListN.{take}
use lib.Seq.{take_at}
use mathlib.Core.Path.{ap, ◌∙◌, ◌≡◌, refl}
use native.Mathlib.Omega.{arith}
use Rattle.run_lists.proofs.step.new_values.Goals as goal

pub loop-z-init : goal.loop-z-init
loop-z-init c =
    refl

pub loop-z-preserved : goal.loop-z-preserved
loop-z-preserved c =
    filled_more (value_in c.args.step.now) c.loop-z.z c.loop-z.values c.four_bytes.result (omega arith) c.loop-z.invariant c.four_bytes.ensures

pub returns : goal.returns
returns c =
    let f = value_in c.args.step.now in
    let e : c.loop-z.z ≡ c.args.n = omega arith in
    ap (take c.args.n) (rw e at c.loop-z.invariant) ∙ take_at (each c.args.n f) _ c.args.n (length_each c.args.n f)
