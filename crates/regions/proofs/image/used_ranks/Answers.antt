use Rattle.automata.specs.Clocks.{at}
use Rattle.regions.proofs.Laws.ImageTests.{none_marked, marked_more}
use lib.ListN.{length-set}
use mathlib.Core.Bool.{true}
use mathlib.Core.Path.{◌≡◌, refl, ◌∙◌}
use native.Mathlib.Omega.{arith}
use Rattle.regions.proofs.image.used_ranks.Goals as goal

pub loop-z-init : goal.loop-z-init
loop-z-init c =
    (omega arith, refl, λ a h. none_marked _ 5 a)

pub loop-z-preserved : goal.loop-z-preserved
loop-z-preserved c =
    (omega arith, length-set c.loop-z.used (at c.args.ranks c.loop-z.z) true ∙ c.loop-z.invariant.1, marked_more c.args.ranks c.loop-z.z c.loop-z.used c.loop-z.invariant.1 (c.requires.by_index _ c.loop-z-test.true) c.loop-z.invariant.2)

pub returns : goal.returns
returns c =
    λ a h. let e : c.loop-z.z ≡ c.args.clocks = omega arith in rw (← e) (c.loop-z.invariant.2 a h)
