use Rattle.selection.proofs.Laws.Choosing.{choosing_begins, choosing_on, choosing_ends}
use native.Mathlib.Omega.{arith}
use Rattle.selection.proofs.choosing.choose.Goals as goal

pub loop-i-init : goal.loop-i-init
loop-i-init c =
    choosing_begins _ _ _ _ _ _ _ _ c.requires.in_source.from

pub loop-i-preserved : goal.loop-i-preserved
loop-i-preserved c =
    choosing_on _ _ _ _ _ _ _ _ _ _ _ _ c.loop-i.invariant c.loop-i-test.true (omega (arith, c.requires.in_source.within, c.args.edge.now.short)) _ _ _ (c.offer-seated.ensures _ _ c.loop-i.invariant.from c.loop-i-test.true c.requires.in_source.within c.loop-i.invariant.sit) _ c.first_left-left.ensures

pub returns : goal.returns
returns c =
    choosing_ends _ _ _ _ _ _ _ _ _ _ _ _ c.loop-i.invariant (omega (arith, c.loop-i-test.false))
