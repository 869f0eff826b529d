use Rattle.selection.proofs.Laws.Grouping.{held_wider, grouping_begins, grouping_on, grouping_ends}
use native.Mathlib.Omega.{arith}
use Rattle.selection.proofs.grouping.lodge_all.Goals as goal

pub loop-i-init : goal.loop-i-init
loop-i-init c =
    grouping_begins _ _ _ _ _ _ _ _ c.requires.in_source.from c.requires.all_held

pub lodge-requires-clause-all_held : goal.lodge-requires-clause-all_held
lodge-requires-clause-all_held c =
    held_wider _ _ _ _ _ 0 _ _ (omega arith) c.requires.in_source.within c.loop-i.invariant.held

pub loop-i-preserved : goal.loop-i-preserved
loop-i-preserved c =
    grouping_on _ _ _ _ _ _ _ _ _ _ _ c.loop-i.invariant c.loop-i-test.true (omega (arith, c.requires.in_source.within, c.args.edge.now.short)) _ _ (c.lodge.ensures _ _ c.loop-i.invariant.from c.loop-i-test.true c.requires.in_source.within c.loop-i.invariant.held)

pub returns : goal.returns
returns c =
    grouping_ends _ _ _ _ _ _ _ _ _ _ _ c.loop-i.invariant (omega (arith, c.loop-i-test.false))
