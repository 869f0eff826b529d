use Rattle.skylines.proofs.Laws.Covered.{dropping_begins, dropping_keeps, dropping_drops, dropping_all}
use borrow.Author.Rules.{rules}
use mathlib.Core.Path.{sym, ◌∙◌}
use Rattle.skylines.proofs.skyline.Skyline.drop_covered.Goals as goal
use Rattle.skylines.proofs.skyline.Skyline.drop_covered.Goals.{then-not-is_within, else-not-is_within}

pub loop-k-init : goal.loop-k-init
loop-k-init c =
    dropping_begins _ _ _ _ _ c.before_covered-kept.ensures

pub loop-k-preserved : goal.loop-k-preserved
loop-k-preserved c =
    elim c.if-not-is_within.branch [
      | then-not-is_within w ↦ rw (w.self-is, w.kept-is) (dropping_keeps _ _ _ _ _ _ _ c.loop-k.invariant c.loop-k-test.true (search rules))
      | else-not-is_within w ↦ rw (w.self-is, w.kept-is) (dropping_drops _ _ _ _ _ _ _ c.loop-k.invariant c.loop-k-test.true (sym c.is_within.ensures ∙ w.if-not-is_within.false))
    ]

pub returns : goal.returns
returns c =
    dropping_all _ _ _ _ _ _ _ c.loop-k.invariant c.loop-k-test.false
