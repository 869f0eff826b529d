use Rattle.table_records.proofs.Laws.Scan.{refusal}
use Rattle.tables.proofs.Laws.Bounds.{all_unbroken, none_broken, stands_here, one_broken, one_unbroken}
use mathlib.Core.Path.{sym, ◌∙◌}
use native.Mathlib.Omega.{arith}
use Rattle.tables.proofs.bounds.edges_bounded.Goals as goal

pub loop-place-init : goal.loop-place-init
loop-place-init c =
    all_unbroken _ _ _ _ _ _ _ (omega arith) c.requires.all_stand

pub edge_from-requires-clause-stands : goal.edge_from-requires-clause-stands
edge_from-requires-clause-stands c =
    stands_here _ _ _ _ _ _ c.loop-place.invariant c.loop-place-test.true

pub returns-in-Some : goal.returns-in-Some
returns-in-Some c =
    refusal c.at.ensures (one_broken _ _ _ _ _ _ c.loop-place.invariant c.loop-place-test.true c.edge_from.ensures.means _ (sym c.in-Some.is ∙ c.broken_rule.ensures))

pub after_edge-here-requires : goal.after_edge-here-requires
after_edge-here-requires c =
    stands_here _ _ _ _ _ _ c.loop-place.invariant c.loop-place-test.true

pub loop-place-preserved : goal.loop-place-preserved
loop-place-preserved c =
    one_unbroken _ _ _ _ _ _ c.loop-place.invariant c.loop-place-test.true c.edge_from.ensures.means (sym c.in_default.is ∙ c.broken_rule.ensures) c.after_edge-here.ensures

pub returns : goal.returns
returns c =
    none_broken _ _ _ _ _ _ c.loop-place.invariant c.loop-place-test.false
