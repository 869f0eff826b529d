use Rattle.walked_rows.proofs.Laws.Turning.{turning_begins, turning_grouped, turning_on, turning_ends, grouped_found, chosen_found}
use native.Mathlib.Omega.{arith}
use Rattle.walked_rows.proofs.turning.open_among.Goals as goal

pub loop-from-init : goal.loop-from-init
loop-from-init c =
    turning_begins _ _ _ _ _ _ _ _ c.requires.in_source.from c.requires.taken_inside

pub returns-then-held-end : goal.returns-then-held-end
returns-then-held-end c =
    grouped_found _ _ _ _ _ _ _ _ _ _ c.loop-from.invariant _ c.open_in_groups-held.ensures c.if-held-end.true

pub returns-then-again-end : goal.returns-then-again-end
returns-then-again-end c =
    grouped_found _ _ _ _ _ _ _ _ _ _ (turning_grouped _ _ _ _ _ _ _ _ _ _ c.loop-from.invariant _ c.open_in_groups-held.ensures c.if-held-end.false) _ c.open_in_groups-again.ensures c.if-again-end.true

pub returns-then-open-end : goal.returns-then-open-end
returns-then-open-end c =
    chosen_found _ _ _ _ _ _ _ _ _ _ (turning_grouped _ _ _ _ _ _ _ _ _ _ (turning_grouped _ _ _ _ _ _ _ _ _ _ c.loop-from.invariant _ c.open_in_groups-held.ensures c.if-held-end.false) _ c.open_in_groups-again.ensures c.if-again-end.false) _ _ _ (rw (c.over_rows-over.ensures.clocks, c.over_rows-over.ensures.bytes, c.over_rows-over.ensures.e) at c.choose-next.ensures) _ c.least_chosen-open.ensures c.if-open-end.true

pub loop-from-preserved : goal.loop-from-preserved
loop-from-preserved c =
    turning_on _ _ _ _ _ _ _ _ _ _ (turning_grouped _ _ _ _ _ _ _ _ _ _ (turning_grouped _ _ _ _ _ _ _ _ _ _ c.loop-from.invariant _ c.open_in_groups-held.ensures c.if-held-end.false) _ c.open_in_groups-again.ensures c.if-again-end.false) _ _ _ (rw (c.over_rows-over.ensures.clocks, c.over_rows-over.ensures.bytes, c.over_rows-over.ensures.e) at c.choose-next.ensures) _ c.least_chosen-open.ensures c.loop-from-test.true c.if-open-end.false

pub returns : goal.returns
returns c =
    turning_ends _ _ _ _ _ _ _ _ _ c.loop-from.invariant (omega (arith, c.loop-from-test.false))
