use Rattle.std.proofs.Common.{◌<◌, length, set, arith, length-set}
use Rattle.std.proofs.lemmas.List.{get_or_default}
use Rattle.regions.specs.declared.region.Region.{Region}
use Rattle.making_turns.specs.Work.{blank}
use Rattle.making.proofs.make.make_rows.Goals as goal

pub returns-in-Some : goal.returns-in-Some
returns-in-Some c =
    c.loop-s.invariant.ends c.in-Some.answer c.in-Some.is

-- the row is stored and one taken, and a turn done
pub loop-s-preserved : goal.loop-s-preserved
loop-s-preserved c =
    let w = c.loop-s.invariant.goes c.in_default.is in
    let l : c.loop-s.s.take < length (set c.loop-s.waiting c.loop-s.s.place c.loop-s.s.row) = omega (arith, w.take_in, w.sized, length-set {A = Region}) in
    c.turn-s.ensures.loops _ _ _ w (get_or_default _ c.loop-s.s.take _ blank l)
