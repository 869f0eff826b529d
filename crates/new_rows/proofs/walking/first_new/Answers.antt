use Rattle.edge_walk.specs.Way.{rows_on}
use Rattle.new_rows.proofs.Laws.Walking.{met, walk_start, walk_on, walk_new, walk_over, walk_fewer}
use Rattle.regions.specs.Values.{row_of}
use Rattle.std.specs.Prelude.{Some}
use mathlib.Core.Path.{sym}
use Rattle.new_rows.proofs.walking.first_new.Goals as goal

pub loop-next-init : goal.loop-next-init
loop-next-init c =
    walk_start _ _ _ _ (met c.args.way c.args.list.now.clocks c.requires.clocks c.args.list.now.sized c.args.floor c.next-next.result c.next-next.ensures)

pub returns-in-Err : goal.returns-in-Err
returns-in-Err c =
    walk_new _ _ _ c.args.list.now.clocks.count c.in-Some.region (rw c.in-Some.is at c.loop-next.invariant) (sym c.in-Err.ensures)

pub loop-next-smaller : goal.loop-next-smaller
loop-next-smaller c =
    rw c.in-Some.is (walk_fewer (rows_on c.args.way) (row_of c.args.list.now.clocks.count c.in-Some.region) _ (met c.args.way c.args.list.now.clocks c.requires.clocks c.args.list.now.sized (Some c.in-Some.region) c.next-next-in-Some.result c.next-next-in-Some.ensures))

pub loop-next-preserved : goal.loop-next-preserved
loop-next-preserved c =
    walk_on _ _ _ (row_of c.args.list.now.clocks.count c.in-Some.region) (rw c.in-Some.is at c.loop-next.invariant) (sym c.in-Ok.ensures) _ (met c.args.way c.args.list.now.clocks c.requires.clocks c.args.list.now.sized (Some c.in-Some.region) c.next-next-in-Some.result c.next-next-in-Some.ensures)

pub returns : goal.returns
returns c =
    walk_over _ _ _ c.args.list.now.clocks.count (rw c.in_default.is at c.loop-next.invariant)
