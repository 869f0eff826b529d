use Rattle.edge_walk.proofs.Laws.Ready.{ready_of}
use Prim.Native.Nat.{◌≤◌}
use Rattle.calls.specs.RegionFile.{rows_bytes}
use Rattle.following.proofs.Laws.Taking.{rows_from, from_way, none_taken, all_taken, room_taken, more_taken}
use Rattle.ranked_ways.proofs.Laws.Memo.{kept_none}
use borrow.Author.Rules.{rules}
use lib.ListN.{length, length-take, length-drop}
use native.Mathlib.Omega.{arith}
use Rattle.following.proofs.writing.write_all.Goals as goal

pub loop-stand-init : goal.loop-stand-init
loop-stand-init c =
    (none_taken c.args.way _ c.start_in-stand.ensures (ready_of c.args.way.search) _, kept_none _)

pub loop-stand-preserved : goal.loop-stand-preserved
loop-stand-preserved c =
    let e = from_way c.args.way c.start_in-stand.result c.start_in-stand.ensures in
    let room : length (rows_bytes (rows_from c.args.way.search c.start_in-stand.result)) ≤ length c.args.buffer.now = rw e c.requires.way_in_bounds in
    (rw c.write_chosen-at.ensures.bytes (more_taken _ c.args.way.search (ready_of c.args.way.search) (search rules) _ _ _ _ c.loop-stand.invariant.0 room _ c.step_intervals-stand.ensures.step c.step_intervals-stand.ensures.chosen _ c.write_chosen-at.ensures.rows), c.write_chosen-at.ensures.memo)

pub returns : goal.returns
returns c =
    rw (← from_way c.args.way c.start_in-stand.result c.start_in-stand.ensures) (all_taken _ c.args.way.search (ready_of c.args.way.search) (search rules) _ _ _ _ c.loop-stand.invariant.0 (omega (arith, c.loop-stand-test.false)))

pub write_chosen-at-requires-clause-stand_in_bounds : goal.write_chosen-at-requires-clause-stand_in_bounds
write_chosen-at-requires-clause-stand_in_bounds c =
    let e = from_way c.args.way c.start_in-stand.result c.start_in-stand.ensures in
    let room : length (rows_bytes (rows_from c.args.way.search c.start_in-stand.result)) ≤ length c.args.buffer.now = rw e c.requires.way_in_bounds in
    simp (length-take, length-drop) (omega (arith, room_taken _ c.args.way.search (ready_of c.args.way.search) (search rules) _ _ _ _ c.loop-stand.invariant.0 room))
