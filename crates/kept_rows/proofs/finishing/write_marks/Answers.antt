use Rattle.kept_rows.proofs.Laws.Finished.{marked_none, mark_room, mark_next}
use Rattle.std.proofs.lemmas.Slice.{put_mid-paste}
use Rattle.table_files.specs.Bytes.{RW}
use borrow.Author.Rules.{rules}
use mathlib.Core.Path.{refl}
use native.Mathlib.Omega.{arith}
use Rattle.kept_rows.proofs.finishing.write_marks.Goals as goal

pub loop-i-init : goal.loop-i-init
loop-i-init c =
    marked_none _ _ _

pub slice_bounds-copy_from_slice-end : goal.slice_bounds-copy_from_slice-end
slice_bounds-copy_from_slice-end c =
    let r = mark_room c.args.n c.args.out.now c.args.count c.loop-i.i c.loop-i.out c.loop-i.invariant c.requires.n_in_bounds c.loop-i-test.true _ c.row_width-size.ensures in
    search rules

pub loop-i-preserved : goal.loop-i-preserved
loop-i-preserved c =
    mark_next c.args.n c.args.out.now c.args.count c.loop-i.i c.loop-i.out c.loop-i.invariant c.requires.n_in_bounds c.loop-i-test.true _ c.row_width-size.ensures _ (put_mid-paste _ _ _ _ RW 2 c.copy_from_slice.ensures.after (omega arith) refl)
