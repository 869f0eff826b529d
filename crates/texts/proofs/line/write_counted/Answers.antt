use Rattle.texts.proofs.Laws.Line.{counted_room, counted_written}
use lib.ListN.{length-take, length-drop}
use native.Mathlib.Omega.{arith}
use Rattle.texts.proofs.line.write_counted.Goals as goal

pub write_decimal-requires : goal.write_decimal-requires
write_decimal-requires c =
    let r = counted_room c.args.out.now c.args.word.now _ c.write_word-at.result c.write_word-at.ensures.length c.write_word-at.ensures.text c.requires in
    simp (length-take, length-drop) (omega arith)

pub returns : goal.returns
returns c =
    let t = counted_written c.args.out.now c.args.word.now _ c.write_word-at.result c.write_word-at.ensures.length c.write_word-at.ensures.text c.requires _ _ c.write_decimal.result c.write_decimal.ensures.length c.write_decimal.ensures.few c.write_decimal.ensures.text in
    record { few = t.0; length = t.1.0; text = t.1.1 }
