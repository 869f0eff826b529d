use Rattle.texts.proofs.Laws.Line.{counted, line_written}
use native.Mathlib.Omega.{arith}
use Rattle.made_lists.proofs.line.write_answer.Goals as goal

pub returns-in-Ok : goal.returns-in-Ok
returns-in-Ok c =
    let l = line_written _ _ _ _ c.write_counted.result 10 (omega arith) c.write_counted.ensures.few c.write_counted.ensures.length c.write_counted.ensures.text (counted "MADE" _) in
    rw c.in-Ok.is (record { few = l.0; length = l.1.0; text = l.1.1 })
