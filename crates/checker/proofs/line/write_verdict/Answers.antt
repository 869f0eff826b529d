use Rattle.checker.specs.declared.verdict.Verdict.TheVariants.{Reached, Empty}
use Rattle.texts.proofs.Laws.Line.{counted, line_written}
use mathlib.Core.Path.{◌≡◌}
use native.Mathlib.Omega.{arith}
use Rattle.checker.proofs.line.write_verdict.Goals as goal

pub returns-in-Ok-Reached : goal.returns-in-Ok-Reached
returns-in-Ok-Reached c =
    let is : c.in-Ok-Reached.field-0 ≡ Reached c.in-Ok-Reached.steps = rw c.in-Ok-Reached.is at c.in-Ok-Reached.field-0-is in
    let l = line_written _ _ _ _ c.write_counted.result 13 (omega arith) c.write_counted.ensures.few c.write_counted.ensures.length c.write_counted.ensures.text (counted "REACHED" _) in
    rw c.in-Ok-Reached.is (rw is (record { few = l.0; length = l.1.0; text = l.1.1 }))

pub returns-in-Ok-Empty : goal.returns-in-Ok-Empty
returns-in-Ok-Empty c =
    let is : c.in-Ok-Empty.field-0 ≡ Empty c.in-Ok-Empty.rows = rw c.in-Ok-Empty.is at c.in-Ok-Empty.field-0-is in
    let l = line_written _ _ _ _ c.write_counted-in-Ok-Empty.result 11 (omega arith) c.write_counted-in-Ok-Empty.ensures.few c.write_counted-in-Ok-Empty.ensures.length c.write_counted-in-Ok-Empty.ensures.text (counted "EMPTY" _) in
    rw c.in-Ok-Empty.is (rw is (record { few = l.0; length = l.1.0; text = l.1.1 }))
