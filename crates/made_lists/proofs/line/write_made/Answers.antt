use Rattle.calls.specs.Program.{made_line, made_text}
use Rattle.calls.specs.Text.{ascii}
use Rattle.tables.specs.Values.{answer_of}
use Rattle.texts.proofs.Laws.Line.{newline, line_ended}
use borrow.Author.Rules.{rules}
use lib.ListN.{length}
use mathlib.Core.Path.{◌≡◌}
use native.Mathlib.Omega.{arith}
use Rattle.made_lists.proofs.line.write_made.Goals as goal

pub returns : goal.returns
unfolding made_text
returns c =
    let long : length c.args.out.now ≡ 32 = search rules in
    let w = c.write_answer-end in
    let line = made_line (answer_of c.args.answer) in
    let e = line_ended c.args.out.now w.new.out (ascii line) w.result w.ensures.length w.ensures.text (omega (arith, w.ensures.few)) in
    record { few = omega (arith, w.ensures.few); length = rw (newline line) e.0; text = rw (newline line) e.1 }
