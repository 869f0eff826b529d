use Rattle.calls.specs.Text.{ascii}
use Rattle.checker.specs.Verdict.{line_of}
use Rattle.checker.proofs.Laws.Line.{text_is}
use Rattle.texts.proofs.Laws.Line.{line_ended}
use borrow.Author.Rules.{rules}
use lib.ListN.{length}
use mathlib.Core.Path.{◌≡◌}
use native.Mathlib.Omega.{arith}
use Rattle.checker.proofs.line.write_line.Goals as goal

pub returns : goal.returns
returns c =
    let long : length c.args.out.now ≡ 32 = search rules in
    let w = c.write_verdict-end in
    let e = line_ended c.args.out.now w.new.out (ascii (line_of c.args.verdict)) w.result w.ensures.length w.ensures.text (omega (arith, w.ensures.few)) in
    record { few = omega (arith, w.ensures.few); length = rw (text_is c.args.verdict) e.0; text = rw (text_is c.args.verdict) e.1 }
