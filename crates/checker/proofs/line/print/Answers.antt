use Prim.Native.String.{String, ◌++◌}
use Rattle.calls.specs.Text.{ascii}
use Rattle.checker.specs.Verdict.{text_of}
use Rattle.texts.proofs.Laws.Line.{written_first}
use mathlib.Core.Path.{ap, ◌∙◌}
use Rattle.checker.proofs.line.print.Goals as goal

pub returns-clause-few : goal.returns-clause-few
unfolding text_of
returns-clause-few c =
    let t = written_first _ _ _ c.write_line.result c.write_line.ensures.length c.write_line.ensures.text in
    (t.0, t.1.0)

pub returns-clause-prints : goal.returns-clause-prints
unfolding text_of
returns-clause-prints c =
    let t = written_first _ _ _ c.write_line.result c.write_line.ensures.length c.write_line.ensures.text in
    λ t' p e f. t.1.1 ∙ ap (λ (l : String). ascii (l ++ "\n")) (c.judge.ensures.first t' p e f)
