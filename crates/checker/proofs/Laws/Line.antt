-- The line that is printed. Assumes nothing.
use mathlib.Core.Path.{◌≡◌}
use mathlib.Core.List.{[], ◌∷◌, ◌++◌}
use Rattle.calls.specs.Text.{ascii}
use Rattle.std.specs.Prelude.{Result}
use Rattle.table_records.specs.declared.refusal.Refusal.{Refusal}
use Rattle.checker.specs.declared.verdict.Verdict.{Verdict}
use Rattle.checker.specs.Verdict.{line_of, text_of}
use Rattle.texts.proofs.Laws.Line.{newline}

pub text_is : (v : Result Verdict Refusal) → text_of v ≡ ascii (line_of v) ++ (10 ∷ [])
unfolding text_of
text_is v = newline (line_of v)
