-- The line of a verdict. Assumes nothing.
use Rattle.std.specs.Prelude.{ℕ, List, Result, Ok, Err}
use Prim.Native.String.{String, ◌++◌}
use Rattle.table_files.specs.Answer.{accepted, refused}
use Rattle.table_records.specs.declared.refusal.Refusal.{Refusal}
use Rattle.table_records.specs.Refusal.{number_of}
use Rattle.calls.specs.Text.{ascii}
use Rattle.calls.specs.Program.{printed}
use Rattle.checker.specs.declared.verdict.Verdict.{Verdict}
use Rattle.checker.specs.declared.verdict.Verdict.TheVariants.{Reached, Empty}

-- "`EMPTY 8` (verdict, rows)", "`REFUSED 11 2` (number, place)", "`REACHED 2` (steps)"
abbrev pub line_of : Result Verdict Refusal → String
line_of (Ok (Reached steps)) = printed "REACHED" (accepted steps)
line_of (Ok (Empty rows)) = printed "EMPTY" (accepted rows)
line_of (Err r) = printed "REFUSED" (refused (number_of r.fault) r.place)

-- that line in ASCII, and a newline
unfoldable pub text_of : Result Verdict Refusal → List ℕ
text_of v = ascii (line_of v ++ "\n")
