use Rattle.table_files.specs.Admission.{edges_bounded}
use Rattle.tables.proofs.Laws.Bounds.{Unbroken}
use Rattle.tables.specs.Bounds.{edges_at}
use mathlib.Core.List.{[]}
use Rattle.tables.proofs.bounds.edges_bounded.Given as goal

abbrev pub invariant-loop-place : goal.invariant-loop-place
invariant-loop-place l = Unbroken l.bounds l.clocks l.file (edges_bounded l.bounds l.first (edges_at l.clocks l.file l.edges l.at) []) l.place-end l.here l.place
