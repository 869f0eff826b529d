use Rattle.open_rows.proofs.Laws.Leading.{EdgesInside}
use Rattle.table_files.specs.Admission.{table_of}
use Rattle.tables.specs.Bounds.{edge_start}
use Rattle.walked_rows.specs.Open.{FirstOpen}
use mathlib.Core.Path.{◌≡◌}
use Rattle.open_rows.proofs.leading.first_by_edges.Given as goal

abbrev pub invariant-loop : goal.invariant-loop
invariant-loop l = FirstOpen (EdgesInside (table_of l.table.file.now) l.list.clocks.count l.list.bytes.now l.list.count l.fn.end l.counter) 0 l.fn.end l.first × (l.at ≡ edge_start l.table.head.clocks.count l.table.head.locations l.table.file.now l.counter)
