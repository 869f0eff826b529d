use Rattle.table_records.specs.Edge.{after_edge}
use Rattle.table_records.specs.Skips.{skip}
use mathlib.Core.Path.{◌≡◌}
use Rattle.tables.proofs.table.Table.edge_start.Given as goal

abbrev pub invariant-loop-edge : goal.invariant-loop-edge
invariant-loop-edge l = l.at ≡ skip (after_edge l.self.head.clocks.count l.self.file.now) l._edge l.initial.at
