use Rattle.tables.proofs.Laws.Starts.{Passed}
use Rattle.tables.proofs.table.Table.edge_starts.Given as goal

abbrev pub invariant-loop-k : goal.invariant-loop-k
invariant-loop-k l = Passed l.self.file.now l.self.head l.starts l.here l.k
