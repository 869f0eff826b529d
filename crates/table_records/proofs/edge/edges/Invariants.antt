use Rattle.table_files.specs.Reading.{records}
use Rattle.table_files.specs.TableFile.{edge_record}
use Rattle.table_records.proofs.Laws.Scan.{Left}
use lib.ListN.{drop}
use Rattle.table_records.proofs.edge.edges.Given as goal

abbrev pub invariant-loop-place : goal.invariant-loop-place
invariant-loop-place l = Left (edge_record l.clocks l.locations) l.file (records (edge_record l.clocks l.locations) l.first l.count (drop l.at l.file)) l.place-end l.here l.place
