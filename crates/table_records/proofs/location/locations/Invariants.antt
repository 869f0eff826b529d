use Rattle.table_files.specs.Reading.{records}
use Rattle.table_files.specs.TableFile.{location}
use Rattle.table_records.proofs.Laws.Scan.{Left}
use lib.ListN.{drop}
use Rattle.table_records.proofs.location.locations.Given as goal

abbrev pub invariant-loop-place : goal.invariant-loop-place
invariant-loop-place l = Left location l.file (records location 1 l.count (drop l.at l.file)) l.place-end l.here l.place
