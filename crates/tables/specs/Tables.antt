-- What opening a file gives. Assumes nothing.
use Rattle.std.specs.Prelude.{◌≡◌, ℕ, List, Result, Ok, Err}
use Rattle.table_files.specs.Reading.{bad}
use Rattle.table_files.specs.Admission.{admitted}
use Rattle.table_records.specs.Refusal.{number_of}
use Rattle.table_records.specs.declared.refusal.Refusal.{Refusal}
use Rattle.tables.specs.declared.table.Table.{Table}

-- a table that is read from this file; or it is refused, with this fault's number at this place
abbrev pub Opens : List ℕ → Result Table Refusal → Type 0
Opens file (Ok t) = t.file.now ≡ file
Opens file (Err r) = admitted file ≡ bad (number_of r.fault) r.place
