-- What a scan says of a reading. Assumes nothing.
use Rattle.std.specs.Prelude.{ℕ, ◌≤◌, ◌≡◌, List, length, drop, Result, Ok, Err}
use Rattle.table_files.specs.Reading.{Read, good, bad}
use Rattle.table_records.specs.Refusal.{number_of}
use Rattle.table_records.specs.declared.refusal.Refusal.{Refusal}

-- the reading is good, and has left the bytes from this position on; or it is refused, with this fault's number at this place
abbrev pub Scanned : {A : Type 0} → List ℕ → Read A → Result ℕ Refusal → Type 0
Scanned {A} file r (Ok p) = ((a : A) × (r ≡ good a (drop p file))) × (p ≤ length file)
Scanned file r (Err e) = r ≡ bad (number_of e.fault) e.place
