-- What the passes over a region list give. Assumes nothing.
use Rattle.std.specs.Prelude.{ℕ, ◌≡◌, List, Result, Ok, Err}
use Rattle.table_files.specs.Reading.{Read, good, bad, Reader, done}
use Rattle.table_records.specs.Refusal.{number_of}
use Rattle.table_records.specs.declared.refusal.Refusal.{Refusal}

-- a reading succeeds; or it is refused, with this fault's number at this place
abbrev pub Told : {A B : Type 0} → Read A → Result B Refusal → Type 0
Told {A} r (Ok b) = (a : A) × (rest : List ℕ) × (r ≡ good a rest)
Told r (Err e) = r ≡ bad (number_of e.fault) e.place

-- a pass over the rows: all of them pass; or this fault's number, at the place of the first that does not
abbrev pub passed : Result (Unit {0}) Refusal → Reader (Unit {0})
passed (Ok u) = done tt
passed (Err e) = λ file. bad (number_of e.fault) e.place
