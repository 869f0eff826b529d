-- What the reader of row records gives. Assumes nothing.
use Rattle.std.specs.Prelude.{ℕ, ◌+◌, ◌≡◌, List, drop, Result, Ok, Err}
use Rattle.automata.specs.Clocks.{at}
use Rattle.automata.specs.Row.{Row}
use Rattle.automata.specs.Automaton.{Table, clocks}
use Rattle.regions.specs.Values.{region_of}
use Rattle.table_files.specs.Reading.{good, bad}
use Rattle.calls.specs.RegionFile.{row_width, row_record}
use Rattle.regions.specs.declared.region.Region.{Region}
use Rattle.table_records.specs.Refusal.{number_of}
use Rattle.table_records.specs.declared.refusal.Fault.{Fault}

-- byte z from a position on
abbrev pub byte_from : List ℕ → ℕ → ℕ → ℕ
byte_from b p z = at b (p + z)

-- the row record from a position on, whatever its place: the region of its row, with the bytes after it left, or this fault
abbrev pub ReadsRow : Table → List ℕ → ℕ → Result Region Fault → Type 0
ReadsRow T file p (Ok region) =
    (place : ℕ) → (row : Row) × (region ≡ region_of row) × (row_record T place (drop p file) ≡ good row (drop (p + row_width (clocks T)) file))
ReadsRow T file p (Err fault) = (place : ℕ) → row_record T place (drop p file) ≡ bad (number_of fault) place
