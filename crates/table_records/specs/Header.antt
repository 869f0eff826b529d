-- What the header's code makes of a header. Assumes nothing.
use Rattle.std.specs.Prelude.{ℕ, ◌+◌, ◌≤◌, ◌≡◌, Bool, ◌&&◌, List, length, take, drop, leb, ltb, Result, Ok, Err}
use Rattle.automata.specs.Clocks.{at}
use Rattle.regions.specs.Values.{bounds_of, Few}
use Rattle.table_files.specs.Bytes.{two}
use Rattle.table_files.specs.Reading.{Read, good, bad, between}
use Rattle.table_files.specs.TableFile.{Header}
use Rattle.table_records.specs.declared.head.Head.{Head}
use Rattle.table_records.specs.Refusal.{number_of}
use Rattle.table_records.specs.declared.refusal.Refusal.{Refusal}

-- the fields before the bounds are in range
unfoldable pub counts_in_range : List ℕ → Bool
counts_in_range b = between 1 4 (at b 2) && between 1 64 (at b 3) && ltb (at b 4) (at b 3) && leb (two b 5) 256

-- a bound is in range
abbrev pub low : ℕ → Bool
low c = leb c 127

-- the array begins with the bytes, and holds no number that is no byte
pub record Copied (bytes xs : List ℕ) : Type 0 where
  pub begins : take (length bytes) xs ≡ bytes
  pub small : (z : ℕ) → at xs z ≤ 255

-- the header that the bytes before its bounds, and these, say
abbrev pub header_from : List ℕ → List ℕ → Header
header_from b c = record { locations = at b 3; initial = at b 4; edges = two b 5; bounds = c }

-- the head says what the header says
pub record HeadOf (h : Header) (k : Head) : Type 0 where
  pub few : Few k.clocks
  pub bounds : bounds_of k.clocks ≡ h.bounds
  pub count : k.clocks.count ≡ length h.bounds
  pub locations : k.locations ≡ h.locations
  pub initial : k.initial ≡ h.initial
  pub edges : k.edges ≡ h.edges

-- the header is read, with the bytes after its bounds left; or it is refused, with this fault's number at this place
abbrev pub Headed : List ℕ → Read Header → Result Head Refusal → Type 0
Headed file r (Ok k) = ((h : Header) × HeadOf h k × (r ≡ good h (drop (7 + k.clocks.count) file))) × (7 + k.clocks.count ≤ length file)
Headed file r (Err e) = r ≡ bad (number_of e.fault) e.place
