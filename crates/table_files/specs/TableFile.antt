-- The table file: reading it, record by record. Assumes nothing.
use Rattle.std.specs.Prelude.{ℕ, ◌+◌, ◌*◌, ◌%◌, Bool, cond, ◌&&◌, ◌||◌, List, map, length, leb, ltb, eqb}
use Rattle.automata.specs.Comparison.{comparisons}
use Rattle.automata.specs.Clocks.{at}
use Rattle.automata.specs.Edge.{Guard, Action, keep, constant, clock, Update, Edge}
use Rattle.automata.specs.Automaton.{Table}
use Rattle.automata.specs.Rows.{from}
use Rattle.automata.specs.Checks.{every}
use Rattle.table_files.specs.Bytes.{TA, LO, ED, two, up, down}
use Rattle.table_files.specs.Reading.{Reader, ◌>>=◌, ◌>>◌, done, next_bytes, next_record, between, require, end, records}

-- the header -----------------------------------------------------------------------------------------------------------------

-- what the header says
pub record Header : Type 0 where
  pub locations : ℕ
  pub initial : ℕ
  pub edges : ℕ
  pub bounds : List ℕ

-- "TA: clocks n (1 to 4), locations L (1 to 64), initial location, edges E (two bytes, 0 to 256), then n bounds (0 to 127), one a clock"
-- "a header's bounds become due only after its other fields pass"
unfoldable pub header : Reader Header
header = do
  b ← next_record 1 0 TA 7
  let n : ℕ = at b 2
  let L : ℕ = at b 3
  let initial : ℕ = at b 4
  let E : ℕ = two b 5
  require 2 0 (between 1 4 n)
  require 2 0 (between 1 64 L)
  require 2 0 (ltb initial L)
  require 2 0 (leb E 256)
  bounds ← next_bytes 1 0 n
  require 2 0 (every (λ (c : ℕ). leb c 127) bounds)
  done (record { locations = L; initial = initial; edges = E; bounds = bounds })

-- locations ------------------------------------------------------------------------------------------------------------------

-- "LO, L times: flags; bit 0 is final, bit 1 is brief, the others are 0"; what is kept is whether the location is final
unfoldable pub location : ℕ → Reader Bool
location place = do
  b ← next_record 1 place LO 3
  let flags : ℕ = at b 2
  require 3 place (leb flags 3)
  done (eqb (flags % 2) 1)

-- edges ----------------------------------------------------------------------------------------------------------------------

-- "guards of three bytes (clock, comparison, constant 0 to 127)", from byte p on
abbrev pub guard : List ℕ → ℕ → Guard
guard b p = record { clock = at b p; comparison = at b (p + 1); constant = at b (p + 2) }

-- "(clock, comparison, constant 0 to 127)": in range
abbrev pub guard_in_range : ℕ → Guard → Bool
guard_in_range n g = ltb g.clock n && ltb g.comparison comparisons && leb g.constant 127

-- "five bytes (kind, comparison, clock y, offset in two bytes, signed)"
pub record Fields : Type 0 where
  pub kind : ℕ
  pub comparison : ℕ
  pub y : ℕ
  pub offset : ℕ

-- those from byte p on
abbrev pub fields : List ℕ → ℕ → Fields
fields b p = record { kind = at b p; comparison = at b (p + 1); y = at b (p + 2); offset = two b (p + 3) }

-- "keep (kind 0, other bytes 0), a constant (kind 1, y is 0, offset 0 to 127), or clock y plus an offset from -127 to 127 (kind 2)"
abbrev pub fields_in_range : ℕ → Fields → Bool
fields_in_range n f =
    (eqb f.kind 0 && eqb f.comparison 0 && eqb f.y 0 && eqb f.offset 0)
    || (eqb f.kind 1 && ltb f.comparison comparisons && eqb f.y 0 && leb f.offset 127)
    || (eqb f.kind 2 && ltb f.comparison comparisons && ltb f.y n && leb (up f.offset) 127 && leb (down f.offset) 127)

-- what fields in range say
abbrev pub action : Fields → Action
action f = cond (eqb f.kind 0) keep (cond (eqb f.kind 1) (constant f.offset) (clock f.y (up f.offset) (down f.offset)))

-- the update: what it does, beside its comparison
abbrev pub update : Fields → Update
update f = record { action = action f; comparison = f.comparison }

-- "ED, E times: source location, target location, guard count (0 to 8); then guards; then one update for each clock in order"
-- "an edge's guards and updates, all together, only after its guard count and the fields before that pass"
unfoldable pub edge_record : ℕ → ℕ → ℕ → Reader Edge
edge_record n L place = do
  b ← next_record 1 place ED 5
  let source : ℕ = at b 2
  let target : ℕ = at b 3
  let count : ℕ = at b 4
  require 3 place (ltb source L)
  require 3 place (ltb target L)
  require 3 place (leb count 8)
  d ← next_bytes 1 place (3 * count + 5 * n)
  let guards : List Guard = map (λ (i : ℕ). guard d (3 * i)) (from 0 count)
  let updates : List Fields = map (λ (z : ℕ). fields d (3 * count + 5 * z)) (from 0 n)
  require 3 place (every (guard_in_range n) guards)
  require 3 place (every (fields_in_range n) updates)
  done (record { source = source; target = target; guards = guards; updates = map update updates })

-- the file -------------------------------------------------------------------------------------------------------------------

-- "Records stand in this order"; "Bytes follow the last table record (place: records read)"
unfoldable pub table_file : Reader Table
table_file = do
  h ← header
  finals ← records location 1 h.locations
  edges ← records (edge_record (length h.bounds) h.locations) (1 + h.locations) h.edges
  end 4 (1 + h.locations + h.edges)
  done (record { bounds = h.bounds; locations = h.locations; initial = h.initial; finals = finals; edges = edges })
