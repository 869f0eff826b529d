-- The file of a table, and document 01's conditions on the two. Assumes nothing.
use Rattle.std.specs.Prelude.{ℕ, ◌+◌, ◌-◌, ◌%◌, ◌≤◌, ◌<◌, ◌≡◌, true, ◌⊎◌, ◌↔◌, List, [], ◌∷◌, ◌++◌, length}
use Rattle.automata.specs.Comparison.{comparisons}
use Rattle.automata.specs.Clocks.{at}
use Rattle.automata.specs.Edge.{Guard, Action, keep, constant, clock, Update, Edge}
use Rattle.automata.specs.Automaton.{Table, clocks, final, Admitted}
use Rattle.automata.specs.Closed.{Mem}
use Rattle.automata.specs.Rows.{gather}
use Rattle.table_files.specs.Bytes.{TA, LO, ED, two_bytes}
use Rattle.table_files.specs.Meaning.{Limits}

-- the file -------------------------------------------------------------------------------------------------------------------

-- "LO .. flags": the flags are handed over, since a table keeps of them only which locations are final
abbrev pub location_bytes : ℕ → List ℕ
location_bytes flags = LO ++ (flags ∷ [])

-- "guards of three bytes (clock, comparison, constant ..)"
abbrev pub guard_bytes : Guard → List ℕ
guard_bytes g = g.clock ∷ g.comparison ∷ g.constant ∷ []

-- "offset in two bytes, signed": up less down, 65,536 more where that is below 0
abbrev pub offset_bytes : ℕ → ℕ → List ℕ
offset_bytes up down = two_bytes ((65536 + up - down) % 65536)

-- "five bytes (kind, comparison, clock y, offset in two bytes, signed)": "keep (kind 0, other bytes 0), a constant (kind 1, y is 0, ..), or
-- clock y plus an offset .. (kind 2)"
abbrev pub action_bytes : ℕ → Action → List ℕ
action_bytes comparison keep = 0 ∷ 0 ∷ 0 ∷ 0 ∷ 0 ∷ []
action_bytes comparison (constant k) = 1 ∷ comparison ∷ 0 ∷ two_bytes k
action_bytes comparison (clock y up down) = 2 ∷ comparison ∷ y ∷ offset_bytes up down

abbrev pub update_bytes : Update → List ℕ
update_bytes u = action_bytes u.comparison u.action

-- "ED .. source location, target location, guard count ..; then guards ..; then one update for each clock in order"
abbrev pub edge_bytes : Edge → List ℕ
edge_bytes e = ED ++ (e.source ∷ e.target ∷ length e.guards ∷ (gather guard_bytes e.guards ++ gather update_bytes e.updates))

-- "TA: clocks n, locations L, initial location, edges E (two bytes ..), then n bounds"; "LO, L times"; "ED, E times"
abbrev pub table_bytes : List ℕ → Table → List ℕ
table_bytes flags T =
    TA
    ++ (clocks T ∷ T.locations ∷ T.initial ∷ (two_bytes (length T.edges) ++ (T.bounds ++ (gather location_bytes flags ++ gather edge_bytes T.edges))))

-- the conditions -------------------------------------------------------------------------------------------------------------

-- a row of the table of comparisons; "constant 0 to 127"
pub record GuardFields (g : Guard) : Type 0 where
  pub comparison : g.comparison < comparisons
  pub constant_low : g.constant ≤ 127

-- "an offset from -127 to 127": what it adds or what it takes away is 0
abbrev pub Offset : ℕ → ℕ → Type 0
Offset up down = ((down ≡ 0) × (up ≤ 127)) ⊎ ((up ≡ 0) × (down ≤ 127))

-- "keep (.. other bytes 0), a constant (.. 0 to 127), or clock y plus an offset from -127 to 127"
abbrev pub UpdateFields : ℕ → Action → Type 0
UpdateFields comparison keep = comparison ≡ 0
UpdateFields comparison (constant k) = (comparison < comparisons) × (k ≤ 127)
UpdateFields comparison (clock y up down) = (comparison < comparisons) × Offset up down

-- "guard count (0 to 8)"
pub record EdgeFields (e : Edge) : Type 0 where
  pub few_guards : length e.guards ≤ 8
  pub guards : (g : Guard) → Mem g e.guards → GuardFields g
  pub updates : (u : Update) → Mem u e.updates → UpdateFields u.comparison u.action

-- the file is that of the table T, which keeps all of document 01's conditions, and has so many records: the header, "LO, L times", "ED, E times"
pub record TableOf (T : Table) (file : List ℕ) (count : ℕ) : Type 0 where
  -- n, L, E and the bounds are in range
  pub limits : Limits T
  -- locations and clocks are among those of the table, each edge has one update for each clock, and the bound rules hold
  pub admitted : Admitted T
  pub fields : (e : Edge) → Mem e T.edges → EdgeFields e
  -- "flags; bit 0 is final, bit 1 is brief, the others are 0"
  pub flags : List ℕ
  pub flags_length : length flags ≡ T.locations
  pub flags_low : (l : ℕ) → l < T.locations → at flags l ≤ 3
  pub flags_final : (l : ℕ) → l < T.locations → (final T l ≡ true) ↔ (at flags l % 2 ≡ 1)
  pub bytes : file ≡ table_bytes flags T
  pub counted : 1 + T.locations + length T.edges ≡ count
