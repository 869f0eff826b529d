-- The follower's parts: what they need of a region, and what they answer and write for its next rows. Assumes nothing.
use Rattle.std.specs.Prelude.{ℕ, ◌*◌, ◌≤◌, ◌<◌, ◌≡◌, Bool, true, false, ◌⊎◌, List, ◌++◌, length, drop, leb}
use Rattle.automata.specs.Clocks.{at}
use Rattle.automata.specs.Row.{Row, IsRow}
use Rattle.automata.specs.Point.{later, scaled, Contains}
use Rattle.automata.specs.Edge.{Bounded}
use Rattle.automata.specs.Automaton.{Table}
use Rattle.automata.specs.Next.{TimeSuccessor}
use Rattle.automata.specs.Closed.{RowOf}
use Rattle.automata.specs.Successors.{held, wait_rows, edge_rows}
use Rattle.regions.specs.Values.{Few, bounds_of, row_of, found_of, edge_of}
use Rattle.regions.specs.declared.clocks.Clocks as clocks_code
use Rattle.regions.specs.declared.region.Region.{Region}
use Rattle.regions.specs.declared.edge.Edge as edge_code
use Rattle.table_files.specs.Answer.{Answer, accepted, refused}
use Rattle.calls.specs.RegionFile.{row_bytes, rows_bytes}
use Rattle.std.specs.declared.option.Option as option_code

-- the region is one for these clocks, whose bounds are at most 127, so that its intervals are bytes
pub record Stands (k : clocks_code.Clocks) (r : Region) : Type 0 where
  pub few : Few k
  pub low : (z : ℕ) → z < k.count → at k.bounds z ≤ 127
  pub is_row : IsRow (bounds_of k) (row_of k.count r)

-- the edge is one for these clocks
pub record Leaves (k : clocks_code.Clocks) (e : edge_code.Edge) : Type 0 where
  pub few_guards : e.guard_count ≤ 8
  pub bounded : Bounded (bounds_of k) (edge_of k.count e)

-- the next rows of a region, by waiting and by an edge
abbrev pub rows_waited : clocks_code.Clocks → Region → List Row
rows_waited k r = wait_rows (bounds_of k) (row_of k.count r)

abbrev pub rows_led : clocks_code.Clocks → edge_code.Edge → Region → List Row
rows_led k e r = edge_rows (bounds_of k) (edge_of k.count e) (row_of k.count r)

-- the row that was found, or none
abbrev pub row_found : ℕ → option_code.Option Region → List Row
row_found n s = held (found_of n s)

-- all of the rows fit in so many bytes
abbrev pub fits : List Row → ℕ → Bool
fits rows room = leb (length (rows_bytes rows)) room

-- where they fit, their count; else 19
abbrev pub told : Bool → List Row → Answer
told true rows = accepted (length rows)
told false rows = refused 19 0

-- where they fit, they stand at the front; else nothing is altered
abbrev pub put : Bool → List Row → List ℕ → List ℕ
put true rows buffer = rows_bytes rows ++ drop (length (rows_bytes rows)) buffer
put false rows buffer = buffer

-- "for waiting, .. the first region after it": from every point of the row's region its next one is met, and no other before it. The later points
-- are told in halves of the unit, since the next region may hold none of the unit's own
abbrev pub FirstAfter : Table → List ℕ → Type 0
FirstAfter T row =
    (r r' : Row) → row ≡ row_bytes r → RowOf T r → TimeSuccessor T r r' → (D : ℕ) (v : List ℕ) → Contains T.bounds D v r
    → ((t : ℕ) × Contains T.bounds (2 * D) (later t (scaled 2 v)) r')
    × ((t : ℕ) → Contains T.bounds D (later t v) r ⊎ ((t' : ℕ) × (t' ≤ 2 * t) × Contains T.bounds (2 * D) (later t' (scaled 2 v)) r'))

-- where waiting leads nowhere: from every point of the row's region all later points are in it, so there is no region after it
abbrev pub Stays : Table → List ℕ → Type 0
Stays T row = (r : Row) → row ≡ row_bytes r → RowOf T r → (D : ℕ) (v : List ℕ) → Contains T.bounds D v r → (t : ℕ) → Contains T.bounds D (later t v) r
