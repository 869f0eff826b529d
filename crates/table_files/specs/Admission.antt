-- Which tables are admitted. Assumes nothing.
use Rattle.std.specs.Prelude.{ℕ, ◌+◌, Bool, true, ◌&&◌, List, [], ◌∷◌, length, get_or, leb}
use Rattle.automata.specs.Clocks.{at, allb}
use Rattle.automata.specs.Edge.{Guard, Action, keep, constant, clock, Edge, idle}
use Rattle.automata.specs.Automaton.{Table}
use Rattle.automata.specs.Checks.{every}
use Rattle.table_files.specs.Answer.{Answer}
use Rattle.table_files.specs.Reading.{Read, good, bad, Reader, ◌>>=◌, ◌>>◌, done, require, answered}
use Rattle.table_files.specs.TableFile.{table_file}

-- the bound rules ------------------------------------------------------------------------------------------------------------

-- "each guard constant .. on z is at most c(z)"
abbrev pub guard_bounded : List ℕ → Guard → Bool
guard_bounded c g = leb g.constant (at c g.clock)

-- "each .. constant update on z is at most c(z)"
abbrev pub constant_bounded : List ℕ → ℕ → Action → Bool
constant_bounded c z keep = true
constant_bounded c z (constant k) = leb k (at c z)
constant_bounded c z (clock y up down) = true

-- "each kind 2 update of z from y with offset d has c(z) ≤ c(y) + d"
abbrev pub clock_bounded : List ℕ → ℕ → Action → Bool
clock_bounded c z keep = true
clock_bounded c z (constant k) = true
clock_bounded c z (clock y up down) = leb (at c z + down) (at c y + up)

-- a test of each clock's update
abbrev pub each_update : (List ℕ → ℕ → Action → Bool) → List ℕ → Edge → Bool
each_update test c e = allb (length c) (λ (z : ℕ). test c z (get_or e.updates z idle).action)

-- "edge by edge, 5 before 6"
unfoldable pub edges_bounded : List ℕ → ℕ → List Edge → Reader (Unit {0})
edges_bounded c place [] = done tt
edges_bounded c place (e ∷ es) = do
  require 5 place (every (guard_bounded c) e.guards && each_update constant_bounded c e)
  require 6 place (each_update clock_bounded c e)
  edges_bounded c (place + 1) es

-- the call -------------------------------------------------------------------------------------------------------------------

-- "All calls check 1 to 6 first": the table of a file that passes them
unfoldable pub admitted : Reader Table
admitted = do
  T ← table_file
  edges_bounded T.bounds (1 + T.locations) T.edges
  done T

-- "Acceptance carries the count .. for a table, its records"
abbrev pub record_count : Table → ℕ
record_count T = 1 + T.locations + length T.edges

-- the answer of the admission
unfoldable pub admission : List ℕ → Answer
admission file = answered record_count (admitted file)

-- the table that an admitted file describes; of any other file, one of no use
abbrev pub table_read : Read Table → Table
table_read (good T rest) = T
table_read (bad number place) = record { bounds = []; locations = 0; initial = 0; finals = []; edges = [] }

-- the table of a file
unfoldable pub table_of : List ℕ → Table
table_of file = table_read (admitted file)
