-- Timing tables, and which of them are admitted. Assumes nothing.
use Rattle.std.specs.Prelude.{ℕ, ◌<◌, Bool, false, List, [], length, get_or}
use Rattle.automata.specs.Edge.{Edge, Bounded}

-- the bounds, "one a clock"; locations L; the initial location; which locations are final; the edges. Brief "has no effect on runs" and is not kept
pub record Table : Type 0 where
  pub bounds : List ℕ
  pub locations : ℕ
  pub initial : ℕ
  pub finals : List Bool
  pub edges : List Edge

-- how many clocks there are
abbrev pub clocks : Table → ℕ
clocks T = length T.bounds

-- what stands where a list of edges has ended
abbrev pub blank : Edge
blank = record { source = 0; target = 0; guards = []; updates = [] }

-- "Locations, clocks and edges are numbered from 0"
abbrev pub edge : Table → ℕ → Edge
edge T i = get_or T.edges i blank

-- "bit 0 is final": whether a location is
abbrev pub final : Table → ℕ → Bool
final T l = get_or T.finals l false

-- "A table is admitted if each guard constant and constant update on z is at most c(z), and each kind 2 update of z from y with offset d has
-- c(z) ≤ c(y) + d" (`Bounded`), its locations in range
pub record Admitted (T : Table) : Type 0 where
  pub initial_in : T.initial < T.locations
  pub source_in : (i : ℕ) → i < length T.edges → (edge T i).source < T.locations
  pub target_in : (i : ℕ) → i < length T.edges → (edge T i).target < T.locations
  pub bounded : (i : ℕ) → i < length T.edges → Bounded T.bounds (edge T i)
