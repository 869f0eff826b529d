-- Edges: guards, updates, what they allow, and the rows they lead to. Assumes nothing.
use Rattle.std.specs.Prelude.{ℕ, ◌+◌, ◌*◌, ◌≤◌, ◌<◌, ◌≡◌, true, List, [], ◌∷◌, length, get_or}
use Rattle.automata.specs.Comparison.{holds}
use Rattle.automata.specs.Clocks.{at}
use Rattle.automata.specs.Row.{Row, IsRow}
use Rattle.automata.specs.Point.{Contains}

-- "guards of three bytes (clock, comparison, constant ..)"
pub record Guard : Type 0 where
  pub clock : ℕ
  pub comparison : ℕ
  pub constant : ℕ

-- "An update is keep .., a constant .., or clock y plus an offset": up is added to y, down taken away
pub data Action : Type 0 where
  keep : Action
  constant : ℕ → Action
  clock : ℕ → ℕ → ℕ → Action

-- an action beside its comparison
pub record Update : Type 0 where
  pub action : Action
  pub comparison : ℕ

-- "source location, target location, .. guards ..; then one update for each clock in order"
pub record Edge : Type 0 where
  pub source : ℕ
  pub target : ℕ
  pub guards : List Guard
  pub updates : List Update

-- what stands where a list of updates has ended
abbrev pub idle : Update
idle = record { action = keep; comparison = 0 }

-- a clock that an update reads is one of the first n
abbrev pub ActionIn : ℕ → Action → Type 0
ActionIn n keep = Unit {0}
ActionIn n (constant k) = Unit {0}
ActionIn n (clock y up down) = y < n

-- points ------------------------------------------------------------------------------------------------------------------------

-- "All its guards hold": each clock stands in its guard's comparison to the constant
abbrev pub Guarded : ℕ → List ℕ → List Guard → Type 0
Guarded D v [] = Unit {0}
Guarded D v (g ∷ gs) = (holds g.comparison (at v g.clock) (g.constant * D) ≡ true) × Guarded D v gs

-- "Each new clock value stands in its comparison to the constant, or to the old y plus offset"; a kept clock has its old value.
-- What is taken away stands on the new value's side: "If y plus offset is below 0, '=', '<' and '≤' allow nothing", and '≠' then allows every value
abbrev pub AllowedBy : ℕ → List ℕ → ℕ → ℕ → ℕ → Action → Type 0
AllowedBy D v z x cmp keep = x ≡ at v z
AllowedBy D v z x cmp (constant k) = holds cmp x (k * D) ≡ true
AllowedBy D v z x cmp (clock y up down) = holds cmp (x + down * D) (at v y + up * D) ≡ true

-- "All updates read the values after the wait and before any update": v is before, v' after
abbrev pub Allowed : ℕ → List ℕ → List ℕ → List Update → Type 0
Allowed D v v' us = (z : ℕ) → z < length v → AllowedBy D v z (at v' z) (get_or us z idle).comparison (get_or us z idle).action

-- bounds ------------------------------------------------------------------------------------------------------------------------

-- "each .. constant update on z is at most c(z), and each kind 2 update of z from y with offset d has c(z) ≤ c(y) + d"
abbrev pub BoundedBy : List ℕ → ℕ → Action → Type 0
BoundedBy c z keep = Unit {0}
BoundedBy c z (constant k) = k ≤ at c z
BoundedBy c z (clock y up down) = (y < length c) × (at c z + down ≤ at c y + up)

-- "each guard constant .. on z is at most c(z)"
abbrev pub GuardsIn : List ℕ → List Guard → Type 0
GuardsIn c gs = (i : ℕ) → i < length gs → (d : Guard) → ((get_or gs i d).clock < length c) × ((get_or gs i d).constant ≤ at c (get_or gs i d).clock)

-- the edge keeps the bound rules of an admitted table
pub record Bounded (c : List ℕ) (e : Edge) : Type 0 where
  pub guards_in : GuardsIn c e.guards
  pub updates_length : length e.updates ≡ length c
  pub updates_in : (z : ℕ) → z < length c → BoundedBy c z (get_or e.updates z idle).action

-- rows --------------------------------------------------------------------------------------------------------------------------

-- "An edge leads from a row in its source location, where its guards hold, to each row in its target that contains a point which
-- the updates allow from some point of the first"; "the two points of an edge share one D"
pub record Leads (c : List ℕ) (e : Edge) (r r' : Row) : Type 0 where
  pub D : ℕ
  pub before : List ℕ
  pub after : List ℕ
  pub from : Contains c D before r
  pub to : Contains c D after r'
  pub is_row : IsRow c r'
  pub leaves : r.location ≡ e.source
  pub enters : r'.location ≡ e.target
  pub guarded : Guarded D before e.guards
  pub allowed : Allowed D before after e.updates
