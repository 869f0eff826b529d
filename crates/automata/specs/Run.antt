-- Runs. "A run has a scale D of at least 1; time and clock values are whole counts of 1/D". Assumes nothing.
use Rattle.std.specs.Prelude.{ℕ, ◌*◌, ◌<◌, ◌≡◌, true, List, [], ◌∷◌, ◌++◌, length, replicate}
use Rattle.automata.specs.Point.{later, scaled}
use Rattle.automata.specs.Edge.{Guarded, Allowed}
use Rattle.automata.specs.Automaton.{Table, clocks, edge, final}

-- the present location and the clocks' values
pub record State : Type 0 where
  pub location : ℕ
  pub values : List ℕ

-- one step: the edge's number, the delay before it, and the "values after the update"
pub record Move : Type 0 where
  pub number : ℕ
  pub delay : ℕ
  pub values : List ℕ

-- "It starts in the initial location with all clocks 0"
abbrev pub first : Table → State
first T = record { location = T.initial; values = replicate (clocks T) 0 }

-- the state that a step ends in
abbrev pub after : Table → Move → State
after T m = record { location = (edge T m.number).target; values = m.values }

-- "A step waits a delay of 0 or more, adding it to every clock, then takes an edge from the present location. All its guards hold
-- after the wait", and its updates allow the new values
pub record Step (T : Table) (D : ℕ) (s : State) (m : Move) : Type 0 where
  pub number_in : m.number < length T.edges
  pub leaves : s.location ≡ (edge T m.number).source
  pub sized : length m.values ≡ clocks T
  pub guarded : Guarded D (later m.delay s.values) (edge T m.number).guards
  pub allowed : Allowed D (later m.delay s.values) m.values (edge T m.number).updates

-- the steps lead from the first state to a state, at "a scale D of at least 1"; "Zero steps are a run"
pub data Run (T : Table) (D : ℕ) : List Move → State → Type 0 where
  begin : 0 < D → Run T D [] (first T)
  move : {ms : List Move} {s : State} (m : Move) → Run T D ms s → Step T D s m → Run T D (ms ++ (m ∷ [])) (after T m)

-- a state and a step counted in 1/(k * D) instead of 1/D: every delay and value is k times as many counts
abbrev pub scaled_state : ℕ → State → State
scaled_state k s = record { location = s.location; values = scaled k s.values }

abbrev pub scaled_move : ℕ → Move → Move
scaled_move k m = record { number = m.number; delay = k * m.delay; values = scaled k m.values }

-- "some run ends in a final location" (demand 3)
pub record Reached (T : Table) : Type 0 where
  pub D : ℕ
  pub positive : 0 < D
  pub moves : List Move
  pub state : State
  pub run : Run T D moves state
  pub ends : final T state.location ≡ true
