-- One step of a run, as the code takes it: what its state stands for, and one step after the steps so far. Assumes nothing.
use Rattle.std.specs.Prelude.{ℕ, ◌+◌, ◌*◌, ◌≤◌, ◌<◌, Bool, List, [], ◌≡◌, eqb, length, take, get_or, Result, Ok, Err}
use Rattle.automata.specs.Automaton.{Table, edge}
use Rattle.automata.specs.Clocks.{at, each}
use Rattle.automata.specs.Comparison.{holds}
use Rattle.automata.specs.Edge.{Guard, Edge, ActionIn}
use Rattle.automata.specs.Point.{later}
use Rattle.automata.specs.Run.{State, Move}
use Rattle.regions.specs.Values.{action_of}
use Rattle.regions.specs.declared.edge.Edge as edge_code
use Rattle.regions.specs.declared.edge.Guard as guard_code
use Rattle.regions.specs.declared.edge.Update as update_code
use Rattle.table_files.specs.Bytes.{two, four}
use Rattle.table_files.specs.Reading.{Read, good, bad, Reader, carry, ◌>>◌, done, require}
use Rattle.table_records.specs.Refusal.{number_of}
use Rattle.table_records.specs.declared.refusal.Refusal.{Refusal}
use Rattle.calls.specs.RunFile.{guardedb, allowedb}
use Rattle.run_lists.specs.declared.step.State as state_code

-- an edge of the code over n clocks: every clock that it names is one of them, and no guard is missing
pub record Names (n : ℕ) (e : edge_code.Edge) : Type 0 where
  pub few : e.guard_count ≤ 8
  pub guards_length : length e.guards ≡ 8
  pub updates_length : length e.updates ≡ 4
  pub guards : (i : ℕ) → i < e.guard_count → (d : guard_code.Guard) → (get_or e.guards i d).clock < n
  pub updates : (z : ℕ) → z < n → (d : update_code.Update) → ActionIn n (action_of (get_or e.updates z d).action)

-- whether a guard holds of the values after the wait
abbrev pub guard_passes : ℕ → List ℕ → Guard → Bool
guard_passes D v g = holds g.comparison (at v g.clock) (g.constant * D)

-- the new value of clock z, in the bytes of a step's record
abbrev pub value_in : List ℕ → ℕ → ℕ
value_in b z = four b (8 + 4 * z)

-- the step that the bytes of its record tell
abbrev pub move_of : ℕ → List ℕ → Move
move_of n b = record { number = two b 2; delay = four b 4; values = each n (value_in b) }

-- the location, and the values of n clocks
abbrev pub point_of : ℕ → state_code.State → State
point_of n s = record { location = s.location; values = take n s.values }

-- the state after the steps so far, or the first refusal among them
abbrev pub state_of : ℕ → Result state_code.State Refusal → Read State
state_of n (Ok s) = good (point_of n s) []
state_of n (Err r) = bad (number_of r.fault) r.place

-- one step by an edge, 10 to 12 in this order
unfoldable pub step_by : Edge → ℕ → ℕ → State → Move → Reader State
step_by e D place s m = do
  require 10 place (eqb s.location e.source)
  require 11 place (guardedb D (later m.delay s.values) e.guards)
  require 12 place (allowedb D (later m.delay s.values) m.values e.updates)
  done (record { location = e.target; values = m.values })

-- one step more; an earlier refusal stands
abbrev pub one_more : Table → ℕ → ℕ → Read State → Move → Read State
one_more T D place r m = carry r (λ s. step_by (edge T m.number) D place s m)
