-- The run list: reading it and checking it against a table. Assumes nothing.
use Rattle.std.specs.Prelude.{ℕ, ◌+◌, ◌*◌, Bool, List, [], ◌∷◌, ◌++◌, length, get_or, leb, ltb, eqb}
use Rattle.automata.specs.Comparison.{holds}
use Rattle.automata.specs.Clocks.{at, each, allb}
use Rattle.automata.specs.Point.{later}
use Rattle.automata.specs.Edge.{Guard, Action, keep, constant, clock, Update, idle}
use Rattle.automata.specs.Automaton.{Table, clocks, edge, final}
use Rattle.automata.specs.Run.{State, Move, first, after}
use Rattle.automata.specs.Rows.{gather}
use Rattle.automata.specs.Checks.{every}
use Rattle.table_files.specs.Bytes.{RN, ST, two, four, two_bytes, four_bytes}
use Rattle.table_files.specs.Answer.{Answer}
use Rattle.table_files.specs.Reading.{Reader, ◌>>=◌, ◌>>◌, carry, done, next_record, between, require, end, records, answered}
use Rattle.table_files.specs.Admission.{admitted}

-- the file -------------------------------------------------------------------------------------------------------------------

-- "ST, edge (two bytes), delay (four bytes), n values after the update (four bytes each)"
unfoldable pub step_record : Table → ℕ → Reader Move
step_record T place = do
  b ← next_record 7 place ST (8 + 4 * clocks T)
  require 8 place (ltb (two b 2) (length T.edges))
  done (record { number = two b 2; delay = four b 4; values = each (clocks T) (λ (z : ℕ). four b (8 + 4 * z)) })

-- what a run list says
pub record RunList : Type 0 where
  pub scale : ℕ
  pub moves : List Move

-- "RN, scale (two bytes, 1 to 10,000), steps (two bytes, 0 to 2,048); then for each step ST"
unfoldable pub run_file : Table → Reader RunList
run_file T = do
  b ← next_record 7 0 RN 6
  let scale : ℕ = two b 2
  let steps : ℕ = two b 4
  require 8 0 (between 1 10000 scale)
  require 8 0 (leb steps 2048)
  moves ← records (step_record T) 1 steps
  end 9 (1 + steps)
  done (record { scale = scale; moves = moves })

-- the record of a step
abbrev pub move_bytes : Move → List ℕ
move_bytes m = ST ++ (two_bytes m.number ++ (four_bytes m.delay ++ gather four_bytes m.values))

-- the whole file
abbrev pub run_bytes : RunList → List ℕ
run_bytes r = RN ++ (two_bytes r.scale ++ (two_bytes (length r.moves) ++ gather move_bytes r.moves))

-- the check ------------------------------------------------------------------------------------------------------------------

-- "All its guards hold after the wait"
abbrev pub guardedb : ℕ → List ℕ → List Guard → Bool
guardedb D v gs = every (λ (g : Guard). holds g.comparison (at v g.clock) (g.constant * D)) gs

-- "Each new clock value stands in its comparison to the constant, or to the old y plus offset"; a kept clock has its old value
abbrev pub allowed_byb : ℕ → List ℕ → ℕ → ℕ → ℕ → Action → Bool
allowed_byb D v z x cmp keep = eqb x (at v z)
allowed_byb D v z x cmp (constant k) = holds cmp x (k * D)
allowed_byb D v z x cmp (clock y up down) = holds cmp (x + down * D) (at v y + up * D)

-- so of each clock
abbrev pub allowedb : ℕ → List ℕ → List ℕ → List Update → Bool
allowedb D v v' us = allb (length v) (λ (z : ℕ). allowed_byb D v z (at v' z) (get_or us z idle).comparison (get_or us z idle).action)

-- "steps in order, 10 to 12 in each": the state after the steps
unfoldable pub steps_taken : Table → ℕ → ℕ → State → List Move → Reader State
steps_taken T D place s [] = done s
steps_taken T D place s (m ∷ ms) = do
  require 10 place (eqb s.location (edge T m.number).source)
  require 11 place (guardedb D (later m.delay s.values) (edge T m.number).guards)
  require 12 place (allowedb D (later m.delay s.values) m.values (edge T m.number).updates)
  steps_taken T D (place + 1) (after T m) ms

-- "It starts in the initial location with all clocks 0"; "The run ends in a location that isn't final (place: step count)"
unfoldable pub run_checked : Table → Reader RunList
run_checked T = do
  r ← run_file T
  s ← steps_taken T r.scale 1 (first T) r.moves
  require 13 (length r.moves) (final T s.location)
  done r

-- "All calls check 1 to 6 first"; "Acceptance carries the count of steps"
unfoldable pub run_answer : List ℕ → List ℕ → Answer
run_answer table file = answered (λ (r : RunList). length r.moves) (carry (admitted table) (λ T _. run_checked T file))
