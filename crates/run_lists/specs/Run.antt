-- The run check as the code goes: one pass, each step taken as it is read. Assumes nothing.
use Rattle.std.specs.Prelude.{ℕ, zero, suc, ◌+◌, [], leb}
use Rattle.automata.specs.Automaton.{Table, final}
use Rattle.automata.specs.Run.{State, first}
use Rattle.table_files.specs.Answer.{Answer}
use Rattle.table_files.specs.Bytes.{RN, two}
use Rattle.table_files.specs.Reading.{Read, good, Reader, carry, ◌>>=◌, ◌>>◌, done, next_record, between, require, end, answered}
use Rattle.calls.specs.RunFile.{step_record}
use Rattle.run_lists.specs.Step.{one_more}

-- once all is read: the refusal that stands, or 13, or the count of steps
unfoldable pub concluded : Table → ℕ → Read State → Read ℕ
concluded T steps r = carry r λ s. do
  require 13 steps (final T s.location)
  done steps

-- what is due from here on: the state so far, so many steps left, the first of them at this place. A step that is read is taken at once;
-- its refusal waits until all is read
unfoldable pub steps_from : Table → ℕ → ℕ → ℕ → ℕ → Read State → Reader ℕ
steps_from T D steps place zero r = do
  end 9 (1 + steps)
  λ _. concluded T steps r
steps_from T D steps place (suc k) r = do
  m ← step_record T place
  steps_from T D steps (place + 1) k (one_more T D place r m)

-- the whole list
unfoldable pub run_from : Table → Reader ℕ
run_from T = do
  b ← next_record 7 0 RN 6
  require 8 0 (between 1 10000 (two b 2))
  require 8 0 (leb (two b 4) 2048)
  steps_from T (two b 2) (two b 4) 1 (two b 4) (good (first T) [])

-- the count, or the refusal
abbrev pub counted : Read ℕ → Answer
counted = answered (λ (k : ℕ). k)
