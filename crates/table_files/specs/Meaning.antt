-- What admission means: the limits that an admitted table keeps. Assumes nothing.
use Rattle.std.specs.Prelude.{ℕ, ◌≤◌, ◌<◌, ◌≡◌, List, length}
use Rattle.automata.specs.Clocks.{at}
use Rattle.automata.specs.Automaton.{Table, clocks}
use Rattle.table_files.specs.Answer.{accepted}
use Rattle.table_files.specs.Admission.{admission}

-- the table file is admitted
abbrev pub Passes : List ℕ → Type 0
Passes table = (records : ℕ) × (admission table ≡ accepted records)

-- document 01's limits on a table's header and counts: "clocks n (1 to 4), locations L (1 to 64), .. edges E (.. 0 to 256), then n bounds (0 to 127)"
pub record Limits (T : Table) : Type 0 where
  pub some_clock : 1 ≤ clocks T
  pub few_clocks : clocks T ≤ 4
  pub some_location : 1 ≤ T.locations
  pub few_locations : T.locations ≤ 64
  pub finals_length : length T.finals ≡ T.locations
  pub few_edges : length T.edges ≤ 256
  pub low_bounds : (z : ℕ) → z < clocks T → at T.bounds z ≤ 127
