-- How the follower writes rows. Assumes nothing.
use Rattle.std.specs.Prelude.{ℕ, ◌≤◌, ◌<◌, ◌≡◌, Bool, cond, List, [], ◌∷◌, ◌++◌, length, drop}
use Rattle.automata.specs.Clocks.{at}
use Rattle.automata.specs.Row.{Row}
use Rattle.regions.specs.declared.clocks.Clocks as clocks_code
use Rattle.calls.specs.RegionFile.{rows_bytes}

-- the bounds are those of a table file, so that intervals are bytes
abbrev pub Low : clocks_code.Clocks → Type 0
Low k = (z : ℕ) → z < k.count → at k.bounds z ≤ 127

-- the buffer after is the buffer before with the rows written to its front
abbrev pub Holds : List Row → List ℕ → List ℕ → Type 0
Holds rows before after = after ≡ rows_bytes rows ++ drop (length (rows_bytes rows)) before

-- one row, or none
abbrev pub row_if : Bool → Row → List Row
row_if b r = cond b (r ∷ []) []
