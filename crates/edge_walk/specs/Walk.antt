-- The walk from one of an edge's next rows to the one after it. Assumes nothing.
use Rattle.std.specs.Prelude.{Bool, true, cond, List, [], ◌∷◌}
use Rattle.std.proofs.Math.Option.{Option, none, some}
use Rattle.automata.specs.Row.{Row}
use Rattle.automata.specs.Checks.{belowb}

-- the row is above the floor; every row is above none
abbrev pub above : Option Row → Row → Bool
above none r = true
above (some floor) r = belowb floor r

-- the first of the rows that is above the floor
unfoldable pub first_above : Option Row → List Row → Option Row
first_above floor [] = none
first_above floor (r ∷ rows) = let further : Option Row = first_above floor rows in cond (above floor r) (some r) further
