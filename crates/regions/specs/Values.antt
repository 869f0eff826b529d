-- What the code's values stand for: bounds, rows and edges as the definitions have them. Assumes nothing.
use Rattle.std.specs.Prelude.{ℕ, ◌-◌, ◌≤◌, Bool, true, false, List, [], ◌++◌, map, length, take, replicate}
use Rattle.std.proofs.Math.Option.{Option, none, some}
use Rattle.automata.specs.Clocks.{at}
use Rattle.automata.specs.Row.{Row}
use Rattle.automata.specs.Edge.{Guard, Action, keep, constant, clock, Update, Edge}
use Rattle.regions.specs.declared.clocks.Clocks as clocks_code
use Rattle.regions.specs.declared.region.Region.{Region}
use Rattle.regions.specs.declared.edge.Guard as guard_code
use Rattle.regions.specs.declared.edge.Action as action_code
use Rattle.regions.specs.declared.edge.Update as update_code
use Rattle.regions.specs.declared.edge.Edge as edge_code
use Rattle.std.specs.declared.option.Option as option_code

-- clocks ------------------------------------------------------------------------------------------------------------------------

-- the bounds, one a clock
abbrev pub bounds_of : clocks_code.Clocks → List ℕ
bounds_of k = take k.count k.bounds

-- at most four clocks, with bounds whose intervals are numbers of two bytes: the rules do not ask for the file's limit of 127
pub record Few (k : clocks_code.Clocks) : Type 0 where
  pub few : k.count ≤ 4
  pub low : (z : ℕ) → at k.bounds z ≤ 16383

-- regions -----------------------------------------------------------------------------------------------------------------------

-- the row of n clocks that a region is
abbrev pub row_of : ℕ → Region → Row
row_of n r = record { location = r.location; intervals = take n r.intervals; ranks = take n r.ranks }

-- four numbers, zeros after those of the list
abbrev pub padded : List ℕ → List ℕ
padded xs = xs ++ replicate (4 - length xs) 0

-- the region of a row
abbrev pub region_of : Row → Region
region_of r = record { location = r.location; intervals = padded r.intervals; ranks = padded r.ranks }

-- a row, or none
abbrev pub sought : Option Row → option_code.Option Region
sought none = option_code.TheVariants.None
sought (some r) = option_code.TheVariants.Some (region_of r)

-- the row that was found, or none
abbrev pub found_of : ℕ → option_code.Option Region → Option Row
found_of n option_code.TheVariants.None = none
found_of n (option_code.TheVariants.Some r) = some (row_of n r)

-- edges -------------------------------------------------------------------------------------------------------------------------

-- the guard, the update and what it does, field by field
abbrev pub guard_of : guard_code.Guard → Guard
guard_of g = record { clock = g.clock; comparison = g.comparison; constant = g.constant }

abbrev pub action_of : action_code.Action → Action
action_of action_code.TheVariants.Keep = keep
action_of (action_code.TheVariants.Constant k) = constant k
action_of (action_code.TheVariants.Clock y up down) = clock y up down

abbrev pub update_of : update_code.Update → Update
update_of u = record { action = action_of u.action; comparison = u.comparison }

-- the edge of n clocks
abbrev pub edge_of : ℕ → edge_code.Edge → Edge
edge_of n e = record {
  source = e.source;
  target = e.target;
  guards = map guard_of (take e.guard_count e.guards);
  updates = map update_of (take n e.updates);
}
