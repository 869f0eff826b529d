-- The next row by an edge whose updates leave one value for each clock: computed, not searched. Assumes nothing.
use Rattle.std.specs.Prelude.{ℕ, ◌-◌, ◌%◌, min, Bool, false, cond, ◌&&◌, List, length, get_or, eqb, leb, ltb}
use Rattle.std.proofs.Math.Option.{Option, none, some}
use Rattle.automata.specs.Comparison.{at_alone}
use Rattle.automata.specs.Clocks.{at, each, allb, count}
use Rattle.automata.specs.Row.{Row}
use Rattle.automata.specs.Rankings.{usedb}
use Rattle.automata.specs.Edge.{Update, Edge, idle}
use Rattle.automata.specs.Successors.{comparison_of}
use Rattle.regions.specs.Move.{move_of}
use Rattle.regions.specs.declared.clock_move.Move.{Move}

-- edges with one next row at most -----------------------------------------------------------------------------------------------

-- the update asks for one value: the old one, or that of a constant or of a clock plus an offset
unfoldable pub settledb : Update → Bool
settledb u = at_alone (comparison_of u.comparison u.action)

-- the update of clock z asks for one value
abbrev pub settled_at : Edge → ℕ → Bool
settled_at e z = settledb (get_or e.updates z idle)

-- the updates of all n clocks do
unfoldable pub deterministic : ℕ → Edge → Bool
deterministic n e = allb n (settled_at e)

-- one clock ---------------------------------------------------------------------------------------------------------------------

-- the new value is not below 0
abbrev pub reachesb : Move → Bool
reachesb m = leb m.shift m.reference

-- the new interval: the old clock's with the offset, and no higher than the top
unfoldable pub moved_interval : Move → ℕ
moved_interval m = min (m.reference - m.shift) m.top

-- the old rank of the new part, which is the old clock's: a whole offset leaves it. 0 where the new interval is not open
unfoldable pub moved_rank : Move → ℕ
moved_rank m = cond (ltb (moved_interval m) m.top && eqb (moved_interval m % 2) 1) m.rank 0

-- all clocks --------------------------------------------------------------------------------------------------------------------

-- the move of clock z by the edge
abbrev pub edge_move : List ℕ → Edge → Row → ℕ → Move
edge_move c e r z = move_of c r z (get_or e.updates z idle)

abbrev pub reaches_at : List ℕ → Edge → Row → ℕ → Bool
reaches_at c e r z = reachesb (edge_move c e r z)

abbrev pub interval_at : List ℕ → Edge → Row → ℕ → ℕ
interval_at c e r z = moved_interval (edge_move c e r z)

abbrev pub rank_at : List ℕ → Edge → Row → ℕ → ℕ
rank_at c e r z = moved_rank (edge_move c e r z)

-- the new intervals, and beside them the old ranks of the new parts: some of these can be missing; none if a value would be below 0
unfoldable pub moved : List ℕ → Edge → Row → Option Row
moved c e r =
    cond (allb (length c) (reaches_at c e r))
    (some (record { location = e.target; intervals = each (length c) (interval_at c e r); ranks = each (length c) (rank_at c e r) })) none

-- ranks with none missing -------------------------------------------------------------------------------------------------------

-- a table of ranks says that a is used
abbrev pub marked : List Bool → ℕ → Bool
marked used a = get_or used a false

-- how many of the ranks 1 .. a are used
unfoldable pub dense_rank : List ℕ → ℕ → ℕ → ℕ
dense_rank ks n a = count (usedb ks n) a

abbrev pub dense_at : List ℕ → ℕ → ℕ → ℕ
dense_at ks n z = dense_rank ks n (at ks z)

-- the ranks of n clocks in the same order, with none missing
unfoldable pub dense : List ℕ → ℕ → List ℕ
dense ks n = each n (dense_at ks n)

-- the next row ------------------------------------------------------------------------------------------------------------------

abbrev pub ranked : ℕ → Option Row → Option Row
ranked n none = none
ranked n (some r) = some (record { location = r.location; intervals = r.intervals; ranks = dense r.ranks n })

-- the row that the edge leads to, if there is one
unfoldable pub image : List ℕ → Edge → Row → Option Row
image c e r = ranked (length c) (moved c e r)
