-- How far an edge leads from a row, as numbers: for each clock the ends of what its update allows. Assumes nothing.
use Prim.Native.Nat.{Ordering}
use Rattle.std.specs.Prelude.{ℕ, ◌+◌, ◌*◌, ◌-◌, ◌<◌, ◌≡◌, Bool, cond, not, ◌&&◌, List, length, get_or, leb, ltb}
use Rattle.automata.specs.Comparison.{answer}
use Rattle.automata.specs.Clocks.{at, allb}
use Rattle.automata.specs.Row.{Row}
use Rattle.skylines.specs.declared.reach.Reach.{Reach}
use Rattle.automata.specs.Edge.{Action, keep, constant, clock, idle, Edge}

-- a place among a clock's values ------------------------------------------------------------------------------------------------

-- a clock in interval i, plus up less down, is below 0: every new value is above it
abbrev pub underb : ℕ → ℕ → ℕ → Bool
underb i up down = ltb (i + 2 * up) (2 * down)

-- .. is at the top of a clock with bound b or past it: every new interval but the top is below it, and at the top any order can be had
abbrev pub overb : ℕ → ℕ → ℕ → ℕ → Bool
overb b i up down = leb (2 * b + 1 + 2 * down) (i + 2 * up)

-- its place among the values of a clock with bound b, by its interval and its rank q, which is below 5: one place for all that is below them, and one for all
-- that is at the top or past it
unfoldable pub place : ℕ → ℕ → ℕ → ℕ → ℕ → ℕ
place b i q up down = cond (underb i up down) 0 (cond (overb b i up down) (5 * (2 * b + 2)) (5 * (i + 2 * up - 2 * down + 1) + q))

-- the place of clock y of a row, plus up less down, among the values of clock z
abbrev pub place_of : List ℕ → Row → ℕ → ℕ → ℕ → ℕ → ℕ
place_of c r z y up down = place (at c z) (at r.intervals y) (at r.ranks y) up down

-- ends --------------------------------------------------------------------------------------------------------------------------

-- a comparison allows one side and refuses the other. Where both are allowed or neither is, an order of places tells nothing, and they have to be the same
unfoldable pub upb : ℕ → Bool
upb cmp = answer cmp Ordering.gt && not (answer cmp Ordering.lt)

unfoldable pub downb : ℕ → Bool
downb cmp = answer cmp Ordering.lt && not (answer cmp Ordering.gt)

-- the lower end of what the update of clock z allows from a row: the same for all rows where only what is below is allowed, and for a constant
unfoldable pub low_end : List ℕ → Row → ℕ → ℕ → Action → ℕ
low_end c r z cmp keep = place_of c r z z 0 0
low_end c r z cmp (constant k) = 0
low_end c r z cmp (clock y up down) = cond (downb cmp) 0 (place_of c r z y up down)

-- the upper end
unfoldable pub high_end : List ℕ → Row → ℕ → ℕ → Action → ℕ
high_end c r z cmp keep = place_of c r z z 0 0
high_end c r z cmp (constant k) = 0
high_end c r z cmp (clock y up down) = cond (upb cmp) 0 (place_of c r z y up down)

-- the ends of the update of clock z of an edge
abbrev pub low_at : List ℕ → Edge → Row → ℕ → ℕ
low_at c e r z = low_end c r z (get_or e.updates z idle).comparison (get_or e.updates z idle).action

abbrev pub high_at : List ℕ → Edge → Row → ℕ → ℕ
high_at c e r z = high_end c r z (get_or e.updates z idle).comparison (get_or e.updates z idle).action

-- reaches -----------------------------------------------------------------------------------------------------------------------

-- four lower ends, four upper ends, of which the first ones are the clocks', and the number of the row among others
pub record ReachOf (c : List ℕ) (e : Edge) (r : Row) (i : ℕ) (m : Reach) : Type 0 where
  pub low : (z : ℕ) → z < length c → at m.lows z ≡ low_at c e r z
  pub high : (z : ℕ) → z < length c → at m.highs z ≡ high_at c e r z
  pub number : m.row ≡ i

-- the ends of n clocks lie within those of another reach
unfoldable pub withinb : ℕ → Reach → Reach → Bool
withinb n a b = allb n (λ (z : ℕ). leb (at b.lows z) (at a.lows z) && leb (at a.highs z) (at b.highs z))
