-- The next rows of a row, as lists that compute: by waiting, and by an edge. Assumes nothing.
use Prim.Native.Nat.{ℕ, zero, suc, ◌+◌, ◌*◌, ◌-◌, ◌%◌, compare, Ordering}
use Rattle.std.specs.Prelude.{Bool, true, cond, not, ◌&&◌, ◌||◌, List, [], ◌∷◌, length, get_or, eqb, leb}
use Rattle.std.proofs.Math.Option.{Option, none, some}
use Rattle.automata.specs.Comparison.{equal, answer, holds, some_answer}
use Rattle.automata.specs.Clocks.{at, allb, greatest}
use Rattle.automata.specs.Row.{Row}
use Rattle.automata.specs.Wait.{wait}
use Rattle.automata.specs.Edge.{Guard, Action, keep, constant, clock, Update, idle, Edge}
use Rattle.automata.specs.Rows.{isrowb, select, rows_at}

-- "a row .. where its guards hold": each interval against twice the constant
unfoldable pub guardsb : Row → List Guard → Bool
guardsb r [] = true
guardsb r (g ∷ gs) = holds g.comparison (at r.intervals g.clock) (2 * g.constant) && guardsb r gs

-- one clock's update ------------------------------------------------------------------------------------------------------------

-- what the rows tell of the order of a new value to what it is compared with: the order; nothing, for any order can be had;
-- or that it is the order of the new fractional part to those of old rank q
pub data Rel : Type 0 where
  fixed : Ordering → Rel
  free : Rel
  parts : ℕ → Rel

-- t is the top interval, j the new one, J and I the new and the old one with the offsets, q the old rank
unfoldable pub relation : ℕ → ℕ → ℕ → ℕ → ℕ → Rel
relation t j J I q = cond (eqb j t && leb J I) free (cond (eqb J I && eqb (j % 2) 1) (parts q) (fixed (compare J I)))

-- clock z, new in interval j, against clock y plus up less down
abbrev pub rel_clock : List ℕ → Row → ℕ → ℕ → ℕ → ℕ → ℕ → Rel
rel_clock c r z j y up down = relation (2 * at c z + 1) j (j + 2 * down) (at r.intervals y + 2 * up) (at r.ranks y)

-- clock z, new in interval j, against what its update names
abbrev pub rel : List ℕ → Row → ℕ → ℕ → Action → Rel
rel c r z j keep = rel_clock c r z j z 0 0
rel c r z j (constant k) = fixed (compare j (2 * k))
rel c r z j (clock y up down) = rel_clock c r z j y up down

-- to keep is to be equal
abbrev pub comparison_of : ℕ → Action → ℕ
comparison_of cmp keep = equal
comparison_of cmp (constant k) = cmp
comparison_of cmp (clock y up down) = cmp

-- the comparison allows what is known, for a new part at position p: 2 q - 1 is at rank q's part, 2 q between that and the next
unfoldable pub fits : ℕ → Rel → ℕ → Bool
fits cmp (fixed o) p = answer cmp o
fits cmp free p = some_answer cmp
fits cmp (parts q) p = answer cmp (compare (p + 1) (2 * q))

-- the update of clock z allows its new interval, and its new part at position p
unfoldable pub clock_fits : List ℕ → Edge → Row → Row → ℕ → ℕ → Bool
clock_fits c e r r' z p =
    let u : Update = get_or e.updates z idle in
    fits (comparison_of u.comparison u.action) (rel c r z (at r'.intervals z) u.action) p

-- all clocks --------------------------------------------------------------------------------------------------------------------

-- the clocks of new rank a fit at position p
unfoldable pub rank_fits : List ℕ → Edge → Row → Row → ℕ → ℕ → Bool
rank_fits c e r r' a p = allb (length c) (λ (z : ℕ). not (eqb (at r'.ranks z) a) || clock_fits c e r r' z p)

-- the least number from s on that passes, s + n if none before that does
unfoldable pub least : (ℕ → Bool) → ℕ → ℕ → ℕ
least t zero s = s
least t (suc n) s = let further : ℕ = least t n (suc s) in cond (t s) s further

-- the least position for new rank a after those of the ranks before; past 2 m, for m old ranks, if there is none
unfoldable pub greedy : List ℕ → Edge → Row → Row → ℕ → ℕ
greedy c e r r' zero = 0
greedy c e r r' (suc a) =
    let g : ℕ = greedy c e r r' a in
    least (rank_fits c e r r' (suc a)) (2 * greatest r.ranks + 1 - (g + g % 2)) (g + g % 2)

-- the new ranks have positions among the old ones where every clock fits
unfoldable pub placedb : List ℕ → Edge → Row → Row → Bool
placedb c e r r' = rank_fits c e r r' 0 0 && leb (greedy c e r r' (greatest r'.ranks)) (2 * greatest r.ranks)

-- "An edge leads from a row in its source location, where its guards hold, to each row in its target .."; `Leads` in Edge.antt says it of points
unfoldable pub leadsb : List ℕ → Edge → Row → Row → Bool
leadsb c e r r' = eqb r.location e.source && eqb r'.location e.target && guardsb r e.guards && isrowb c r' && placedb c e r r'

-- next rows ---------------------------------------------------------------------------------------------------------------------

-- one row or none, as a list
abbrev pub held : Option Row → List Row
held none = []
held (some r) = r ∷ []

-- the next row by waiting, if there is one
unfoldable pub wait_rows : List ℕ → Row → List Row
wait_rows c r = held (wait c r)

-- "all edge rows": the rows that the edge leads to, ascending
unfoldable pub edge_rows : List ℕ → Edge → Row → List Row
edge_rows c e r = select (leadsb c e r) (rows_at c e.target)
