-- The six comparisons: one table, used by guards, run values and region moves. Assumes nothing.
use Prim.Native.Nat.{ℕ, compare, Ordering}
use Rattle.std.specs.Prelude.{Bool, true, false, not, ◌&&◌, ◌||◌, List, [], ◌∷◌, length, get_or}

-- "0 <, 1 ≤, 2 =, 3 ≥, 4 >, each with its yes or no for below, at and above"; "Comparison 5 is ≠, true below and above"
abbrev pub answers : List (List Bool)
answers =
    (true ∷ false ∷ false ∷ [])
    ∷ (true ∷ true ∷ false ∷ [])
    ∷ (false ∷ true ∷ false ∷ [])
    ∷ (false ∷ true ∷ true ∷ [])
    ∷ (false ∷ false ∷ true ∷ [])
    ∷ (true ∷ false ∷ true ∷ [])
    ∷ []

-- how many there are, numbered from 0
abbrev pub comparisons : ℕ
comparisons = length answers

-- the one to keep by: =
abbrev pub equal : ℕ
equal = 2

-- the ones that allow one side alone, what is below and what is above: < and >
abbrev pub below : ℕ
below = 0

abbrev pub above : ℕ
above = 4

-- the place of an order in a row of that table: below, at, above
abbrev pub place : Ordering → ℕ
place Ordering.lt = 0
place Ordering.eq = 1
place Ordering.gt = 2

-- what a comparison answers to an order
unfoldable pub answer : ℕ → Ordering → Bool
answer cmp o = get_or (get_or answers cmp []) (place o) false

-- x stands in the comparison to y
unfoldable pub holds : ℕ → ℕ → ℕ → Bool
holds cmp x y = answer cmp (compare x y)

-- whether the comparison allows some order
unfoldable pub some_answer : ℕ → Bool
some_answer cmp = answer cmp Ordering.lt || answer cmp Ordering.eq || answer cmp Ordering.gt

-- whether it allows no order but "at", so that one value is asked for
unfoldable pub at_alone : ℕ → Bool
at_alone cmp = answer cmp Ordering.eq && not (answer cmp Ordering.lt || answer cmp Ordering.gt)

-- whether it allows both sides and not "at", so that any value but one is asked for
unfoldable pub sides_alone : ℕ → Bool
sides_alone cmp = answer cmp Ordering.lt && answer cmp Ordering.gt && not (answer cmp Ordering.eq)
