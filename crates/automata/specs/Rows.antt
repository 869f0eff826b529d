-- All rows of a location, as a list that computes. Assumes nothing.
use Rattle.std.specs.Prelude.{ℕ, zero, suc, ◌+◌, ◌*◌, ◌%◌, Bool, cond, not, ◌&&◌, ◌||◌, List, [], ◌∷◌, ◌++◌, map, length, eqb, leb, ltb}
use Rattle.automata.specs.Clocks.{at, allb, someb}
use Rattle.automata.specs.Row.{Row}

-- whether a row is one ----------------------------------------------------------------------------------------------------------

-- one clock has an open interval
unfoldable pub openb : ℕ → ℕ → Bool
openb c j = ltb j (2 * c) && eqb (j % 2) 1

-- rank k is 0, or some clock has it
unfoldable pub heldb : List ℕ → Row → ℕ → Bool
heldb c r k = not (ltb 0 k) || someb (length c) (λ (w : ℕ). eqb (at r.ranks w) k)

-- clock z's interval is in range, its rank is above 0 just where that is open, and no rank below it is missing
unfoldable pub clockb : List ℕ → Row → ℕ → Bool
clockb c r z =
    leb (at r.intervals z) (2 * at c z + 1)
    && cond (openb (at c z) (at r.intervals z)) (ltb 0 (at r.ranks z)) (eqb (at r.ranks z) 0)
    && allb (at r.ranks z) (heldb c r)

-- every clock is as a row asks
unfoldable pub isrowb : List ℕ → Row → Bool
isrowb c r = eqb (length r.intervals) (length c) && eqb (length r.ranks) (length c) && allb (length c) (clockb c r)

-- lists -------------------------------------------------------------------------------------------------------------------------

-- a, a + 1, .., so many numbers
abbrev pub from : ℕ → ℕ → List ℕ
from a zero = []
from a (suc n) = a ∷ from (a + 1) n

-- those that pass a test, in their order
abbrev pub select : {A : Type 0} → (A → Bool) → List A → List A
select p [] = []
select {A} p (x ∷ xs) = let rest : List A = select p xs in cond (p x) (x ∷ rest) rest

-- the lists of all the elements, one after the other
abbrev pub gather : {A B : Type 0} → (A → List B) → List A → List B
gather f [] = []
gather f (x ∷ xs) = f x ++ gather f xs

-- one number of each of f 0, f 1, .., so many, in all ways
abbrev pub choices : (ℕ → List ℕ) → ℕ → List (List ℕ)
choices f zero = [] ∷ []
choices f (suc n) = gather (λ (x : ℕ). map (λ (xs : List ℕ). x ∷ xs) (choices (λ (z : ℕ). f (suc z)) n)) (f 0)

-- rows --------------------------------------------------------------------------------------------------------------------------

-- intervals 0 to 2c(z)+1, clock by clock
abbrev pub interval_lists : List ℕ → List (List ℕ)
interval_lists c = choices (λ (z : ℕ). from 0 (2 * at c z + 2)) (length c)

-- rank 0 where the interval is not open, else 1 to n, clock by clock
abbrev pub rank_lists : List ℕ → List ℕ → List (List ℕ)
rank_lists c js = choices (λ (z : ℕ). cond (openb (at c z) (at js z)) (from 1 (length c)) (0 ∷ [])) (length c)

-- all rows of location l, ascending
unfoldable pub rows_at : List ℕ → ℕ → List Row
rows_at c l =
    select (isrowb c)
    (gather (λ (js : List ℕ). map (λ (ks : List ℕ). record { location = l; intervals = js; ranks = ks }) (rank_lists c js)) (interval_lists c))
