-- How many rows have the same location and intervals: as many as there are ways to rank the clocks whose intervals are open. How many ranks there
-- can be. Assumes nothing.
use Rattle.std.specs.Prelude.{ℕ, zero, suc, ◌+◌, Bool, cond, not, ◌&&◌, List, eqb, ltb}
use Rattle.automata.specs.Clocks.{at, someb, one_if}
use Rattle.automata.specs.Rows.{openb}

-- how many of the first n clocks have open intervals, for bounds c and intervals js
unfoldable pub open_clocks : List ℕ → List ℕ → ℕ → ℕ
open_clocks c js zero = 0
open_clocks c js (suc z) = open_clocks c js z + one_if (openb (at c z) (at js z))

-- in how many ways up to four clocks can have "ranks 1, 2, .. with none missing"
unfoldable pub rankings : ℕ → ℕ
rankings zero = 1
rankings (suc zero) = 1
rankings (suc (suc zero)) = 3
rankings (suc (suc (suc zero))) = 13
rankings (suc (suc (suc (suc k)))) = 75

-- some of the first n clocks has rank a
unfoldable pub usedb : List ℕ → ℕ → ℕ → Bool
usedb ks n a = someb n (λ (w : ℕ). eqb (at ks w) a)

-- clock w has a rank above 0 that no clock before it has
unfoldable pub newb : List ℕ → ℕ → Bool
newb ks w = ltb 0 (at ks w) && not (usedb ks w (at ks w))

-- how many ranks n clocks can have with none missing, where the first z have those of ks: as many as these are, and one for each other clock
-- with an open interval
unfoldable pub rank_room : List ℕ → List ℕ → List ℕ → ℕ → ℕ → ℕ
rank_room c js ks z zero = 0
rank_room c js ks z (suc w) = rank_room c js ks z w + one_if (cond (ltb w z) (newb ks w) (openb (at c w) (at js w)))
