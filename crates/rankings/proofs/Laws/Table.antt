-- The table of all rankings of up to four clocks, as the code has it: that it has just those with none missing, by computation. Assumes nothing.
use Prim.Native.Nat.{ℕ, zero, suc, ◌+◌, ◌-◌, ◌≤◌}
use native.Mathlib.Omega.{arith}
use mathlib.Core.Path.{◌≡◌, refl}
use mathlib.Core.Bool.{Bool, true, false, ◌&&◌}
use mathlib.Core.List.{List, [], ◌∷◌, map}
use lib.ListN.{length, get_or, take, drop}
use Rattle.automata.specs.Clocks.{at, allb, someb}
use Rattle.automata.specs.Checks.{same}
use Rattle.regions.specs.Values.{padded}
use Rattle.rankings.specs.Ranking.{pattern}
use Rattle.rankings.specs.Table.{starts, table}
use Rattle.automata.proofs.Laws.Tests.{never, and_law}
use Rattle.automata.proofs.Laws.Checks.{same_law}
use Rattle.automata.proofs.Laws.Rankings.{fullb, ranked, each_way}

pub table_long : length table ≡ 150
unfolding table
table_long = refl

-- two lists of lists are equal
abbrev sames : List (List ℕ) → List (List ℕ) → Bool
sames [] [] = true
sames [] (y ∷ ys) = false
sames (x ∷ xs) [] = false
sames (x ∷ xs) (y ∷ ys) = same x y && sames xs ys

sames_same : (xs ys : List (List ℕ)) → sames xs ys ≡ true → xs ≡ ys
sames_same [] [] h = refl
sames_same [] (y ∷ ys) h = never h
sames_same (x ∷ xs) [] h = never h
sames_same (x ∷ xs) (y ∷ ys) h =
    let (p, q) = (and_law (same x y) (sames xs ys) (same_law x y) (λ (t : sames xs ys ≡ true). t, λ (t : sames xs ys ≡ true). t)).0 h in
    let e : xs ≡ ys = sames_same xs ys q in
    λ i. p i ∷ e i

-- the rankings of a choice of open clocks, as the table has them
abbrev pub listed : ℕ → List (List ℕ)
listed m = take (at starts (m + 1) - at starts m) (drop (at starts m) table)

-- whether the table has the rankings of n clocks, of which those are open that the answers say
abbrev tabled : ℕ → List Bool → Bool
tabled n bs = let p : ℕ → Bool = λ (z : ℕ). get_or bs z false in sames (map padded (ranked n p)) (listed (pattern p n))

-- all choices of up to four clocks
pub all_tabled : (p : ℕ → Bool) (n : ℕ) → n ≤ 4 → map padded (ranked n p) ≡ listed (pattern p n)
unfolding pattern fullb allb someb starts table
all_tabled p zero h = refl
all_tabled p (suc zero) h = sames_same _ _ (each_way 1 (tabled 1) refl (p 0 ∷ []) refl)
all_tabled p (suc (suc zero)) h = sames_same _ _ (each_way 2 (tabled 2) refl (p 0 ∷ p 1 ∷ []) refl)
all_tabled p (suc (suc (suc zero))) h = sames_same _ _ (each_way 3 (tabled 3) refl (p 0 ∷ p 1 ∷ p 2 ∷ []) refl)
all_tabled p (suc (suc (suc (suc zero)))) h = sames_same _ _ (each_way 4 (tabled 4) refl (p 0 ∷ p 1 ∷ p 2 ∷ p 3 ∷ []) refl)
all_tabled p (suc (suc (suc (suc (suc n))))) h = absurd (omega arith)
