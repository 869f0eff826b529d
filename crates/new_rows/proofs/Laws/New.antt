-- What is found of some next rows. Assumes nothing.
use Prim.Native.Nat.{ℕ}
use mathlib.Core.Path.{◌≡◌, refl, ap, subst}
use mathlib.Core.Bool.{Bool, true}
use mathlib.Core.Option.{none}
use mathlib.Core.List.{List, [], ◌∷◌}
use Rattle.automata.specs.Row.{Row}
use Rattle.automata.specs.Rows.{select}
use Rattle.regions.specs.declared.region.Region.{Region}
use Rattle.std.specs.declared.option.Option as option_code
use Rattle.std.specs.Prelude.{None, Some, is_some}
use Rattle.edge_walk.specs.Walk.{above}
use Rattle.new_rows.specs.New.{NewOf}
use Rattle.automata.proofs.Laws.Tests.{never}
use Rattle.automata.proofs.Laws.Members.{select_out}

-- the same next rows
pub new_same : (n : ℕ) (next rows : List Row) (o : option_code.Option Region) (next' : List Row) → next ≡ next' → NewOf n next rows o → NewOf n next' rows o
new_same n next rows o next' e = subst (λ (l : List Row). NewOf n l rows o) e

-- no next rows: nothing is new
pub new_nothing : (n : ℕ) (next rows : List Row) → [] ≡ next → NewOf n next rows None
new_nothing n next rows e = new_same n [] rows None next e refl

-- of those that pass a test: what is found is one of all
pub new_among : (n : ℕ) (next rows : List Row) (p : Row → Bool) (o : option_code.Option Region) → is_some o ≡ true → NewOf n (select p next) rows o → NewOf n next rows o
new_among n next rows p None e N = never e
new_among n next rows p (Some v) e N = ((select_out p next N.0).0, N.1)

-- all are above no floor
pub above_none : (next : List Row) → select (above none) next ≡ next
above_none [] = refl
above_none (x ∷ xs) = ap (λ (l : List Row). x ∷ l) (above_none xs)
