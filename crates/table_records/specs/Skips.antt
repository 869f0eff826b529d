-- Records one after the other, by position: `after` says where the record after one begins. Assumes nothing.
use Rattle.std.specs.Prelude.{ℕ, zero, suc, List, [], ◌∷◌}

-- where the record after i others begins
unfoldable pub skip : (ℕ → ℕ) → ℕ → ℕ → ℕ
skip after zero p = p
skip after (suc i) p = skip after i (after p)

-- what m records say
unfoldable pub values : {A : Type 0} → (ℕ → A) → (ℕ → ℕ) → ℕ → ℕ → List A
values value after zero p = []
values value after (suc m) p = value p ∷ values value after m (after p)

-- what holds of where each of m records begins
unfoldable pub AllAt : (ℕ → Type 0) → (ℕ → ℕ) → ℕ → ℕ → Type 0
AllAt P after zero p = Unit {0}
AllAt P after (suc m) p = P p × AllAt P after m (after p)
