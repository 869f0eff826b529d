-- One clock: its interval is even, open or the top; what each says of the value. Assumes nothing.
use Prim.Native.Nat.{ℕ, ◌+◌, ◌*◌, ◌≤◌, ◌<◌, ◌%◌, ◌/◌}
use native.Mathlib.Decide.{ℕ_discrete}
use native.Mathlib.Omega.{arith}
use mathlib.Core.Path.{◌≡◌, ap}
use mathlib.Core.Logic.{◌⊎◌, inl, inr}
use lib.Dec.{eqb, leb, ltb}
use Rattle.automata.specs.Row.{Even, Open, Top}
use Rattle.automata.specs.Point.{Within}
use Rattle.automata.specs.Wait.{evenb, entersb}
use Rattle.automata.specs.Rows.{openb}
use Rattle.automata.proofs.Laws.Tests.{Says, either, and_law, eqb_law, leb_law, ltb_law}

-- intervals ---------------------------------------------------------------------------------------------------------------------------

pub data Kind (c j : ℕ) : Type 0 where
  is_even : Even c j → Kind c j
  is_open : Open c j → Kind c j
  is_top : Top c j → Kind c j

pub kind : (c j : ℕ) → j ≤ 2 * c + 1 → Kind c j
kind c j h = go (ℕ_discrete (j % 2) 0) (ℕ_discrete j (2 * c + 1))
  where
    go : Dec (j % 2 ≡ 0) → Dec (j ≡ 2 * c + 1) → Kind c j
    go (yes e) d = is_even (omega arith)
    go (no e) (yes t) = is_top t
    go (no e) (no t) = is_open (omega arith)

pub evenb_law : (c j : ℕ) → Says (evenb c j) (Even c j)
unfolding evenb
evenb_law c j = and_law (leb j (2 * c)) (eqb (j % 2) 0) (leb_law j (2 * c)) (eqb_law (j % 2) 0)

pub entersb_law : (c j : ℕ) → Says (entersb c j) ((j < 2 * c) × (j % 2 ≡ 0))
unfolding entersb
entersb_law c j = and_law (ltb j (2 * c)) (eqb (j % 2) 0) (ltb_law j (2 * c)) (eqb_law (j % 2) 0)

pub openb_law : (c j : ℕ) → Says (openb c j) (Open c j)
unfolding openb
openb_law c j = and_law (ltb j (2 * c)) (eqb (j % 2) 1) (ltb_law j (2 * c)) (eqb_law (j % 2) 1)

pub open_or_not : (c j : ℕ) → (Open c j → ⊥) ⊎ Open c j
open_or_not c j = either (openb c j) (openb_law c j)

-- the value ---------------------------------------------------------------------------------------------------------------------------

pub within_range : (D c j x : ℕ) → Within D c j x → j ≤ 2 * c + 1
within_range D c j x (inl p) = omega arith
within_range D c j x (inr (inl p)) = omega arith
within_range D c j x (inr (inr p)) = omega arith

pub within_even : (D c j x : ℕ) → Within D c j x → Even c j → x ≡ j / 2 * D
within_even D c j x (inl p) e = p.1
within_even D c j x (inr (inl p)) e = absurd (omega arith)
within_even D c j x (inr (inr p)) e = absurd (omega arith)

pub within_open : (D c j x : ℕ) → Within D c j x → Open c j → (j / 2 * D < x) × (x < j / 2 * D + D)
within_open D c j x (inl p) o = absurd (omega arith)
within_open D c j x (inr (inl p)) o = (p.1, p.2)
within_open D c j x (inr (inr p)) o = absurd (omega arith)

pub within_top : (D c j x : ℕ) → Within D c j x → Top c j → c * D < x
within_top D c j x (inl p) t = absurd (omega arith)
within_top D c j x (inr (inl p)) t = absurd (omega arith)
within_top D c j x (inr (inr p)) t = p.1

-- where interval j begins
pub begins : (D j h : ℕ) → j / 2 ≡ h → j / 2 * D ≡ h * D
begins D j h e = ap (λ (n : ℕ). n * D) e
