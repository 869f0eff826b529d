-- A guard is decided by the row: a clock compares with a whole constant as its interval does with twice that. Assumes nothing.
use Prim.Native.Nat.{ℕ, suc, ◌*◌, ◌≤◌, ◌<◌, compare}
use native.Mathlib.Omega.{arith}
use mathlib.Core.Path.{◌≡◌, refl, sym, ap, ◌∙◌}
use mathlib.Core.List.{List, [], ◌∷◌}
use lib.ListN.{length}
use Rattle.automata.specs.Comparison.{holds, answer}
use Rattle.automata.specs.Clocks.{at}
use Rattle.automata.specs.Row.{Row}
use Rattle.automata.specs.Point.{Within, Contains}
use Rattle.automata.specs.Edge.{Guard, Guarded, GuardsIn}
use Rattle.automata.specs.Successors.{guardsb}
use Rattle.automata.proofs.Laws.Tests.{Says, and_law}
use Rattle.automata.proofs.Laws.Clocks.{within_range}
use Rattle.automata.proofs.Laws.Sides.{sides, compare_constant}

pub within_compare : (D c j x k : ℕ) → 0 < D → k ≤ c → Within D c j x → compare x (k * D) ≡ compare j (2 * k)
within_compare D c j x k p b i = compare_constant D c j x k p (sides D c j x p i) (within_range D c j x i) b

module _ (c : List ℕ) (D : ℕ) (v : List ℕ) (r : Row) (i : Contains c D v r) where
  pub guard_holds : (cmp z k : ℕ) → z < length c → k ≤ at c z → holds cmp (at v z) (k * D) ≡ holds cmp (at r.intervals z) (2 * k)
  unfolding holds
  guard_holds cmp z k h b = ap (answer cmp) (within_compare D (at c z) (at r.intervals z) (at v z) k i.positive b (i.within z h))

  -- GUARDS
  pub guards_law : (gs : List Guard) → GuardsIn c gs → Says (guardsb r gs) (Guarded D v gs)
  unfolding guardsb
  guards_law [] b = (λ e. tt, λ t. refl)
  guards_law (g ∷ gs) b =
      let (h, k) = b 0 (omega arith) g in
      let e = guard_holds g.comparison g.clock g.constant h k in
      and_law (holds g.comparison (at r.intervals g.clock) (2 * g.constant)) (guardsb r gs) (λ q. e ∙ q, λ q. sym e ∙ q)
      (guards_law gs (λ n l. b (suc n) (omega arith)))
