-- Waiting that changes no interval keeps the row. Assumes nothing.
use Prim.Native.Nat.{ℕ, ◌+◌, ◌≤◌, ◌<◌}
use native.Mathlib.Omega.{arith}
use mathlib.Core.Path.{◌≡◌, ◌∙◌}
use mathlib.Core.List.{List}
use mathlib.Core.Logic.{inl, inr, ◌↔◌}
use lib.ListN.{length}
use Rattle.automata.specs.Clocks.{at}
use Rattle.automata.specs.Row.{Row, Even, Open}
use Rattle.automata.specs.Point.{Within, part, Contains, later}
use Rattle.automata.proofs.Laws.Lists.{at_later, length_later}
use Rattle.automata.proofs.Laws.Clocks.{within_open}

-- after a delay of t, the point is in a row that every clock is in, with ranks in the order of the parts
pub after_delay : (c : List ℕ) (D : ℕ) (v : List ℕ) (t : ℕ) (r r' : Row) → Contains c D v r
    → ((z : ℕ) → z < length c → Within D (at c z) (at r'.intervals z) (at v z + t))
    → ((z w : ℕ) → z < length c → w < length c → Open (at c z) (at r'.intervals z) → Open (at c w) (at r'.intervals w)
    → (at r'.ranks z ≤ at r'.ranks w) ↔ (part D (at r'.intervals z) (at v z + t) ≤ part D (at r'.intervals w) (at v w + t)))
    → Contains c D (later t v) r'
after_delay c D v t r r' i within' ordered' = record {
  positive = i.positive;
  sized = length_later t v ∙ i.sized;
  within = λ z h. rw (moved z h) (within' z h);
  ordered = λ z w hz hw oz ow. rw (moved z hz, moved w hw) (ordered' z w hz hw oz ow);
}
  where
    moved : (z : ℕ) → z < length c → at (later t v) z ≡ at v z + t
    moved z h = at_later t v z (omega (arith, i.sized))

stay_within : (D c j x t : ℕ) → Within D c j x → (Even c j → ⊥) → (Open c j → part D j x + t < D) → Within D c j (x + t)
stay_within D c j x t (inl p) n o = absurd (n p.0)
stay_within D c j x t (inr (inl p)) n o = let h : part D j x + t < D = o p.0 in inr (inl (p.0, omega arith, omega arith))
stay_within D c j x t (inr (inr p)) n o = inr (inr (p.0, omega arith))

-- a delay that takes no clock out of its interval
pub stay : (c : List ℕ) (D : ℕ) (v : List ℕ) (r : Row) (t : ℕ) → Contains c D v r
    → ((z : ℕ) → z < length c → Even (at c z) (at r.intervals z) → ⊥)
    → ((z : ℕ) → z < length c → Open (at c z) (at r.intervals z) → part D (at r.intervals z) (at v z) + t < D)
    → Contains c D (later t v) r
stay c D v r t i none below =
    after_delay c D v t r r i (λ z h. stay_within D (at c z) (at r.intervals z) (at v z) t (i.within z h) (none z h) (below z h)) (λ z w hz hw oz ow.
    let bz = within_open D _ _ _ (i.within z hz) oz in
    let bw = within_open D _ _ _ (i.within w hw) ow in
    let o = i.ordered z w hz hw oz ow in
    (λ p. let q = o.0 p in omega arith, λ p. o.1 (omega arith)))
