-- A point lies in one row only. Assumes nothing.
use Prim.Native.Nat.{ℕ, zero, suc, ◌+◌, ◌*◌, ◌-◌, ◌≤◌, ◌<◌, ◌/◌}
use native.Mathlib.Decide.{dec_lt, dec_le, ℕ_discrete}
use native.Mathlib.Omega.{arith}
use mathlib.Core.Path.{◌≡◌, sym, ◌∙◌}
use mathlib.Core.List.{List}
use lib.ListN.{length}
use lib.Seq.{ext_get_or}
use Rattle.automata.specs.Clocks.{at}
use Rattle.automata.specs.Row.{Row, Open, IsRow}
use Rattle.automata.specs.Point.{Within, Contains}
use Rattle.automata.proofs.Laws.Order.{Alike, alike}
use Rattle.automata.proofs.Laws.Clocks.{within_range}
use Rattle.automata.proofs.Laws.Ranks.{ranked_open}
use Rattle.automata.proofs.Laws.Guards.{within_compare}

-- intervals ---------------------------------------------------------------------------------------------------------------------

not_less : (D c j j' x : ℕ) → 0 < D → Within D c j x → Within D c j' x → j < j' → ⊥
not_less D c j j' x p i i' h = go (ℕ_discrete j (2 * k))
  where
    k : ℕ
    k = (j + 1) / 2

    b : k ≤ c
    b = let r = within_range D c j' x i' in omega arith

    both : Alike j (2 * k) j' (2 * k)
    both = alike j (2 * k) j' (2 * k) (sym (within_compare D c j x k p b i) ∙ within_compare D c j' x k p b i')

    go : Dec (j ≡ 2 * k) → ⊥
    go (yes e) = omega (arith, both.eq e)
    go (no e) = omega (arith, both.lt (omega arith))

pub interval_unique : (D c j j' x : ℕ) → 0 < D → Within D c j x → Within D c j' x → j ≡ j'
interval_unique D c j j' x p i i' = go (dec_lt j j') (dec_lt j' j)
  where
    go : Dec (j < j') → Dec (j' < j) → j ≡ j'
    go (yes l) d = absurd (not_less D c j j' x p i i' l)
    go (no l) (yes g) = absurd (not_less D c j' j x p i' i g)
    go (no l) (no g) = omega arith

-- ranks -------------------------------------------------------------------------------------------------------------------------

-- ranks with none missing are the least for their order
pub least : (n : ℕ) (a b : ℕ → ℕ)
    → ((z : ℕ) → z < n → 0 < b z → 0 < a z)
    → ((z w : ℕ) → z < n → w < n → 0 < b z → 0 < b w → a z ≤ a w → b z ≤ b w)
    → ((z k : ℕ) → z < n → 0 < k → k < b z → (w : ℕ) × (w < n) × (b w ≡ k))
    → (m z : ℕ) → z < n → a z ≤ m → b z ≤ a z
least n a b pos ord dense zero z h q = go (dec_le (b z) 0)
  where
    go : Dec (b z ≤ 0) → b z ≤ a z
    go (yes l) = omega arith
    go (no l) = let s = pos z h (omega arith) in absurd (omega arith)
least n a b pos ord dense (suc m) z h q = go (dec_le (b z) 1) (least n a b pos ord dense m)
  where
    small : b z ≤ 1 → Dec (b z ≤ 0) → b z ≤ a z
    small l (yes y) = omega arith
    small l (no y) = let s = pos z h (omega arith) in omega arith

    below : (w : ℕ) → w < n → b w ≡ b z - 1 → 1 < b z → (w < n → a w ≤ m → b w ≤ a w) → Dec (a w < a z) → b z ≤ a z
    below w hw e l ih (yes s) = let t = ih hw (omega arith) in omega arith
    below w hw e l ih (no s) = let t = ord z w h hw (omega arith) (omega arith) (omega arith) in absurd (omega arith)

    go : Dec (b z ≤ 1) → ((w : ℕ) → w < n → a w ≤ m → b w ≤ a w) → b z ≤ a z
    go (yes l) ih = small l (dec_le (b z) 0)
    go (no l) ih = let (w, hw, e) = dense z (b z - 1) h (omega arith) (omega arith) in below w hw e (omega arith) (ih w) (dec_lt (a w) (a z))

-- UNIQUENESS --------------------------------------------------------------------------------------------------------------------

module _ (c : List ℕ) (D : ℕ) (v : List ℕ) where
  intervals_same : (r s : Row) → Contains c D v r → Contains c D v s → (z : ℕ) → z < length c → at r.intervals z ≡ at s.intervals z
  intervals_same r s i i' z h = interval_unique D (at c z) _ _ (at v z) i.positive (i.within z h) (i'.within z h)

  rank_le : (r s : Row) → IsRow c r → IsRow c s → Contains c D v r → Contains c D v s → (z : ℕ) → z < length c → at s.ranks z ≤ at r.ranks z
  rank_le r s row row' i i' z h = least (length c) (at r.ranks) (at s.ranks) pos ord row'.dense (at r.ranks z) z h (omega arith)
    where
      open_r : (w : ℕ) → w < length c → 0 < at s.ranks w → Open (at c w) (at r.intervals w)
      open_r w hw p = rw (intervals_same r s i i' w hw) (ranked_open c s row' w hw p)

      pos : (w : ℕ) → w < length c → 0 < at s.ranks w → 0 < at r.ranks w
      pos w hw p = row.rank_open w hw (open_r w hw p)

      ord : (x y : ℕ) → x < length c → y < length c → 0 < at s.ranks x → 0 < at s.ranks y → at r.ranks x ≤ at r.ranks y → at s.ranks x ≤ at s.ranks y
      ord x y hx hy px py l =
          (i'.ordered x y hx hy (ranked_open c s row' x hx px) (ranked_open c s row' y hy py)).1
          (rw (← intervals_same r s i i' x hx, ← intervals_same r s i i' y hy) ((i.ordered x y hx hy (open_r x hx px) (open_r y hy py)).0 l))

  pub row_unique : (r s : Row) → r.location ≡ s.location → IsRow c r → IsRow c s → Contains c D v r → Contains c D v s → r ≡ s
  row_unique r s l row row' i i' =
      let js : r.intervals ≡ s.intervals = ext_get_or 0 r.intervals s.intervals (row.intervals_length ∙ sym row'.intervals_length) (λ z h. intervals_same r s i i' z (omega (arith, row.intervals_length))) in
      let ks : r.ranks ≡ s.ranks = ext_get_or 0 r.ranks s.ranks (row.ranks_length ∙ sym row'.ranks_length) (λ z h.
      let hz : z < length c = omega (arith, row.ranks_length) in
      let a = rank_le r s row row' i i' z hz in
      let b = rank_le s r row' row i' i z hz in
      omega arith) in
      λ t. record { location = l t; intervals = js t; ranks = ks t }
