-- The classes of fractional parts of a row's point: class q is the part of the clocks of rank q, class 0 is 0. Assumes nothing.
use Prim.Native.Nat.{ℕ, suc, ◌*◌, ◌<◌}
use native.Mathlib.Nat.{mul-lt-mul_of_pos_left}
use native.Mathlib.Decide.{dec_lt, ℕ_discrete}
use native.Mathlib.Omega.{arith}
use mathlib.Core.Path.{◌≡◌, refl}
use mathlib.Core.Logic.{◌⊎◌, inl, inr}
use mathlib.Core.List.{List}
use lib.ListN.{length}
use Rattle.automata.specs.Clocks.{at, greatest}
use Rattle.automata.specs.Row.{Row, Open, IsRow}
use Rattle.automata.specs.Point.{part, Contains, scaled}
use Rattle.automata.proofs.Laws.Lists.{collect, at_scaled, at_greatest}
use Rattle.automata.proofs.Laws.Clocks.{within_open}
use Rattle.automata.proofs.Laws.Ranks.{ranked_open, holder}
use Rattle.automata.proofs.Laws.Scale.{part_scale}
use Rattle.automata.proofs.Laws.Positions.{Ascending}

pub record Classes (c : List ℕ) (D : ℕ) (v : List ℕ) (r : Row) : Type 0 where
  pub class : ℕ → ℕ
  pub ascending : Ascending class (greatest r.ranks)
  pub small : class (greatest r.ranks) < D
  pub is_part : (z : ℕ) → z < length c → Open (at c z) (at r.intervals z) → class (at r.ranks z) ≡ part D (at r.intervals z) (at v z)

module _ (c : List ℕ) (D : ℕ) (v : List ℕ) (r : Row) (row : IsRow c r) (i : Contains c D v r) where
  -- x is class q: 0, or the part of a clock of rank q
  abbrev Class : ℕ → ℕ → Type 0
  Class q x =
      ((q ≡ 0) × (x ≡ 0))
      ⊎ ((w : ℕ) × (w < length c) × (at r.ranks w ≡ q) × Open (at c w) (at r.intervals w) × (x ≡ part D (at r.intervals w) (at v w)))

  class_positive : (q x : ℕ) → 0 < q → Class q x → 0 < x
  class_positive q x p (inl t) = absurd (omega arith)
  class_positive q x p (inr (w, h, e, o, f)) = let b = within_open D _ _ _ (i.within w h) o in omega arith

  class_small : (q x : ℕ) → Class q x → x < D
  class_small q x (inl t) = omega (arith, i.positive)
  class_small q x (inr (w, h, e, o, f)) = let b = within_open D _ _ _ (i.within w h) o in omega arith

  class_up : (p q x y : ℕ) → p < q → Class p x → Class q y → x < y
  class_up p q x y s (inl t) b = omega (arith, class_positive q y (omega arith) b)
  class_up p q x y s (inr a) (inl t) = absurd (omega arith)
  class_up p q x y s (inr (w, h, e, o, f)) (inr (w', h', e', o', f')) = go (dec_lt x y)
    where
      go : Dec (x < y) → x < y
      go (yes l) = l
      go (no l) = let b = (i.ordered w' w h' h o' o).1 (omega arith) in absurd (omega arith)

  class_part : (z x : ℕ) → z < length c → Open (at c z) (at r.intervals z) → Class (at r.ranks z) x → x ≡ part D (at r.intervals z) (at v z)
  class_part z x h o (inl t) = let p = row.rank_open z h o in absurd (omega arith)
  class_part z x h o (inr (w, h', e, o', f)) =
      let a = (i.ordered z w h h' o o').0 (omega arith) in
      let b = (i.ordered w z h' h o' o).0 (omega arith) in
      omega arith

  pub classes : Classes c D v r
  classes =
      let (xs, e, f) = collect Class (suc (greatest r.ranks)) (λ q h. find q h (ℕ_discrete q 0)) in
      record {
        class = at xs;
        ascending = record { base = first (at xs 0) (f 0 (omega arith)); up = λ p q s h. class_up p q (at xs p) (at xs q) s (f p (omega arith)) (f q (omega arith)) };
        small = class_small (greatest r.ranks) _ (f (greatest r.ranks) (omega arith));
        is_part = λ z h o. class_part z _ h o (f (at r.ranks z) (omega (arith, at_greatest r.ranks z)));
      }
    where
      find : (q : ℕ) → q < suc (greatest r.ranks) → Dec (q ≡ 0) → (x : ℕ) × Class q x
      find q h (yes e) = (0, inl (e, refl))
      find q h (no n) = let (w, k, e) = holder c r row q (omega arith) (omega arith) in (part D (at r.intervals w) (at v w), inr (w, k, e, ranked_open c r row w k (omega arith), refl))

      first : (x : ℕ) → Class 0 x → x ≡ 0
      first x (inl t) = t.1
      first x (inr (w, h, e, o, f)) = let p = row.rank_open w h o in absurd (omega arith)

-- the classes of the same point, counted k times finer
unfoldable pub finer_classes : (k : ℕ) → 0 < k → (c : List ℕ) (D : ℕ) (v : List ℕ) (r : Row) → Classes c D v r → Classes c (k * D) (scaled k v) r
finer_classes k p c D v r K = record {
  class = λ q. k * K.class q;
  ascending = record { base = rw K.ascending.base (omega arith); up = λ x y s h. mul-lt-mul_of_pos_left (K.ascending.up x y s h) p };
  small = mul-lt-mul_of_pos_left K.small p;
  is_part = λ z h o. rw (at_scaled k v z, part_scale k D (at r.intervals z) (at v z), K.is_part z h o);
}
