-- Positions among ascending classes F 1 < F 2 < .. < F m, and values back from positions. Assumes nothing.
-- Position 2 q - 1 is class q itself, position 2 q lies strictly between class q and class q + 1; F 0 is 0.
use Prim.Native.Nat.{ℕ, zero, suc, ◌+◌, ◌*◌, ◌≤◌, ◌<◌, ◌%◌, ◌/◌, compare, Ordering}
use native.Mathlib.Nat.{mul-le-mul_left}
use native.Mathlib.Decide.{ℕ_discrete}
use native.Mathlib.Omega.{arith}
use mathlib.Core.Path.{◌≡◌, refl, sym, ap, subst, ◌∙◌}
use Rattle.automata.proofs.Laws.Order.{Tri, is_lt, is_eq, is_gt, tri, same_order, alike}

pub record Ascending (F : ℕ → ℕ) (m : ℕ) : Type 0 where
  pub base : F 0 ≡ 0
  pub up : (p q : ℕ) → p < q → q ≤ m → F p < F q

-- a part at position p' may be above one at position p: they are at different classes, or both between the same two
abbrev pub After : ℕ → ℕ → Type 0
After p p' = p + p % 2 ≤ p'

pick : Ordering → ℕ → ℕ → ℕ
pick Ordering.lt m p = p
pick Ordering.eq m p = 2 * m + 1
pick Ordering.gt m p = 2 * m + 2

pub pos : (ℕ → ℕ) → ℕ → ℕ → ℕ
pos F zero x = 0
pos F (suc m) x = pick (compare x (F (suc m))) m (pos F m x)

pub pos_bound : (F : ℕ → ℕ) (m x : ℕ) → pos F m x ≤ 2 * m
unfolding pos pick
pos_bound F zero x = omega arith
pos_bound F (suc m) x = go (compare x (F (suc m))) (pos_bound F m x)
  where
    go : (o : Ordering) → pos F m x ≤ 2 * m → pick o m (pos F m x) ≤ 2 * suc m
    go Ordering.lt h = omega arith
    go Ordering.eq h = omega arith
    go Ordering.gt h = omega arith

le_classes : (F : ℕ → ℕ) (m q : ℕ) → Ascending F m → q ≤ m → F q ≤ F m
le_classes F m q A h = go (ℕ_discrete q m)
  where
    go : Dec (q ≡ m) → F q ≤ F m
    go (yes e) = let x : F q ≡ F m = ap F e in omega arith
    go (no e) = let x : F q < F m = A.up q m (omega arith) (omega arith) in omega arith

shorter : (F : ℕ → ℕ) (m : ℕ) → Ascending F (suc m) → Ascending F m
shorter F m A = record { base = A.base; up = λ p q h k. A.up p q h (omega arith) }

-- the position tells the order to each class
pub pos_compare : (F : ℕ → ℕ) (m x q : ℕ) → Ascending F m → 0 < q → q ≤ m → compare (pos F m x + 1) (2 * q) ≡ compare x (F q)
unfolding pos pick
pos_compare F zero x q A h k = absurd (omega arith)
pos_compare F (suc m) x q A h k = go (tri x (F (suc m))) (ℕ_discrete q (suc m)) (pos_compare F m x q (shorter F m A) h)
  where
    le : F q ≤ F (suc m)
    le = le_classes F (suc m) q A k

    b : pos F m x ≤ 2 * m
    b = pos_bound F m x

    go : Tri x (F (suc m)) → Dec (q ≡ suc m) → (q ≤ m → compare (pos F m x + 1) (2 * q) ≡ compare x (F q)) → compare (pos F (suc m) x + 1) (2 * q) ≡ compare x (F q)
    go (is_lt l e) (yes s) ih =
        let f : F q ≡ F (suc m) = ap F s in
        rw e (same_order (pos F m x + 1) (2 * q) x (F q) (λ u. omega arith) (λ u. omega (arith, b)) (λ u. omega (arith, b)))
    go (is_lt l e) (no s) ih = rw e (ih (omega arith))
    go (is_eq l e) (yes s) ih =
        let f : F q ≡ F (suc m) = ap F s in
        rw e (same_order (2 * m + 1 + 1) (2 * q) x (F q) (λ u. omega arith) (λ u. omega arith) (λ u. omega arith))
    go (is_eq l e) (no s) ih =
        let f : F q < F (suc m) = A.up q (suc m) (omega arith) (omega arith) in
        rw e (same_order (2 * m + 1 + 1) (2 * q) x (F q) (λ u. omega arith) (λ u. omega arith) (λ u. omega arith))
    go (is_gt l e) s ih = rw e (same_order (2 * m + 2 + 1) (2 * q) x (F q) (λ u. omega arith) (λ u. omega arith) (λ u. omega (arith, le)))

-- the class at or below a position other than 0 is at most what stands there
at_least : (F : ℕ → ℕ) (m x h : ℕ) → Ascending F m → 0 < h → h ≤ m → 2 * h ≤ pos F m x + 1 → F h ≤ x
at_least F m x h A k l g = go (tri x (F h))
  where
    go : Tri x (F h) → F h ≤ x
    go (is_lt u e) =
        let w : pos F m x + 1 < 2 * h = (alike x (F h) (pos F m x + 1) (2 * h) (sym (pos_compare F m x h A k l))).lt u in
        absurd (omega arith)
    go (is_eq u e) = omega arith
    go (is_gt u e) = omega arith

pub pos_after : (F : ℕ → ℕ) (m x y : ℕ) → Ascending F m → x < y → After (pos F m x) (pos F m y)
pos_after F m x y A l = go (pos F m x) refl
  where
    go : (p : ℕ) → pos F m x ≡ p → p + p % 2 ≤ pos F m y
    go p e = split (tri 0 ((p + 1) / 2))
      where
        split : Tri 0 ((p + 1) / 2) → p + p % 2 ≤ pos F m y
        split (is_lt u _) =
            let b : pos F m x ≤ 2 * m = pos_bound F m x in
            let f : F ((p + 1) / 2) ≤ x = at_least F m x ((p + 1) / 2) A u (omega arith) (omega arith) in
            let g : 2 * ((p + 1) / 2) < pos F m y + 1
            = (alike y (F ((p + 1) / 2)) (pos F m y + 1) (2 * ((p + 1) / 2)) (sym (pos_compare F m y ((p + 1) / 2) A u (omega arith)))).gt (omega arith) in
            omega arith
        split (is_eq u _) = omega arith
        split (is_gt u _) = absurd (omega arith)

pub pos_zero : (F : ℕ → ℕ) (m : ℕ) → Ascending F m → pos F m 0 ≡ 0
pos_zero F m A = go (tri 0 (pos F m 0))
  where
    go : Tri 0 (pos F m 0) → pos F m 0 ≡ 0
    go (is_lt u _) =
        let b : pos F m 0 ≤ 2 * m = pos_bound F m 0 in
        let f : F ((pos F m 0 + 1) / 2) ≤ 0 = at_least F m 0 ((pos F m 0 + 1) / 2) A (omega arith) (omega arith) (omega arith) in
        let g : F 0 < F ((pos F m 0 + 1) / 2) = A.up 0 ((pos F m 0 + 1) / 2) (omega arith) (omega arith) in
        absurd (omega arith)
    go (is_eq u _) = sym u
    go (is_gt u _) = absurd (omega arith)

-- back: at the scale k, the value of rank a at position p ----------------------------------------------------------------------------------

slack : ℕ → ℕ → ℕ
slack zero a = a
slack (suc n) a = 0

pub value : ℕ → (ℕ → ℕ) → ℕ → ℕ → ℕ
value k F p a = k * F ((p + 1) / 2) + slack (p % 2) a

pub gap : (k x y : ℕ) → x < y → k * x + k ≤ k * y
gap k x y h = omega (arith, mul-le-mul_left k h)

module _ (k : ℕ) (F : ℕ → ℕ) (m : ℕ) (A : Ascending F m) where
  value_even : (p a : ℕ) → p % 2 ≡ 0 → value k F p a ≡ k * F ((p + 1) / 2) + a
  unfolding value slack
  value_even p a e = ap (λ (b : ℕ). k * F ((p + 1) / 2) + slack b a) e

  value_odd : (p a : ℕ) → p % 2 ≡ 1 → value k F p a ≡ k * F ((p + 1) / 2)
  unfolding value slack
  value_odd p a e = ap (λ (b : ℕ). k * F ((p + 1) / 2) + slack b a) e ∙ omega arith

  value_within : (p a : ℕ) → (k * F ((p + 1) / 2) ≤ value k F p a) × (value k F p a ≤ k * F ((p + 1) / 2) + a)
  value_within p a = go (ℕ_discrete (p % 2) 0)
    where
      go : Dec (p % 2 ≡ 0) → (k * F ((p + 1) / 2) ≤ value k F p a) × (value k F p a ≤ k * F ((p + 1) / 2) + a)
      go (yes e) = let v = value_even p a e in omega arith
      go (no e) = let v = value_odd p a (omega arith) in omega arith

  -- classes apart are k apart
  classes_gap : (h h' : ℕ) → h < h' → h' ≤ m → k * F h + k ≤ k * F h'
  classes_gap h h' l g = gap k (F h) (F h') (A.up h h' l g)

  pub value_compare : (p a q : ℕ) → p ≤ 2 * m → 0 < a → a < k → 0 < q → q ≤ m → compare (value k F p a) (k * F q) ≡ compare (p + 1) (2 * q)
  value_compare p a q b a0 ak q0 qm = sym (same_order (p + 1) (2 * q) (value k F p a) (k * F q) low mid high)
    where
      low : p + 1 < 2 * q → value k F p a < k * F q
      low h = omega (arith, classes_gap ((p + 1) / 2) q (omega arith) qm, value_within p a)

      mid : p + 1 ≡ 2 * q → value k F p a ≡ k * F q
      mid h = let half : (p + 1) / 2 ≡ q = omega arith in value_odd p a (omega arith) ∙ ap (λ (n : ℕ). k * F n) half

      high : 2 * q < p + 1 → k * F q < value k F p a
      high h = go (ℕ_discrete q ((p + 1) / 2))
        where
          go : Dec (q ≡ (p + 1) / 2) → k * F q < value k F p a
          go (yes e) = let f : k * F q ≡ k * F ((p + 1) / 2) = ap (λ (n : ℕ). k * F n) e in omega (arith, value_even p a (omega arith))
          go (no e) = omega (arith, classes_gap q ((p + 1) / 2) (omega arith) (omega arith), value_within p a)

  pub value_lt : (p p' a b : ℕ) → p' ≤ 2 * m → a < b → b < k → After p p' → value k F p a < value k F p' b
  value_lt p p' a b h ab bk n = go (ℕ_discrete ((p + 1) / 2) ((p' + 1) / 2))
    where
      go : Dec ((p + 1) / 2 ≡ (p' + 1) / 2) → value k F p a < value k F p' b
      go (yes e) = let f : k * F ((p + 1) / 2) ≡ k * F ((p' + 1) / 2) = ap (λ (n : ℕ). k * F n) e in omega (arith, value_within p a, value_even p' b (omega arith))
      go (no e) = omega (arith, classes_gap ((p + 1) / 2) ((p' + 1) / 2) (omega arith) (omega arith), value_within p a, value_within p' b)

  pub value_pos : (p a : ℕ) → p ≤ 2 * m → 0 < a → a < k → 0 < value k F p a
  value_pos p a h a0 ak = go (ℕ_discrete (p % 2) 0)
    where
      go : Dec (p % 2 ≡ 0) → 0 < value k F p a
      go (yes e) = omega (arith, value_even p a e)
      go (no e) = omega (arith, classes_gap 0 ((p + 1) / 2) (omega arith) (omega arith), value_within p a)

  pub value_small : (D p a : ℕ) → F m < D → p ≤ 2 * m → a < k → value k F p a < k * D
  value_small D p a d h ak = omega (arith, gap k (F ((p + 1) / 2)) D (omega (arith, le_classes F m ((p + 1) / 2) A (omega arith))), value_within p a)

-- the order of positions, along the ranks
pub after_chain : (P : ℕ → ℕ) (n : ℕ) → ((a : ℕ) → a < n → After (P a) (P (suc a))) → (a b : ℕ) → a < b → b ≤ n → After (P a) (P b)
after_chain P n s a zero h k = absurd (omega arith)
after_chain P n s a (suc b) h k = go (tri a b) (after_chain P n s a b)
  where
    go : Tri a b → (a < b → b ≤ n → After (P a) (P b)) → After (P a) (P (suc b))
    go (is_lt l _) ih = let x : After (P a) (P b) = ih l (omega arith) in let y : After (P b) (P (suc b)) = s b (omega arith) in omega arith
    go (is_eq l _) ih = subst (λ (x : ℕ). After (P x) (P (suc b))) (sym l) (s b (omega arith))
    go (is_gt l _) ih = absurd (omega arith)
