-- The order of rows is a strict one, so that in an ascending list every row is below all later ones. Assumes nothing.
use Prim.Native.Nat.{ℕ, zero, suc, ◌<◌}
use native.Mathlib.Omega.{arith}
use mathlib.Core.Path.{◌≡◌, ◌∙◌}
use mathlib.Core.Logic.{◌⊎◌, inl, inr}
use mathlib.Core.List.Memᴰ
use mathlib.Core.List.{List, [], ◌∷◌}
use lib.ListN.{length, get_or}
use Rattle.automata.specs.Row.{Row, Before, Below}
use Rattle.automata.specs.Closed.{Mem, Ascends}
use Rattle.automata.proofs.Laws.Members.{get_or_in, Sorted}

pub before_trans : (xs ys zs : List ℕ) → Before xs ys → Before ys zs → Before xs zs
before_trans [] [] zs p q = absurd p
before_trans [] (y ∷ ys) [] p q = absurd q
before_trans [] (y ∷ ys) (z ∷ zs) p q = tt
before_trans (x ∷ xs) [] zs p q = absurd p
before_trans (x ∷ xs) (y ∷ ys) [] p q = absurd q
before_trans (x ∷ xs) (y ∷ ys) (z ∷ zs) (inl a) (inl b) = inl (omega arith)
before_trans (x ∷ xs) (y ∷ ys) (z ∷ zs) (inl a) (inr (e, _)) = inl (omega arith)
before_trans (x ∷ xs) (y ∷ ys) (z ∷ zs) (inr (e, _)) (inl b) = inl (omega arith)
before_trans (x ∷ xs) (y ∷ ys) (z ∷ zs) (inr (d, a)) (inr (e, b)) = inr (d ∙ e, before_trans xs ys zs a b)

pub before_itself : (xs : List ℕ) → Before xs xs → ⊥
before_itself [] p = p
before_itself (x ∷ xs) (inl a) = omega arith
before_itself (x ∷ xs) (inr (_, a)) = before_itself xs a

pub below_trans : (r s t : Row) → Below r s → Below s t → Below r t
below_trans r s t (inl a) (inl b) = inl (omega arith)
below_trans r s t (inl a) (inr (e, _)) = inl (omega arith)
below_trans r s t (inr (e, _)) (inl b) = inl (omega arith)
below_trans r s t (inr (d, p)) (inr (e, q)) = inr (d ∙ e, go p q)
  where
    go : Before r.intervals s.intervals ⊎ ((r.intervals ≡ s.intervals) × Before r.ranks s.ranks)
        → Before s.intervals t.intervals ⊎ ((s.intervals ≡ t.intervals) × Before s.ranks t.ranks)
        → Before r.intervals t.intervals ⊎ ((r.intervals ≡ t.intervals) × Before r.ranks t.ranks)
    go (inl a) (inl b) = inl (before_trans r.intervals s.intervals t.intervals a b)
    go (inl a) (inr (e, _)) = inl (rw e at a)
    go (inr (d, _)) (inl b) = inl (rw d b)
    go (inr (d, a)) (inr (e, b)) = inr (d ∙ e, before_trans r.ranks s.ranks t.ranks a b)

pub below_itself : (r : Row) → Below r r → ⊥
below_itself r (inl a) = omega arith
below_itself r (inr (_, inl a)) = before_itself r.intervals a
below_itself r (inr (_, inr (_, a))) = before_itself r.ranks a

pub not_both_below : (r s : Row) → Below r s → Below s r → ⊥
not_both_below r s a b = below_itself r (below_trans r s r a b)

-- ascending lists --------------------------------------------------------------------------------------------------------------

-- what is below a row that is below others is below these
below_all : (r s : Row) (rows : List Row) → Below r s → ((t : Row) → Mem t rows → Below s t) → (t : Row) → Mem t (s ∷ rows) → Below r t
below_all r s rows b f t m = go (Memᴰ.cases_cons m)
  where
    go : (t ≡ s) ⊎ Mem t rows → Below r t
    go (inl e) = rw e b
    go (inr k) = below_trans r s t b (f t k)

pub ascends_sorted : (rows : List Row) → Ascends rows → Sorted Below rows
ascends_sorted [] a = tt
ascends_sorted (r ∷ []) a = (λ s m. absurd (Memᴰ.not-nil m), tt)
ascends_sorted (r ∷ (s ∷ rows)) a =
    let later : Sorted Below (s ∷ rows) = ascends_sorted (s ∷ rows) a.1 in
    (below_all r s rows a.0 later.0, later)

pub sorted_at : (rows : List Row) → Sorted Below rows → (d : Row) (i j : ℕ) → i < j → j < length rows → Below (get_or rows i d) (get_or rows j d)
sorted_at [] s d i j h l = absurd (omega arith)
sorted_at (r ∷ rows) s d i zero h l = absurd (omega arith)
sorted_at (r ∷ rows) s d zero (suc j) h l = s.0 (get_or rows j d) (get_or_in rows j d (omega arith))
sorted_at (r ∷ rows) s d (suc i) (suc j) h l = sorted_at rows s.1 d i j (omega arith) (omega arith)
