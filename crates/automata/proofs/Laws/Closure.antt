-- A finite closure: from a start, what a list-valued function reaches inside a finite universe. Assumes nothing.
use Prim.Native.Nat.{ℕ, zero, suc, ◌≤◌, ◌<◌}
use native.Mathlib.Nat.{le_refl}
use native.Mathlib.Omega.{arith}
use mathlib.Core.Path.{◌≡◌, refl, sym}
use mathlib.Core.Logic.{◌⊎◌, inl, inr}
use mathlib.Core.List.Memᴰ
use mathlib.Core.List.{List, [], ◌∷◌}
use Rattle.automata.specs.Closed.{Mem}
use Rattle.automata.specs.Rows.{gather}
use Rattle.automata.proofs.Laws.Members.{gather_in, gather_out}
use Rattle.automata.specs.Meeting.{Reach, origin, further}

-- some element of a list has P, or all have Q
pub some_or_all : {A : Type 0} {P Q : A → Type 0} → ((a : A) → P a ⊎ Q a) → (xs : List A) → ((a : A) × Mem a xs × P a) ⊎ ((a : A) → Mem a xs → Q a)
some_or_all test [] = inr (λ a m. absurd (Memᴰ.not-nil m))
some_or_all {A} {P} {Q} test (x ∷ xs) = go (test x) (some_or_all test xs)
  where
    all : Q x → ((a : A) → Mem a xs → Q a) → (a : A) → (a ≡ x) ⊎ Mem a xs → Q a
    all q below a (inl e) = rw e q
    all q below a (inr m) = below a m

    go : P x ⊎ Q x → ((a : A) × Mem a xs × P a) ⊎ ((a : A) → Mem a xs → Q a) → ((a : A) × Mem a (x ∷ xs) × P a) ⊎ ((a : A) → Mem a (x ∷ xs) → Q a)
    go (inl p) below = inl (x, Memᴰ.head refl, p)
    go (inr q) (inl (a, m, p)) = inl (a, Memᴰ.tail m, p)
    go (inr q) (inr below) = inr (λ a m. all q below a (Memᴰ.cases_cons m))

-- a list with the start, closed under next, of which every element is reached
pub record Closure {A : Type 0} (next : A → List A) (start : A) : Type 0 where
  pub found : List A
  pub starts : Mem start found
  pub closed : (a b : A) → Mem a found → Mem b (next a) → Mem b found
  pub reached : (a : A) → Mem a found → Reach next start a

-- how many elements of a list are not in s ------------------------------------------------------------------------------------------------

module _ {A : Type 0} (member : (a : A) (l : List A) → (Mem a l → ⊥) ⊎ Mem a l) where
  weigh : {a : A} {s : List A} → (Mem a s → ⊥) ⊎ Mem a s → ℕ → ℕ
  weigh (inl out) n = suc n
  weigh (inr m) n = n

  missing : List A → List A → ℕ
  missing s [] = 0
  missing s (x ∷ xs) = weigh (member x s) (missing s xs)

  missing_le : (y : A) (s xs : List A) → missing (y ∷ s) xs ≤ missing s xs
  unfolding missing weigh
  missing_le y s [] = le_refl _
  missing_le y s (x ∷ xs) = go (member x (y ∷ s)) (member x s) (missing_le y s xs)
    where
      go : (d : (Mem x (y ∷ s) → ⊥) ⊎ Mem x (y ∷ s)) (e : (Mem x s → ⊥) ⊎ Mem x s) {m n : ℕ} → m ≤ n → weigh d m ≤ weigh e n
      go (inl d) (inl e) h = omega arith
      go (inl d) (inr e) h = absurd (d (Memᴰ.tail e))
      go (inr d) (inl e) h = omega arith
      go (inr d) (inr e) h = h

  missing_lt : (y : A) (s : List A) → (Mem y s → ⊥) → {xs : List A} → Mem y xs → missing (y ∷ s) xs < missing s xs
  unfolding missing weigh
  missing_lt y s out (Memᴰ.head {x = x} {xs = xs} q) = go (member x (y ∷ s)) (member x s) (missing_le y s xs)
    where
      go : (d : (Mem x (y ∷ s) → ⊥) ⊎ Mem x (y ∷ s)) (e : (Mem x s → ⊥) ⊎ Mem x s) {m n : ℕ} → m ≤ n → weigh d m < weigh e n
      go (inl d) e h = absurd (d (Memᴰ.head (sym q)))
      go (inr d) (inl e) h = omega arith
      go (inr d) (inr e) h = absurd (out (Memᴰ.cast q e))
  missing_lt y s out (Memᴰ.tail {x = x} {xs = xs} i) = go (member x (y ∷ s)) (member x s) (missing_lt y s out i)
    where
      go : (d : (Mem x (y ∷ s) → ⊥) ⊎ Mem x (y ∷ s)) (e : (Mem x s → ⊥) ⊎ Mem x s) {m n : ℕ} → m < n → weigh d m < weigh e n
      go (inl d) (inl e) h = omega arith
      go (inl d) (inr e) h = absurd (d (Memᴰ.tail e))
      go (inr d) (inl e) h = omega arith
      go (inr d) (inr e) h = h

-- the closure: as long as some next element is not in the list, put it there --------------------------------------------------------------

module _ {A : Type 0} (member : (a : A) (l : List A) → (Mem a l → ⊥) ⊎ Mem a l) (universe : List A) (next : A → List A) (start : A)
    (bounded : (a : A) → Reach next start a → Mem a universe) where
  -- the start is in s, and every element of s is reached
  abbrev Grown : List A → Type 0
  Grown s = Mem start s × ((a : A) → Mem a s → Reach next start a)

  abbrev New : List A → Type 0
  New s = (y : A) × Mem y (gather next s) × (Mem y s → ⊥)

  new_reach : (s : List A) → Grown s → (n : New s) → Reach next start n.0
  new_reach s g n = let (a, m, k) = gather_out next s n.1 in further (g.1 a m) k

  grow : (s : List A) → Grown s → (n : New s) → Grown (n.0 ∷ s)
  grow s g n = (Memᴰ.tail g.0, λ a m. go (Memᴰ.cases_cons m))
    where
      go : {a : A} → (a ≡ n.0) ⊎ Mem a s → Reach next start a
      go (inl e) = rw e (new_reach s g n)
      go {a} (inr m) = g.1 a m

  fewer : (s : List A) → Grown s → (n : New s) → missing member (n.0 ∷ s) universe < missing member s universe
  fewer s g n = missing_lt member n.0 s n.2 (bounded n.0 (new_reach s g n))

  close : (fuel : ℕ) (s : List A) → missing member s universe < fuel → Grown s → Closure next start
  close zero s enough g = absurd (omega arith)
  close (suc fuel) s enough g = go (λ t h k. close fuel t h k) (some_or_all (λ y. member y s) (gather next s))
    where
      go : ((t : List A) → missing member t universe < fuel → Grown t → Closure next start) → New s ⊎ ((y : A) → Mem y (gather next s) → Mem y s) → Closure next start
      go again (inl n) = let h = fewer s g n in again (n.0 ∷ s) (omega arith) (grow s g n)
      go again (inr all) = record { found = s; starts = g.0; closed = λ a b m k. all b (gather_in next m k); reached = g.1 }

  pub closure : Closure next start
  closure = close (suc (missing member (start ∷ []) universe)) (start ∷ []) (omega arith) (Memᴰ.head refl, λ a m. rw (Memᴰ.eq_of_singleton m) origin)
