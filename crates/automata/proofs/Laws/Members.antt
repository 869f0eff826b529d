-- What is in a list that is gathered, mapped or selected, and when such a list is sorted. Assumes nothing.
use Prim.Native.Nat.{ℕ, zero, suc, ◌+◌, ◌≤◌, ◌<◌}
use native.Mathlib.Decide.{ℕ_discrete}
use native.Mathlib.Omega.{arith}
use mathlib.Core.Path.{◌≡◌, refl, sym}
use mathlib.Core.Bool.{Bool, true, false, cond}
use mathlib.Core.Logic.{◌⊎◌, inl, inr}
use mathlib.Core.List.Memᴰ
use mathlib.Core.List.{List, [], ◌∷◌, ◌++◌, map}
use lib.ListN.{length, get_or}
use Rattle.automata.specs.Clocks.{at}
use Rattle.automata.specs.Row.{Row, Before, Below}
use Rattle.automata.specs.Closed.{Mem, Ascends}
use Rattle.automata.specs.Rows.{from, select, gather, choices}
use Rattle.automata.proofs.Laws.Tests.{never}

-- members -----------------------------------------------------------------------------------------------------------------------------

module _ {A B : Type 0} where
  pub map_in : (f : A → B) {a : A} {xs : List A} → Mem a xs → Mem (f a) (map f xs)
  map_in f (Memᴰ.head e) = Memᴰ.head (λ i. f (e i))
  map_in f (Memᴰ.tail m) = Memᴰ.tail (map_in f m)

  pub map_out : (f : A → B) {b : B} (xs : List A) → Mem b (map f xs) → (a : A) × Mem a xs × (b ≡ f a)
  map_out f [] m = absurd (Memᴰ.not-nil m)
  map_out f {b} (x ∷ xs) m = go (map_out f xs) (Memᴰ.cases_cons m)
    where
      go : (Mem b (map f xs) → (a : A) × Mem a xs × (b ≡ f a)) → (b ≡ f x) ⊎ Mem b (map f xs) → (a : A) × Mem a (x ∷ xs) × (b ≡ f a)
      go below (inl e) = (x, Memᴰ.head refl, e)
      go below (inr h) = let (a, i, e) = below h in (a, Memᴰ.tail i, e)

  pub gather_in : (f : A → List B) {a : A} {b : B} {xs : List A} → Mem a xs → Mem b (f a) → Mem b (gather f xs)
  gather_in f (Memᴰ.head {x = x} {xs = xs} e) m = Memᴰ.append_left {s = f x} (gather f xs) (rw e at m)
  gather_in f (Memᴰ.tail {x = x} h) m = Memᴰ.append_right (f x) (gather_in f h m)

  pub gather_out : (f : A → List B) {b : B} (xs : List A) → Mem b (gather f xs) → (a : A) × Mem a xs × Mem b (f a)
  gather_out f [] m = absurd (Memᴰ.not-nil m)
  gather_out f {b} (x ∷ xs) m = go (gather_out f xs) (Memᴰ.append_cases (f x) m)
    where
      go : (Mem b (gather f xs) → (a : A) × Mem a xs × Mem b (f a)) → Mem b (f x) ⊎ Mem b (gather f xs) → (a : A) × Mem a (x ∷ xs) × Mem b (f a)
      go below (inl h) = (x, Memᴰ.head refl, h)
      go below (inr h) = let (a, i, k) = below h in (a, Memᴰ.tail i, k)

module _ {A : Type 0} where
  pub get_or_in : (xs : List A) (i : ℕ) (d : A) → i < length xs → Mem (get_or xs i d) xs
  get_or_in [] i d h = absurd (omega arith)
  get_or_in (x ∷ xs) zero d h = Memᴰ.head refl
  get_or_in (x ∷ xs) (suc i) d h = Memᴰ.tail (get_or_in xs i d (omega arith))

  pub in_get_or : (d : A) {a : A} {xs : List A} → Mem a xs → (i : ℕ) × (i < length xs) × (get_or xs i d ≡ a)
  in_get_or d (Memᴰ.head e) = (0, omega arith, sym e)
  in_get_or d (Memᴰ.tail m) = let (i, h, e) = in_get_or d m in (suc i, omega arith, e)

module _ {A : Type 0} (p : A → Bool) where
  pub select_in : {a : A} {xs : List A} → Mem a xs → p a ≡ true → Mem a (select p xs)
  select_in {a} (Memᴰ.head {x = x} {xs = xs} e) t = go (p x) (rw e at t)
    where
      go : (b : Bool) → b ≡ true → Mem a (cond b (x ∷ select p xs) (select p xs))
      go true q = Memᴰ.head e
      go false q = never q
  select_in {a} (Memᴰ.tail {x = x} {xs = xs} m) t = go (p x) (select_in m t)
    where
      go : (b : Bool) → Mem a (select p xs) → Mem a (cond b (x ∷ select p xs) (select p xs))
      go true h = Memᴰ.tail h
      go false h = h

  pub select_out : {a : A} (xs : List A) → Mem a (select p xs) → Mem a xs × (p a ≡ true)
  select_out [] m = absurd (Memᴰ.not-nil m)
  select_out {a} (x ∷ xs) m = go (p x) refl (select_out xs) m
    where
      deeper : Mem a xs × (p a ≡ true) → Mem a (x ∷ xs) × (p a ≡ true)
      deeper t = (Memᴰ.tail t.0, t.1)

      pick : p x ≡ true → (Mem a (select p xs) → Mem a xs × (p a ≡ true)) → (a ≡ x) ⊎ Mem a (select p xs) → Mem a (x ∷ xs) × (p a ≡ true)
      pick q below (inl e) = (Memᴰ.head e, rw e q)
      pick q below (inr h) = deeper (below h)

      go : (b : Bool) → p x ≡ b → (Mem a (select p xs) → Mem a xs × (p a ≡ true)) → Mem a (cond b (x ∷ select p xs) (select p xs)) → Mem a (x ∷ xs) × (p a ≡ true)
      go true q below h = pick q below (Memᴰ.cases_cons h)
      go false q below h = deeper (below h)

pub from_in : (a n x : ℕ) → a ≤ x → x < a + n → Mem x (from a n)
from_in a zero x l h = absurd (omega arith)
from_in a (suc n) x l h = go (ℕ_discrete x a) (from_in (a + 1) n x)
  where
    go : Dec (x ≡ a) → (a + 1 ≤ x → x < a + 1 + n → Mem x (from (a + 1) n)) → Mem x (a ∷ from (a + 1) n)
    go (yes e) below = Memᴰ.head e
    go (no e) below = Memᴰ.tail (below (omega arith) (omega arith))

pub from_out : (a n x : ℕ) → Mem x (from a n) → (a ≤ x) × (x < a + n)
from_out a zero x m = absurd (Memᴰ.not-nil m)
from_out a (suc n) x m = go (Memᴰ.cases_cons m) (from_out (a + 1) n x)
  where
    go : (x ≡ a) ⊎ Mem x (from (a + 1) n) → (Mem x (from (a + 1) n) → (a + 1 ≤ x) × (x < a + 1 + n)) → (a ≤ x) × (x < a + suc n)
    go (inl e) below = omega arith
    go (inr h) below = let t = below h in omega arith

pub choices_in : (f : ℕ → List ℕ) (n : ℕ) (xs : List ℕ) → length xs ≡ n → ((z : ℕ) → z < n → Mem (at xs z) (f z)) → Mem xs (choices f n)
choices_in f zero [] e h = Memᴰ.head refl
choices_in f zero (x ∷ xs) e h = absurd (omega arith)
choices_in f (suc n) [] e h = absurd (omega arith)
choices_in f (suc n) (x ∷ xs) e h =
    gather_in _ (h 0 (omega arith)) (map_in (λ (xs : List ℕ). x ∷ xs) (choices_in (λ (z : ℕ). f (suc z)) n xs (omega arith) (λ z l. h (suc z) (omega arith))))

-- sorted lists ------------------------------------------------------------------------------------------------------------------------

-- each element stands in R to all after it
abbrev pub Sorted : {A : Type 0} → (A → A → Type 0) → List A → Type 0
Sorted R [] = Unit {0}
Sorted {A} R (x ∷ xs) = ((y : A) → Mem y xs → R x y) × Sorted R xs

module _ {A : Type 0} (R : A → A → Type 0) where
  pub sorted_append : (xs ys : List A) → Sorted R xs → Sorted R ys → ((x y : A) → Mem x xs → Mem y ys → R x y) → Sorted R (xs ++ ys)
  sorted_append [] ys s t h = t
  sorted_append (x ∷ xs) ys s t h = (λ y m. go y (Memᴰ.append_cases xs m), sorted_append xs ys s.1 t (λ x' y m k. h x' y (Memᴰ.tail m) k))
    where
      go : (y : A) → Mem y xs ⊎ Mem y ys → R x y
      go y (inl m) = s.0 y m
      go y (inr m) = h x y (Memᴰ.head refl) m

  pub sorted_select : (p : A → Bool) (xs : List A) → Sorted R xs → Sorted R (select p xs)
  sorted_select p [] s = tt
  sorted_select p (x ∷ xs) s = go (p x) (sorted_select p xs s.1)
    where
      go : (b : Bool) → Sorted R (select p xs) → Sorted R (cond b (x ∷ select p xs) (select p xs))
      go true t = (λ y m. s.0 y (select_out p xs m).0, t)
      go false t = t

module _ {A B : Type 0} (R : A → A → Type 0) (Q : B → B → Type 0) where
  pub sorted_map : (f : A → B) → ((x y : A) → R x y → Q (f x) (f y)) → (xs : List A) → Sorted R xs → Sorted Q (map f xs)
  sorted_map f h [] s = tt
  sorted_map f h (x ∷ xs) s = (λ b m. let (y, k, e) = map_out f xs m in rw e (h x y (s.0 y k)), sorted_map f h xs s.1)

  pub sorted_gather : (f : A → List B) → ((x : A) → Sorted Q (f x)) → ((x y : A) → R x y → (a b : B) → Mem a (f x) → Mem b (f y) → Q a b)
      → (xs : List A) → Sorted R xs → Sorted Q (gather f xs)
  sorted_gather f t h [] s = tt
  sorted_gather f t h (x ∷ xs) s =
      sorted_append Q (f x) (gather f xs) (t x) (sorted_gather f t h xs s.1)
      (λ a b m k. let (y, i, j) = gather_out f xs k in h x y (s.0 y i) a b m j)

pub sorted_from : (a n : ℕ) → Sorted ◌<◌ (from a n)
sorted_from a zero = tt
sorted_from a (suc n) = (λ y m. let t = from_out (a + 1) n y m in omega arith, sorted_from (a + 1) n)

pub sorted_choices : (f : ℕ → List ℕ) (n : ℕ) → ((z : ℕ) → Sorted ◌<◌ (f z)) → Sorted Before (choices f n)
sorted_choices f zero s = (λ y m. absurd (Memᴰ.not-nil m), tt)
sorted_choices f (suc n) s =
    sorted_gather ◌<◌ Before (λ (x : ℕ). map (λ (xs : List ℕ). x ∷ xs) rest)
    (λ x. sorted_map Before Before (λ (xs : List ℕ). x ∷ xs) (λ xs ys b. inr (refl, b)) rest (sorted_choices (λ (z : ℕ). f (suc z)) n (λ z. s (suc z))))
    first (f 0) (s 0)
  where
    rest : List (List ℕ)
    rest = choices (λ (z : ℕ). f (suc z)) n

    first : (x y : ℕ) → x < y → (us vs : List ℕ) → Mem us (map (λ (xs : List ℕ). x ∷ xs) rest) → Mem vs (map (λ (xs : List ℕ). y ∷ xs) rest) → Before us vs
    first x y h us vs m k =
        let (xs, _, d) = map_out (λ (xs : List ℕ). x ∷ xs) rest m in
        let (ys, _, e) = map_out (λ (xs : List ℕ). y ∷ xs) rest k in
        rw (d, e) (inl h)

pub sorted_ascends : (rows : List Row) → Sorted Below rows → Ascends rows
sorted_ascends [] s = tt
sorted_ascends (r ∷ []) s = tt
sorted_ascends (r ∷ (r' ∷ rows)) s = (s.0 r' (Memᴰ.head refl), sorted_ascends (r' ∷ rows) s.1)
