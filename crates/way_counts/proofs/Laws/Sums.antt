-- Sums and products: over a list, over the numbers below one, over patterns. Assumes nothing.
use Prim.Native.Nat.{ℕ, zero, suc, ◌+◌, ◌*◌, ◌≤◌, ◌<◌}
use native.Mathlib.Nat.{add-zero, zero-add, mul-add, mul-zero, zero-mul, mul_assoc, mul-le-mul, add_assoc}
use native.Mathlib.Decide.{ℕ_discrete}
use native.Mathlib.Omega.{arith}
use mathlib.Core.Path.{◌≡◌, refl, sym, ap, ◌∙◌}
use mathlib.Core.Bool.{Bool, true, false, cond, ◌&&◌}
use mathlib.Core.List.Memᴰ
use mathlib.Core.List.{List, [], ◌∷◌, ◌++◌, map}
use lib.ListN.{length, length-append}
use Rattle.automata.specs.Closed.{Mem}
use Rattle.automata.specs.Clocks.{one_if}
use Rattle.automata.specs.Rows.{from, select, gather, choices}
use Rattle.way_counts.specs.Patterns.{sum_below, product}

-- over lists --------------------------------------------------------------------------------------------------------------------------

-- the sum of what the elements give
abbrev pub total : {A : Type 0} → (A → ℕ) → List A → ℕ
total f [] = 0
total f (x ∷ xs) = f x + total f xs

module _ {A : Type 0} where
  pub total_append : (f : A → ℕ) (xs ys : List A) → total f (xs ++ ys) ≡ total f xs + total f ys
  total_append f [] ys = sym (zero-add _)
  total_append f (x ∷ xs) ys = rw (total_append f xs ys) (sym (add_assoc _ _ _))

  pub total_same : (f g : A → ℕ) (xs : List A) → ((x : A) → Mem x xs → f x ≡ g x) → total f xs ≡ total g xs
  total_same f g [] h = refl
  total_same f g (x ∷ xs) h = rw (h x (Memᴰ.head refl), total_same f g xs (λ y m. h y (Memᴰ.tail m)))

  pub total_none : (f : A → ℕ) (xs : List A) → ((x : A) → Mem x xs → f x ≡ 0) → total f xs ≡ 0
  total_none f [] h = refl
  total_none f (x ∷ xs) h = rw (h x (Memᴰ.head refl), total_none f xs (λ y m. h y (Memᴰ.tail m)))

  pub select_append : (p : A → Bool) (xs ys : List A) → select p (xs ++ ys) ≡ select p xs ++ select p ys
  select_append p [] ys = refl
  select_append p (x ∷ xs) ys = rw (select_append p xs ys) (go (p x))
    where
      go : (b : Bool) → cond b (x ∷ (select p xs ++ select p ys)) (select p xs ++ select p ys) ≡ cond b (x ∷ select p xs) (select p xs) ++ select p ys
      go true = refl
      go false = refl

  pub selected_le : (p : A → Bool) (xs : List A) → length (select p xs) ≤ length xs
  selected_le p [] = omega arith
  selected_le p (x ∷ xs) = go (p x) (selected_le p xs)
    where
      go : (b : Bool) → length (select p xs) ≤ length xs → length (cond b (x ∷ select p xs) (select p xs)) ≤ suc (length xs)
      go true h = omega arith
      go false h = omega arith

  pub selected_all : (p : A → Bool) (xs : List A) → ((x : A) → Mem x xs → p x ≡ true) → select p xs ≡ xs
  selected_all p [] h = refl
  selected_all p (x ∷ xs) h = rw (h x (Memᴰ.head refl), selected_all p xs (λ y m. h y (Memᴰ.tail m)))

module _ {A B : Type 0} where
  pub total_gather : (f : B → ℕ) (h : A → List B) (xs : List A) → total f (gather h xs) ≡ total (λ (x : A). total f (h x)) xs
  total_gather f h [] = refl
  total_gather f h (x ∷ xs) = total_append f (h x) (gather h xs) ∙ ap (λ (n : ℕ). total f (h x) + n) (total_gather f h xs)

  pub total_map : (f : B → ℕ) (h : A → B) (xs : List A) → total f (map h xs) ≡ total (λ (x : A). f (h x)) xs
  total_map f h [] = refl
  total_map f h (x ∷ xs) = ap (λ (n : ℕ). f (h x) + n) (total_map f h xs)

  pub length_gathered : (p q : B → Bool) (h : A → List B) (xs : List A)
      → length (select p (select q (gather h xs))) ≡ total (λ (x : A). length (select p (select q (h x)))) xs
  length_gathered p q h [] = refl
  length_gathered p q h (x ∷ xs) =
      ap (λ (l : List B). length (select p l)) (select_append q (h x) (gather h xs))
      ∙ ap length (select_append p (select q (h x)) (select q (gather h xs)))
      ∙ length-append (select p (select q (h x))) (select p (select q (gather h xs)))
      ∙ ap (λ (n : ℕ). length (select p (select q (h x))) + n) (length_gathered p q h xs)

  -- those of the mapped elements that pass both tests
  pub length_selected : (p q : B → Bool) (h : A → B) (xs : List A) → length (select p (select q (map h xs))) ≡ total (λ (x : A). one_if (q (h x) && p (h x))) xs
  length_selected p q h [] = refl
  length_selected p q h (x ∷ xs) = go (q (h x)) (length_selected p q h xs)
    where
      on : (b : Bool) → length (select p (select q (map h xs))) ≡ total (λ (x : A). one_if (q (h x) && p (h x))) xs
          → length (cond b (h x ∷ select p (select q (map h xs))) (select p (select q (map h xs)))) ≡ one_if b + total (λ (x : A). one_if (q (h x) && p (h x))) xs
      on true e = omega arith
      on false e = omega arith

      go : (a : Bool) → length (select p (select q (map h xs))) ≡ total (λ (x : A). one_if (q (h x) && p (h x))) xs
          → length (select p (cond a (h x ∷ select q (map h xs)) (select q (map h xs)))) ≡ one_if (a && p (h x)) + total (λ (x : A). one_if (q (h x) && p (h x))) xs
      go true e = on (p (h x)) e
      go false e = omega arith

-- the last of numbers one after the other
pub total_from : (f : ℕ → ℕ) (a n : ℕ) → total f (from a (suc n)) ≡ total f (from a n) + f (a + n)
total_from f a zero = omega (arith, ap f (add-zero a))
total_from f a (suc n) =
    let e : a + 1 + n ≡ a + suc n = omega arith in
    omega (arith, total_from f (a + 1) n, ap f e)

-- choices from lists that are the same
pub choices_same : (f g : ℕ → List ℕ) (n : ℕ) → ((z : ℕ) → z < n → f z ≡ g z) → choices f n ≡ choices g n
choices_same f g zero h = refl
choices_same f g (suc n) h = rw (h 0 (omega arith), choices_same (λ (z : ℕ). f (suc z)) (λ (z : ℕ). g (suc z)) n (λ z l. h (suc z) (omega arith)))

-- over numbers ------------------------------------------------------------------------------------------------------------------------

pub sum_same : (n : ℕ) (f g : ℕ → ℕ) → ((k : ℕ) → k < n → f k ≡ g k) → sum_below n f ≡ sum_below n g
unfolding sum_below
sum_same zero f g h = refl
sum_same (suc n) f g h = rw (sum_same n f g (λ k l. h k (omega arith)), h n (omega arith))

pub sum_scale : (n : ℕ) (c : ℕ) (f : ℕ → ℕ) → sum_below n (λ (k : ℕ). c * f k) ≡ c * sum_below n f
unfolding sum_below
sum_scale zero c f = sym (mul-zero c)
sum_scale (suc n) c f = rw (sum_scale n c f) (sym (mul-add c (sum_below n f) (f n)))

pub sum_add : (n : ℕ) (f g : ℕ → ℕ) → sum_below n (λ (k : ℕ). f k + g k) ≡ sum_below n f + sum_below n g
unfolding sum_below
sum_add zero f g = refl
sum_add (suc n) f g = omega (arith, sum_add n f g)

-- three at a time
pub sum_thirds : (n : ℕ) (f : ℕ → ℕ) → sum_below (3 * n) f ≡ sum_below n (λ (k : ℕ). f (3 * k) + f (3 * k + 1) + f (3 * k + 2))
unfolding sum_below
sum_thirds zero f = refl
sum_thirds (suc n) f =
    let e : 3 * suc n ≡ suc (suc (suc (3 * n))) = omega arith in
    let a : suc (3 * n) ≡ 3 * n + 1 = omega arith in
    let b : suc (suc (3 * n)) ≡ 3 * n + 2 = omega arith in
    rw e (omega (arith, sum_thirds n f, ap f a, ap f b))

pub product_same : (n : ℕ) (f g : ℕ → ℕ) → ((z : ℕ) → z < n → f z ≡ g z) → product n f ≡ product n g
unfolding product
product_same zero f g h = refl
product_same (suc n) f g h = rw (h 0 (omega arith), product_same n (λ (z : ℕ). f (suc z)) (λ (z : ℕ). g (suc z)) (λ z l. h (suc z) (omega arith)))

pub product_last : (n : ℕ) (f : ℕ → ℕ) → product (suc n) f ≡ product n f * f n
unfolding product
product_last zero f = omega arith
product_last (suc n) f = ap (λ (x : ℕ). f 0 * x) (product_last n (λ (z : ℕ). f (suc z))) ∙ sym (mul_assoc _ _ _)

pub product_some : (n : ℕ) (f : ℕ → ℕ) → (product n f ≡ 0 → ⊥) → (z : ℕ) → z < n → 0 < f z
unfolding product
product_some zero f h z l = absurd (omega arith)
product_some (suc n) f h zero l = go (ℕ_discrete (f 0) 0)
  where
    go : Dec (f 0 ≡ 0) → 0 < f 0
    go (yes e) = absurd (h (rw e (zero-mul _)))
    go (no e) = omega arith
product_some (suc n) f h (suc z) l = product_some n (λ (z : ℕ). f (suc z)) (λ e. h (rw e (mul-zero _))) z (omega arith)

-- numbers up to 256, at most four
sized : ℕ → ℕ
sized zero = 1
sized (suc n) = 256 * sized n

product_sized : (n : ℕ) (f : ℕ → ℕ) → ((z : ℕ) → z < n → f z ≤ 256) → product n f ≤ sized n
unfolding product sized
product_sized zero f h = omega arith
product_sized (suc n) f h = mul-le-mul (h 0 (omega arith)) (product_sized n (λ (z : ℕ). f (suc z)) (λ z l. h (suc z) (omega arith)))

pub product_low : (n : ℕ) (f : ℕ → ℕ) → n ≤ 4 → ((z : ℕ) → z < n → f z ≤ 256) → product n f ≤ 4294967296
unfolding sized
product_low n f four h = omega (arith, product_sized n f h, few n four)
  where
    few : (n : ℕ) → n ≤ 4 → sized n ≤ 4294967296
    few zero h = omega arith
    few (suc zero) h = omega arith
    few (suc (suc zero)) h = omega arith
    few (suc (suc (suc zero))) h = omega arith
    few (suc (suc (suc (suc zero)))) h = omega arith
    few (suc (suc (suc (suc (suc n))))) h = absurd (omega arith)
