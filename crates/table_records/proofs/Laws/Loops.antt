-- Loops that test one thing after the other, and loops that fill an array. Assumes nothing.
use Prim.Native.Nat.{ℕ, zero, suc, ◌+◌, ◌<◌}
use native.Mathlib.Numerals.{add-one}
use native.Mathlib.Omega.{arith}
use mathlib.Core.Path.{◌≡◌, refl, sym, ap, ◌∙◌}
use mathlib.Core.Bool.{Bool}
use mathlib.Core.List.{List, [], ◌∷◌, ◌++◌, map}
use lib.ListN.{length, take, set, length-set}
use lib.Seq.{take-suc-set}
use Rattle.automata.specs.Clocks.{allb}
use Rattle.automata.specs.Rows.{from}
use Rattle.automata.specs.Checks.{every}
use Rattle.automata.proofs.Laws.Tests.{says, allb_law, same_test}
use Rattle.automata.proofs.Laws.Checks.{every_law}
use Rattle.automata.proofs.Laws.Members.{from_in, from_out}
use Rattle.table_files.proofs.Laws.Reading.{itself}

-- tests ----------------------------------------------------------------------------------------------------------------------

-- of what is made of a list
pub every_map : {A B : Type 0} (p : A → Bool) (f : B → A) (xs : List B) → every p (map f xs) ≡ every (λ (x : B). p (f x)) xs
every_map p f [] = refl
every_map p f (x ∷ xs) = rw (every_map p f xs)

-- clock by clock
pub allb_every : (n : ℕ) (t : ℕ → Bool) → allb n t ≡ every t (from 0 n)
allb_every n t =
    same_test (allb n t) (every t (from 0 n)) (allb_law n t (λ z. itself (t z)))
    (says _ (every_law t (λ z. itself (t z)) (from 0 n)) (
      λ h z l. h z (from_in 0 n z (omega arith) (omega arith)),
      λ h z m. let l = from_out 0 n z m in h z (omega arith),
    ))

-- the tests of what is made of each number below n
pub mapped_allb : {A : Type 0} (p : A → Bool) (f : ℕ → A) (n : ℕ) → allb n (λ (z : ℕ). p (f z)) ≡ every p (map f (from 0 n))
mapped_allb p f n = allb_every n (λ (z : ℕ). p (f z)) ∙ sym (every_map p f (from 0 n))

-- arrays ---------------------------------------------------------------------------------------------------------------------

pub from_last : (a n : ℕ) → from a (suc n) ≡ from a n ++ ((a + n) ∷ [])
from_last a zero = let e : a ≡ a + 0 = omega arith in λ i. e i ∷ []
from_last a (suc n) = let e : a + 1 + n ≡ a + suc n = omega arith in ap (λ (l : List ℕ). a ∷ l) (from_last (a + 1) n ∙ (λ i. from (a + 1) n ++ (e i ∷ [])))

pub map_append : {A B : Type 0} (f : A → B) (xs ys : List A) → map f (xs ++ ys) ≡ map f xs ++ map f ys
map_append f [] ys = refl
map_append {B = B} f (x ∷ xs) ys = ap (λ (l : List B). f x ∷ l) (map_append f xs ys)

pub map_twice : {A B C : Type 0} (f : B → C) (g : A → B) (xs : List A) → map f (map g xs) ≡ map (λ (x : A). f (g x)) xs
map_twice f g [] = refl
map_twice {C = C} f g (x ∷ xs) = ap (λ (l : List C). f (g x) ∷ l) (map_twice f g xs)

module _ {A B : Type 0} where
  -- the first k of the array of m are, as they are seen, f 0, f 1, ..
  pub record Filled (view : A → B) (f : ℕ → B) (m k : ℕ) (xs : List A) : Type 0 where
    pub sized : length xs ≡ m
    pub first : map view (take k xs) ≡ map f (from 0 k)

  pub none_filled : {view : A → B} {f : ℕ → B} {m : ℕ} {xs : List A} → length xs ≡ m → Filled view f m 0 xs
  none_filled e = record { sized = e; first = refl }

  pub one_filled : {view : A → B} {f : ℕ → B} {m k : ℕ} {xs : List A} → Filled view f m k xs → (x : A) → k < m → view x ≡ f k
      → Filled view f m (k + 1) (set xs k x)
  one_filled {view} {f} {m} {k} {xs} p x h e = record {
    sized = length-set xs k x ∙ p.sized;
    first =
        ap (λ (n : ℕ). map view (take n (set xs k x))) (add-one k)
        ∙ ap (map view) (take-suc-set xs k x (omega (arith, p.sized)))
        ∙ map_append view (take k xs) (x ∷ [])
        ∙ (λ i. p.first i ++ (e i ∷ []))
        ∙ sym (map_append f (from 0 k) (k ∷ []))
        ∙ ap (map f) (sym (from_last 0 k ∙ (let z : 0 + k ≡ k = omega arith in λ i. from 0 k ++ (z i ∷ []))))
        ∙ ap (λ (n : ℕ). map f (from 0 n)) (sym (add-one k));
  }

  pub all_filled : {view : A → B} {f : ℕ → B} {m k : ℕ} {xs : List A} → Filled view f m k xs → (n : ℕ) → k ≡ n → map view (take n xs) ≡ map f (from 0 n)
  all_filled p n e = rw e at p.first
