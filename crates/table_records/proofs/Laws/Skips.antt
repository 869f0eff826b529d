-- Records that were read, by position: what the i-th says, and where it begins. Assumes nothing.
use Prim.Native.Nat.{ℕ, zero, suc, ◌+◌, ◌*◌, ◌<◌}
use native.Mathlib.Numerals.{add-one}
use native.Mathlib.Omega.{arith}
use mathlib.Core.Path.{◌≡◌, refl, sym, ap, ◌∙◌}
use mathlib.Core.List.{List, [], ◌∷◌}
use lib.ListN.{length, drop, get_or}
use Rattle.table_files.specs.Reading.{good, Reader, records}
use Rattle.table_records.specs.Skips.{skip, values, AllAt}
use Rattle.table_files.proofs.Laws.Reading.{parts}

-- a record that was read at p says `value p`, and leaves the bytes from `after p` on
pub record One {A : Type 0} (value : ℕ → A) (after : ℕ → ℕ) (P : ℕ → Type 0) (file : List ℕ) (p : ℕ) (a : A) (rest : List ℕ) : Type 0 where
  pub says : a ≡ value p
  pub leaves : rest ≡ drop (after p) file
  pub stands : P p

-- and so of all that were read
pub record All {A : Type 0} (value : ℕ → A) (after : ℕ → ℕ) (P : ℕ → Type 0) (file : List ℕ) (m p : ℕ) (xs : List A) (rest : List ℕ) : Type 0 where
  pub says : xs ≡ values value after m p
  pub leaves : rest ≡ drop (skip after m p) file
  pub stand : AllAt P after m p

module _ {A : Type 0} (read : ℕ → Reader A) (value : ℕ → A) (after : ℕ → ℕ) (P : ℕ → Type 0) (file : List ℕ)
    (one : (place p : ℕ) (a : A) (rest : List ℕ) → read place (drop p file) ≡ good a rest → One value after P file p a rest) where
  pub all_read : (m place p : ℕ) {xs : List A} {rest : List ℕ} → records read place m (drop p file) ≡ good xs rest → All value after P file m p xs rest
  unfolding records values skip AllAt
  all_read zero place p {xs} {rest} h = let e : [] ≡ xs = cc in let l : drop p file ≡ rest = cc in record { says = sym e; leaves = sym l; stand = tt }
  all_read (suc m) place p {xs} {rest} h =
      parts _ _ h λ a f1 e1 h1.
      parts _ _ h1 λ more f2 e2 h2.
      let o : One value after P file p a f1 = one place p a f1 e1 in
      let w : All value after P file m (after p) more f2 = all_read m (place + 1) (after p) (rw o.leaves at e2) in
      let e : a ∷ more ≡ xs = cc in
      let l : f2 ≡ rest = cc in
      record { says = sym e ∙ (λ i. o.says i ∷ w.says i); leaves = sym l ∙ w.leaves; stand = (o.stands, w.stand) }

pub length_values : {A : Type 0} (value : ℕ → A) (after : ℕ → ℕ) (m p : ℕ) → length (values value after m p) ≡ m
unfolding values
length_values value after zero p = refl
length_values value after (suc m) p = ap suc (length_values value after m (after p))

-- the i-th
pub value_th : {A : Type 0} (value : ℕ → A) (after : ℕ → ℕ) (m p i : ℕ) (d : A) → i < m → get_or (values value after m p) i d ≡ value (skip after i p)
unfolding values skip
value_th value after zero p i d h = absurd (omega arith)
value_th value after (suc m) p zero d h = refl
value_th value after (suc m) p (suc i) d h = value_th value after m (after p) i d (omega arith)

pub stands_th : (P : ℕ → Type 0) (after : ℕ → ℕ) (m p i : ℕ) → i < m → AllAt P after m p → P (skip after i p)
unfolding AllAt skip
stands_th P after zero p i h w = absurd (omega arith)
stands_th P after (suc m) p zero h w = w.0
stands_th P after (suc m) p (suc i) h w = stands_th P after m (after p) i (omega arith) w.1

-- none, and one more
pub skip_none : (after : ℕ → ℕ) (p : ℕ) → p ≡ skip after 0 p
unfolding skip
skip_none after p = refl

skip_last : (after : ℕ → ℕ) (i p : ℕ) → after (skip after i p) ≡ skip after (suc i) p
unfolding skip
skip_last after zero p = refl
skip_last after (suc i) p = skip_last after i (after p)

pub skip_one : (after : ℕ → ℕ) (i p : ℕ) {q r : ℕ} → q ≡ skip after i p → r ≡ after q → r ≡ skip after (i + 1) p
skip_one after i p e f = f ∙ ap after e ∙ skip_last after i p ∙ ap (λ (n : ℕ). skip after n p) (sym (add-one i))

-- records of three bytes
pub skip_threes : (i p : ℕ) → skip (λ (q : ℕ). q + 3) i p ≡ p + 3 * i
unfolding skip
skip_threes zero p = omega arith
skip_threes (suc i) p = skip_threes i (p + 3) ∙ (let e : p + 3 + 3 * i ≡ p + 3 * suc i = omega arith in e)
