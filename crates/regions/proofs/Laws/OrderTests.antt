-- The order of rows as the code takes it, number by number. Assumes nothing.
use Prim.Native.Nat.compare
use Prim.Native.Nat.{ℕ, zero, suc, ◌+◌, ◌*◌, ◌-◌, ◌≤◌, ◌<◌}
use native.Mathlib.Numerals.{add-one}
use native.Mathlib.Omega.{arith}
use mathlib.Core.Path.{◌≡◌, refl, sym}
use mathlib.Core.Bool.{Bool, true, false, cond, ◌&&◌, ◌||◌}
use mathlib.Core.List.{List, [], ◌∷◌, ◌++◌}
use lib.ListN.{length, take, drop, length-append, get_or-append}
use lib.Dec.{eqb, ltb}
use lib.Seq.{drop-cons, get_or-append-add}
use borrow.Author.Tests.{eq-eqb, ne_eqb, eqb-true, le-ltb}
use Rattle.automata.specs.Clocks.{at}
use Rattle.automata.specs.Row.{Row}
use Rattle.automata.specs.Checks.{same, beforeb, same_row, belowb}
use Rattle.regions.specs.Order.{numbers, shared}
use Rattle.regions.specs.Values.{row_of}
use Rattle.regions.specs.declared.region.Region.{Region}
use Rattle.regions.proofs.Laws.Values.{at_take, length_first, drop_out}

-- two lists of equal length -------------------------------------------------------------------------------------------------------------

-- they are the same where they share all
pub same_shared : (xs ys : List ℕ) → length xs ≡ length ys → eqb (shared xs ys) (length xs) ≡ same xs ys
unfolding shared
same_shared [] [] e = eq-eqb 0 0 refl
same_shared [] (y ∷ ys) e = absurd (omega arith)
same_shared (x ∷ xs) [] e = absurd (omega arith)
same_shared (x ∷ xs) (y ∷ ys) e = go (eqb x y) (same_shared xs ys (omega arith))
  where
    go : (b : Bool) → eqb (shared xs ys) (length xs) ≡ same xs ys → eqb (cond b (suc (shared xs ys)) 0) (suc (length xs)) ≡ b && same xs ys
    go true h = rw compare.suc-suc h
    go false h = ne_eqb 0 (suc (length xs)) (λ q. omega arith)

-- the first number that they do not share decides
pub before_shared : (xs ys : List ℕ) → length xs ≡ length ys → ltb (at xs (shared xs ys)) (at ys (shared xs ys)) ≡ beforeb xs ys
unfolding shared
before_shared [] [] e = le-ltb 0 0 (omega arith)
before_shared [] (y ∷ ys) e = absurd (omega arith)
before_shared (x ∷ xs) [] e = absurd (omega arith)
before_shared (x ∷ xs) (y ∷ ys) e = go (eqb x y) refl (before_shared xs ys (omega arith))
  where
    or_false : (b : Bool) → b ≡ b || false
    or_false true = refl
    or_false false = refl

    go : (b : Bool) → eqb x y ≡ b → ltb (at xs (shared xs ys)) (at ys (shared xs ys)) ≡ beforeb xs ys
        → ltb (at (x ∷ xs) (cond b (suc (shared xs ys)) 0)) (at (y ∷ ys) (cond b (suc (shared xs ys)) 0)) ≡ ltb x y || (b && beforeb xs ys)
    go true q h = let d : x ≡ y = eqb-true x y q in rw (le-ltb x y (omega arith)) h
    go false q h = or_false (ltb x y)

-- i numbers are shared, and those that the rest shares
abbrev pub Shared : List ℕ → List ℕ → ℕ → Type 0
Shared xs ys i = shared xs ys ≡ i + shared (drop i xs) (drop i ys)

module _ (xs ys : List ℕ) where
  pub shared_none : Shared xs ys 0
  shared_none = omega arith

  module _ (e : length xs ≡ length ys) (i : ℕ) (s : Shared xs ys i) where
    first : i < length xs → shared (drop i xs) (drop i ys) ≡ cond (eqb (at xs i) (at ys i)) (suc (shared (drop (i + 1) xs) (drop (i + 1) ys))) 0
    unfolding shared
    first h = let k : i < length ys = omega arith in rw (drop-cons xs i 0 h, drop-cons ys i 0 k, add-one)

    -- the next is shared
    pub shared_on : i < length xs → at xs i ≡ at ys i → Shared xs ys (i + 1)
    shared_on h q = let f = rw (eq-eqb (at xs i) (at ys i) q) at (first h) in omega arith

    -- the next is not
    pub shared_here : i < length xs → (at xs i ≡ at ys i → ⊥) → i ≡ shared xs ys
    shared_here h q = let f = rw (ne_eqb (at xs i) (at ys i) q) at (first h) in omega arith

    -- there is no next
    pub shared_all : length xs ≤ i → i ≡ shared xs ys
    unfolding shared
    shared_all h = let f : shared (drop i xs) (drop i ys) ≡ 0 = rw (drop_out i xs h) in omega arith

-- one after the other -----------------------------------------------------------------------------------------------------------------

module _ (us vs : List ℕ) where
  same_append : (xs ys : List ℕ) → length xs ≡ length ys → same (xs ++ us) (ys ++ vs) ≡ same xs ys && same us vs
  same_append [] [] e = refl
  same_append [] (y ∷ ys) e = absurd (omega arith)
  same_append (x ∷ xs) [] e = absurd (omega arith)
  same_append (x ∷ xs) (y ∷ ys) e = go (eqb x y) (same_append xs ys (omega arith))
    where
      go : (b : Bool) → same (xs ++ us) (ys ++ vs) ≡ same xs ys && same us vs → b && same (xs ++ us) (ys ++ vs) ≡ b && same xs ys && same us vs
      go true h = h
      go false h = refl

  before_append : (xs ys : List ℕ) → length xs ≡ length ys → beforeb (xs ++ us) (ys ++ vs) ≡ beforeb xs ys || (same xs ys && beforeb us vs)
  before_append [] [] e = refl
  before_append [] (y ∷ ys) e = absurd (omega arith)
  before_append (x ∷ xs) [] e = absurd (omega arith)
  before_append (x ∷ xs) (y ∷ ys) e = go (ltb x y) (eqb x y) (before_append xs ys (omega arith))
    where
      go : (a b : Bool) → beforeb (xs ++ us) (ys ++ vs) ≡ beforeb xs ys || (same xs ys && beforeb us vs)
          → a || (b && beforeb (xs ++ us) (ys ++ vs)) ≡ (a || (b && beforeb xs ys)) || (b && same xs ys && beforeb us vs)
      go true b h = refl
      go false true h = h
      go false false h = refl

-- rows ----------------------------------------------------------------------------------------------------------------------------------

module _ (r s : Row) (e : length r.intervals ≡ length s.intervals) where
  pub row_same : same (numbers r) (numbers s) ≡ same_row r s
  row_same = go (eqb r.location s.location) (same_append r.ranks s.ranks r.intervals s.intervals e)
    where
      go : (b : Bool) → same (r.intervals ++ r.ranks) (s.intervals ++ s.ranks) ≡ same r.intervals s.intervals && same r.ranks s.ranks
          → b && same (r.intervals ++ r.ranks) (s.intervals ++ s.ranks) ≡ b && same r.intervals s.intervals && same r.ranks s.ranks
      go true h = h
      go false h = refl

  pub row_below : beforeb (numbers r) (numbers s) ≡ belowb r s
  row_below = rw (before_append r.ranks s.ranks r.intervals s.intervals e)

-- regions of n clocks -------------------------------------------------------------------------------------------------------------------

module _ (n : ℕ) (v : Region) (few : n ≤ 4) (four : length v.intervals ≡ 4) where
  pub number_interval : (i : ℕ) → (i ≡ 0 → ⊥) → i ≤ n → at v.intervals (i - 1) ≡ at (numbers (row_of n v)) i
  number_interval zero h l = absurd (h refl)
  number_interval (suc i) h l = go (suc i - 1) (omega arith)
    where
      go : (z : ℕ) → z ≡ i → at v.intervals z ≡ at (take n v.intervals ++ take n v.ranks) i
      go z e =
          rw (e, get_or-append (take n v.intervals) (take n v.ranks) 0 i (rw (length_first n v.intervals few four) (omega arith)))
          (sym (at_take n v.intervals i (omega arith)))

  pub number_rank : (i : ℕ) → n < i → i < 1 + 2 * n → at v.ranks (i - 1 - n) ≡ at (numbers (row_of n v)) i
  number_rank zero h l = absurd (omega arith)
  number_rank (suc i) h l = go (suc i - 1 - n) (omega arith) (length_first n v.intervals few four)
    where
      go : (z : ℕ) → i ≡ n + z → length (take n v.intervals) ≡ n → at v.ranks z ≡ at (take n v.intervals ++ take n v.ranks) i
      go z e f =
          let q : i ≡ length (take n v.intervals) + z = omega arith in
          rw (q, get_or-append-add (take n v.intervals) (take n v.ranks) z 0) (sym (at_take n v.ranks z (omega arith)))

  pub length_numbers : length v.ranks ≡ 4 → length (numbers (row_of n v)) ≡ 1 + 2 * n
  length_numbers f = rw (length-append, length_first n v.intervals few four, length_first n v.ranks few f) (omega arith)
