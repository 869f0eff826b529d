-- The numbers of a row in their order: how they decide the order of rows, and a region with one of them changed. Assumes nothing.
use Prim.Native.Nat.{ℕ, zero, suc, ◌+◌, ◌*◌, ◌-◌, ◌≤◌, ◌<◌}
use native.Mathlib.Nat.{zero-add}
use native.Mathlib.Decide.{dec_le}
use native.Mathlib.Omega.{arith}
use mathlib.Core.Path.{◌≡◌, sym, ap, ◌∙◌}
use mathlib.Core.Logic.{inl, inr}
use mathlib.Core.List.{List, [], ◌∷◌, ◌++◌}
use lib.ListN.{length, take, set, replicate, length-append, length-set, get_or-append}
use lib.Seq.{set-append_left, take-set-lt, get_or-append-add}
use borrow.Author.Tests.{le-leb, lt-leb}
use Rattle.automata.specs.Clocks.{at}
use Rattle.automata.specs.Row.{Row, Before, Below}
use Rattle.regions.specs.Values.{row_of, padded, region_of}
use Rattle.regions.specs.Order.{numbers, put}
use Rattle.edge_walk.specs.Choice.{Agree}
use Rattle.regions.specs.declared.region.Region.{Region}
use Rattle.automata.proofs.Laws.Checks.{same_law, beforeb_law, same_row_law, belowb_law}
use Rattle.regions.proofs.Laws.Values.{length_first}
use Rattle.regions.proofs.Laws.OrderTests.{row_same, row_below}

-- lists that agree before place i -------------------------------------------------------------------------------------------------------

pub before_at : (xs ys : List ℕ) (i : ℕ) → length xs ≡ length ys → i < length xs → Agree i xs ys → at xs i < at ys i → Before xs ys
before_at [] ys i e l a h = absurd (omega arith)
before_at (x ∷ xs) [] i e l a h = absurd (omega arith)
before_at (x ∷ xs) (y ∷ ys) zero e l a h = inl h
before_at (x ∷ xs) (y ∷ ys) (suc i) e l a h = inr (a 0 (omega arith), before_at xs ys i (omega arith) (omega arith) (λ j k. a (suc j) (omega arith)) h)

pub before_where : (xs ys : List ℕ) → length xs ≡ length ys → Before xs ys → (j : ℕ) × (j < length xs) × Agree j ys xs × (at xs j < at ys j)
before_where [] [] e b = absurd b
before_where [] (y ∷ ys) e b = absurd (omega arith)
before_where (x ∷ xs) [] e b = absurd b
before_where (x ∷ xs) (y ∷ ys) e (inl h) = (0, omega arith, λ m l. absurd (omega arith), h)
before_where (x ∷ xs) (y ∷ ys) e (inr (q, b)) = let (j, l, a, h) = before_where xs ys (omega arith) b in (suc j, omega arith, further j a, h)
  where
    further : (j : ℕ) → Agree j ys xs → Agree (suc j) (y ∷ ys) (x ∷ xs)
    further j a zero l = sym q
    further j a (suc m) l = a m (omega arith)

-- rows ----------------------------------------------------------------------------------------------------------------------------------

module _ (n : ℕ) (x : Row) (js : length x.intervals ≡ n) where
  pub interval_number : (z : ℕ) → z < n → at (numbers x) (suc z) ≡ at x.intervals z
  interval_number z h = get_or-append x.intervals x.ranks 0 z (omega arith)

  pub rank_number : (z : ℕ) → at (numbers x) (suc (n + z)) ≡ at x.ranks z
  rank_number z = rw (← js) (get_or-append-add x.intervals x.ranks z 0)

  pub count_numbers : length x.ranks ≡ n → length (numbers x) ≡ 1 + 2 * n
  count_numbers ks = omega (arith, length-append x.intervals x.ranks)

module _ (r s : Row) (e : length r.intervals ≡ length s.intervals) where
  pub below_before : Below r s → Before (numbers r) (numbers s)
  below_before b = (beforeb_law (numbers r) (numbers s)).0 (row_below r s e ∙ (belowb_law r s).1 b)

  pub before_below : Before (numbers r) (numbers s) → Below r s
  before_below b = (belowb_law r s).0 (sym (row_below r s e) ∙ (beforeb_law (numbers r) (numbers s)).1 b)

  pub numbers_equal : numbers r ≡ numbers s → r ≡ s
  numbers_equal q = (same_row_law r s).0 (sym (row_same r s e) ∙ (same_law (numbers r) (numbers s)).1 q)

-- one number changed --------------------------------------------------------------------------------------------------------------------

set_append_right : (xs ys : List ℕ) (z k : ℕ) → set (xs ++ ys) (length xs + z) k ≡ xs ++ set ys z k
set_append_right [] ys z k = rw zero-add
set_append_right (x ∷ xs) ys z k =
    let e : suc (length xs) + z ≡ suc (length xs + z) = omega arith in
    rw e (ap (λ (us : List ℕ). x ∷ us) (set_append_right xs ys z k))

set_cons : (x : ℕ) (xs : List ℕ) (i z k : ℕ) → i ≡ suc z → x ∷ set xs z k ≡ set (x ∷ xs) i k
set_cons x xs i z k e = rw e

-- four numbers whose last are zeros stay so
padded_set : (n : ℕ) (xs : List ℕ) (z k : ℕ) → z < n → z < length (take n xs) → padded (take n xs) ≡ xs → padded (take n (set xs z k)) ≡ set xs z k
padded_set n xs z k h l e =
    rw (take-set-lt n xs z k h, length-set (take n xs) z k)
    (sym (set-append_left (take n xs) (replicate (4 - length (take n xs)) 0) z k l) ∙ ap (λ (us : List ℕ). set us z k) e)

module _ (n : ℕ) (v : Region) (i k : ℕ) (few : n ≤ 4) (four : length v.intervals ≡ 4) (four' : length v.ranks ≡ 4) (begun : 0 < i) (within : i < 1 + 2 * n) where
  js : List ℕ
  js = take n v.intervals

  ks : List ℕ
  ks = take n v.ranks

  js_long : length js ≡ n
  unfolding js
  js_long = length_first n v.intervals few four

  ks_long : length ks ≡ n
  unfolding ks
  ks_long = length_first n v.ranks few four'

  pub put_numbers : numbers (row_of n (put n v i k)) ≡ set (numbers (row_of n v)) i k
  unfolding put js ks
  put_numbers = go (dec_le i n)
    where
      go : Dec (i ≤ n) → numbers (row_of n (put n v i k)) ≡ set (numbers (row_of n v)) i k
      go (yes h) =
          rw (le-leb i n h, take-set-lt n v.intervals (i - 1) k (omega arith), ← set-append_left js ks (i - 1) k (omega (arith, js_long)))
          (set_cons v.location (js ++ ks) i (i - 1) k (omega arith))
      go (no h) =
          let w : i - 1 ≡ length js + (i - 1 - n) = omega (arith, js_long) in
          rw (lt-leb i n (omega arith), take-set-lt n v.ranks (i - 1 - n) k (omega arith), ← set_append_right js ks (i - 1 - n) k, ← w)
          (set_cons v.location (js ++ ks) i (i - 1) k (omega arith))

  pub put_plain : region_of (row_of n v) ≡ v → region_of (row_of n (put n v i k)) ≡ put n v i k
  unfolding put js ks
  put_plain e = go (dec_le i n) (ap (λ (u : Region). u.intervals) e) (ap (λ (u : Region). u.ranks) e)
    where
      go : Dec (i ≤ n) → padded js ≡ v.intervals → padded ks ≡ v.ranks → region_of (row_of n (put n v i k)) ≡ put n v i k
      go (yes h) p q =
          let c = padded_set n v.intervals (i - 1) k (omega arith) (omega (arith, js_long)) p in
          rw (le-leb i n h) (λ t. record { location = v.location; intervals = c t; ranks = q t })
      go (no h) p q =
          let c = padded_set n v.ranks (i - 1 - n) k (omega arith) (omega (arith, ks_long)) q in
          rw (lt-leb i n (omega arith)) (λ t. record { location = v.location; intervals = p t; ranks = c t })
