-- From the code's arrays of four to the definitions' lists of n clocks, and from loops to tests over clocks. Assumes nothing.
use Prim.Native.Nat.{ℕ, zero, suc, ◌+◌, ◌-◌, ◌≤◌, ◌<◌}
use Rattle.automata.proofs.Laws.Tests.{and_false}
use native.Mathlib.Decide.{ℕ_discrete}
use native.Mathlib.Numerals.{add-one}
use native.Mathlib.Omega.{arith}
use native.Mathlib.Nat.{le_of_suc-le-suc}
use mathlib.Core.Path.{◌≡◌, refl, sym, ap, ◌∙◌}
use mathlib.Core.Bool.{Bool, true, false, ◌&&◌, ◌||◌}
use mathlib.Core.Option.{Option, none, some}
use mathlib.Core.List.{List, [], ◌∷◌, ◌++◌, map, append_assoc}
use lib.ListN.{length, get_or, take, drop, set, replicate, length-map, length-append, length-replicate}
use lib.Dec.{eqb}
use lib.Seq.{drop-nil, get_or-take, length-take-le, set_at, take_at}
use Rattle.automata.specs.Clocks.{at, each, allb, someb}
use Rattle.automata.specs.Row.{Row}
use Rattle.regions.specs.Values.{Few, bounds_of, row_of, padded, region_of, sought, found_of}
use Rattle.regions.specs.declared.clocks.Clocks.{Clocks}
use Rattle.automata.proofs.Laws.Lists.{zeros, length_each}

-- the first n clocks ------------------------------------------------------------------------------------------------------------------

-- a clock's number is that of the array
pub at_take : (n : ℕ) (xs : List ℕ) (z : ℕ) → z < n → at (take n xs) z ≡ at xs z
at_take n xs z h = get_or-take n xs z 0 h

-- n of the four
pub length_first : {A : Type 0} (n : ℕ) (xs : List A) → n ≤ 4 → length xs ≡ 4 → length (take n xs) ≡ n
length_first n xs h e = length-take-le n xs (omega arith)

-- one bound a clock
pub length_bounds : (k : Clocks) → k.count ≤ 4 → length k.bounds ≡ 4 → length (bounds_of k) ≡ k.count
length_bounds k h e = length_first k.count k.bounds h e

-- past the end there are zeros
pub at_out : (xs : List ℕ) (z : ℕ) → length xs ≤ z → at xs z ≡ 0
at_out [] z h = refl
at_out (x ∷ xs) zero h = absurd (omega arith)
at_out (x ∷ xs) (suc z) h = at_out xs z (omega arith)

-- nothing is left past the end
pub drop_out : {A : Type 0} (i : ℕ) (xs : List A) → length xs ≤ i → drop i xs ≡ []
drop_out i [] h = drop-nil i
drop_out zero (x ∷ xs) h = absurd (omega arith)
drop_out (suc i) (x ∷ xs) h = drop_out i xs (omega arith)

-- an element of a list of values, each as what it stands for
get_or_map : {A B : Type 0} (f : A → B) (xs : List A) (i : ℕ) (d : A) (e : B) → i < length xs → get_or (map f xs) i e ≡ f (get_or xs i d)
get_or_map f [] i d e h = absurd (omega arith)
get_or_map f (x ∷ xs) zero d e h = refl
get_or_map f (x ∷ xs) (suc i) d e h = get_or_map f xs i d e (le_of_suc-le-suc h)

-- an array of structs is known to be as long as that of what they are in memory
pub length_under : (A B : Type 0) (f : A → B) (xs : List A) (n : ℕ) → length (map f xs) ≡ n → length xs ≡ n
length_under A B f xs n e = sym (length-map xs f) ∙ e

-- the first m of an array, each as what it stands for
module _ {A B : Type 0} (f : A → B) (m : ℕ) (xs : List A) where
  -- there are m
  pub length_mapped : m ≤ length xs → length (map f (take m xs)) ≡ m
  length_mapped h = length-map (take m xs) f ∙ length-take-le m xs h

  -- each is that of the array
  pub get_or_mapped : (i : ℕ) (d : A) (e : B) → m ≤ length xs → i < m → get_or (map f (take m xs)) i e ≡ f (get_or xs i d)
  get_or_mapped i d e h l = get_or_map f (take m xs) i d e (rw (length-take-le m xs h) l) ∙ ap f (get_or-take m xs i d l)

-- a clock's number is k
abbrev pub at_is : List ℕ → ℕ → ℕ → Bool
at_is xs k z = eqb (at xs z) k

-- tests over all clocks, as loops that count up ---------------------------------------------------------------------------------------

module _ (f : ℕ → Bool) where
  -- one clock more passes
  pub allb_more : (z : ℕ) → allb z f ≡ true → f z ≡ true → allb (z + 1) f ≡ true
  unfolding allb
  allb_more z a b = rw (add-one, a, b)

  -- a clock that fails decides
  pub allb_fails : (n z : ℕ) → z < n → f z ≡ false → allb n f ≡ false
  unfolding allb
  allb_fails zero z h b = absurd (omega arith)
  allb_fails (suc n) z h b = go (ℕ_discrete z n) (allb_fails n z)
    where
      go : Dec (z ≡ n) → (z < n → f z ≡ false → allb n f ≡ false) → allb n f && f n ≡ false
      go (yes e) before = rw (← e, b) (and_false (allb z f))
      go (no e) before = rw (before (omega arith) b)

  -- all have passed
  pub allb_end : (n z : ℕ) → z ≤ n → n ≤ z → allb z f ≡ true → allb n f ≡ true
  allb_end n z h l e = let d : n ≡ z = omega arith in rw d e

  -- one clock more does not pass
  pub someb_more : (z : ℕ) → someb z f ≡ false → f z ≡ false → someb (z + 1) f ≡ false
  unfolding someb
  someb_more z a b = rw (add-one, b, a)

  -- a clock that passes decides
  pub someb_found : (n z : ℕ) → z < n → f z ≡ true → someb n f ≡ true
  unfolding someb
  someb_found zero z h b = absurd (omega arith)
  someb_found (suc n) z h b = go (ℕ_discrete z n) (someb_found n z)
    where
      or_true : (a : Bool) → a || true ≡ true
      or_true true = refl
      or_true false = refl

      go : Dec (z ≡ n) → (z < n → f z ≡ true → someb n f ≡ true) → f n || someb n f ≡ true
      go (yes e) before = rw (← e, b)
      go (no e) before = rw (before (omega arith) b) (or_true (f n))

  -- none has passed
  pub someb_end : (n z : ℕ) → z ≤ n → n ≤ z → someb z f ≡ false → someb n f ≡ false
  someb_end n z h l e = let d : n ≡ z = omega arith in rw d e

-- four numbers, filled from zeros -------------------------------------------------------------------------------------------------------

-- one clock more, at the end
pub each_more : (z : ℕ) (f : ℕ → ℕ) → each (z + 1) f ≡ each z f ++ (f z ∷ [])
each_more z f = rw add-one (go z f)
  where
    go : (z : ℕ) (f : ℕ → ℕ) → each (suc z) f ≡ each z f ++ (f z ∷ [])
    go zero f = refl
    go (suc z) f = ap (λ (l : List ℕ). f 0 ∷ l) (go z (λ (k : ℕ). f (suc k)))

-- one store more; zeros are the start
pub padded_next : (f : ℕ → ℕ) (z : ℕ) (ys : List ℕ) (x : ℕ) → z < 4 → ys ≡ padded (each z f) → x ≡ f z → set ys z x ≡ padded (each (z + 1) f)
padded_next f z ys x h p q =
    let d : 4 - z ≡ suc (4 - (z + 1)) = omega arith in
    rw (p, q, length_each z f, length_each (z + 1) f, d, each_more, append_assoc) (set_at (each z f) 0 (replicate (4 - (z + 1)) 0) (f z) z (length_each z f))

-- a clock's number is that of the list, and 0 after it
pub at_padded : (xs : List ℕ) (z : ℕ) → at (padded xs) z ≡ at xs z
at_padded xs z = go xs (4 - length xs) z
  where
    go : (xs : List ℕ) (m z : ℕ) → at (xs ++ replicate m 0) z ≡ at xs z
    go [] m z = zeros m z
    go (x ∷ xs) m zero = refl
    go (x ∷ xs) m (suc z) = go xs m z

-- there are four
pub length_padded : (xs : List ℕ) → length xs ≤ 4 → length (padded xs) ≡ 4
length_padded xs h = simp (length-append, length-replicate) (omega arith)

-- the list is in front
pub take_padded : (n : ℕ) (xs : List ℕ) → length xs ≡ n → take n (padded xs) ≡ xs
take_padded n xs e = take_at xs (replicate (4 - length xs) 0) n e

-- regions -------------------------------------------------------------------------------------------------------------------------------

-- the row of a row's region is the row
pub row_region : (n : ℕ) (r : Row) → length r.intervals ≡ n → length r.ranks ≡ n → row_of n (region_of r) ≡ r
row_region n r p q =
    let a : take n (padded r.intervals) ≡ r.intervals = take_padded n r.intervals p in
    let b : take n (padded r.ranks) ≡ r.ranks = take_padded n r.ranks q in
    λ i. record { location = r.location; intervals = a i; ranks = b i }

-- what is found is what was sought
pub found_sought : (n : ℕ) (o : Option Row) → ((r : Row) → o ≡ some r → (length r.intervals ≡ n) × (length r.ranks ≡ n)) → found_of n (sought o) ≡ o
found_sought n none f = refl
found_sought n (some r) f = ap some (row_region n r (f r refl).0 (f r refl).1)

-- what the type says of clocks
pub few_of : (k : Clocks) → Few k
few_of k = record { few = k.few; low = k.low }
