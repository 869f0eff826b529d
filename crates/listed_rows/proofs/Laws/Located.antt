-- The rows of a location stand together in an ascending list. Assumes nothing.
use Prim.Native.Nat.{ℕ, zero, suc, ◌≤◌, ◌<◌}
use native.Mathlib.Decide.{dec_le, dec_lt, ℕ_discrete}
use native.Mathlib.Omega.{arith}
use mathlib.Core.Path.{◌≡◌, refl}
use mathlib.Core.Logic.{inl, inr}
use mathlib.Core.List.{List, [], ◌∷◌}
use lib.ListN.{length, take, replicate}
use Rattle.automata.specs.Row.{Row, Before, Below}
use Rattle.automata.specs.Closed.{Ascends}
use Rattle.automata.specs.Checks.{belowb}
use Rattle.regions.specs.Values.{row_of}
use Rattle.regions.specs.declared.region.Region.{Region}
use Rattle.automata.proofs.Laws.Tests.{refutes}
use Rattle.regions.proofs.Laws.Values.{length_first}
use Rattle.automata.proofs.Laws.Checks.{belowb_law}
use Rattle.listed_rows.specs.Listed.{listed_row, listed_rows, Splits}
use Rattle.listed_rows.specs.Located.{Starts, Together}
use Rattle.listed_rows.proofs.Laws.Listed.{listed_rise}
use Rattle.listed_rows.proofs.Laws.ListedNumbers.{intervals_long, ranks_long}

-- the least row of a location ------------------------------------------------------------------------------------------------------------

abbrev pub least_in : ℕ → Region
least_in l = record { location = l; intervals = replicate 4 0; ranks = replicate 4 0 }

-- no list of numbers is before zeros of its length
not_before_zeros : (xs : List ℕ) (n m : ℕ) → Before xs (take n (replicate m 0)) → length {A = ℕ} (take n (replicate m 0)) ≤ length xs → ⊥
not_before_zeros xs zero m b h = go xs b
  where
    go : (xs : List ℕ) → Before xs [] → ⊥
    go [] b = b
    go (x ∷ xs) b = b
not_before_zeros xs (suc n) zero b h = go xs b
  where
    go : (xs : List ℕ) → Before xs [] → ⊥
    go [] b = b
    go (x ∷ xs) b = b
not_before_zeros [] (suc n) (suc m) b h = omega arith
not_before_zeros (x ∷ xs) (suc n) (suc m) (inl b) h = omega arith
not_before_zeros (x ∷ xs) (suc n) (suc m) (inr (_, b)) h = not_before_zeros xs n m b (omega arith)

-- only rows of the locations before are below it
below_least : (r : Row) (n l : ℕ) → n ≤ 4 → length r.intervals ≡ n → length r.ranks ≡ n → Below r (row_of n (least_in l)) → r.location < l
below_least r n l few p q (inl b) = b
below_least r n l few p q (inr (_, inl b)) =
    absurd (not_before_zeros r.intervals n 4 b (let z : length {A = ℕ} (take n (replicate 4 0)) ≡ n = length_first n (replicate 4 0) few refl in omega arith))
below_least r n l few p q (inr (_, inr (_, b))) =
    absurd (not_before_zeros r.ranks n 4 b (let z : length {A = ℕ} (take n (replicate 4 0)) ≡ n = length_first n (replicate 4 0) few refl in omega arith))

below_location : (r s : Row) → Below r s → r.location ≤ s.location
below_location r s (inl b) = omega arith
below_location r s (inr (e, _)) = omega arith

-- where the rows of a location start -----------------------------------------------------------------------------------------------------

module _ (n : ℕ) (list : List ℕ) (count : ℕ) where
  pub starts : (l m : ℕ) → n ≤ 4 → Splits (listed_row n list) count (row_of n (least_in l)) m → Starts n list count l m
  starts l m few S = record { within = S.within; before = before; others = others }
    where
      before : (i : ℕ) → i < m → (listed_row n list i).location < l
      before i h =
          below_least (listed_row n list i) n l few (intervals_long n list i) (ranks_long n list i)
          ((belowb_law (listed_row n list i) (row_of n (least_in l))).0 (S.below i h))

      others : (i : ℕ) → m ≤ i → i < count → l ≤ (listed_row n list i).location
      others i h k = go (dec_le l (listed_row n list i).location)
        where
          go : Dec (l ≤ (listed_row n list i).location) → l ≤ (listed_row n list i).location
          go (yes g) = g
          go (no g) =
              absurd (refutes (belowb (listed_row n list i) (row_of n (least_in l))) (belowb_law (listed_row n list i) (row_of n (least_in l))) (S.others i h k) (inl (omega arith)))

-- from where the rows of a location start, they are there up to each of them -------------------------------------------------------------

module _ (n : ℕ) (list : List ℕ) (count l start : ℕ) (S : Starts n list count l start) (a : Ascends (listed_rows n list count)) where
  pub up_to : (m : ℕ) → m < count → (listed_row n list m).location ≡ l → (i : ℕ) → start ≤ i → i ≤ m → (listed_row n list i).location ≡ l
  up_to m k e i h g = at_or_before (ℕ_discrete i m)
    where
      at_or_before : Dec (i ≡ m) → (listed_row n list i).location ≡ l
      at_or_before (yes q) = rw q e
      at_or_before (no q) =
          omega (arith, e, S.others i h (omega arith), below_location (listed_row n list i) (listed_row n list m) (listed_rise n list count a i m (omega arith) k))

-- the rows of a location, and no others, stand from its start to its end ------------------------------------------------------------------

module _ (n : ℕ) (list : List ℕ) (count l start end : ℕ) (S : Starts n list count l start) (E : Together n list count start l end) (a : Ascends (listed_rows n list count)) where
  pub past : (j : ℕ) → j < count → end ≤ j → l < (listed_row n list j).location
  past j k g = at_or_after (ℕ_discrete j end)
    where
      first : l < (listed_row n list end).location
      first = let h : end < count = omega arith in omega (arith, S.others end E.from h, E.next h)

      at_or_after : Dec (j ≡ end) → l < (listed_row n list j).location
      at_or_after (yes q) = rw q first
      at_or_after (no q) =
          omega (arith, first, below_location (listed_row n list end) (listed_row n list j) (listed_rise n list count a end j (omega arith) k))

  pub between : (j : ℕ) → j < count → (listed_row n list j).location ≡ l → (start ≤ j) × (j < end)
  between j k e = (from (dec_le start j), to (dec_lt j end))
    where
      from : Dec (start ≤ j) → start ≤ j
      from (yes h) = h
      from (no h) = absurd (omega (arith, S.before j (omega arith)))

      to : Dec (j < end) → j < end
      to (yes h) = h
      to (no h) = absurd (omega (arith, past j k (omega arith)))
