-- The passes over the rows of a region list for 14 and 15, each up to the first row that fails. Assumes nothing.
use Prim.Native.Nat.{ℕ, zero, suc, ◌+◌, ◌-◌, ◌≤◌, ◌<◌}
use native.Mathlib.Decide.{dec_le}
use Rattle.regions.specs.Values.{row_of, region_of}
use native.Mathlib.Numerals.{add-one}
use native.Mathlib.Omega.{arith}
use mathlib.Core.Path.{◌≡◌, refl, sym, ap, ◌∙◌}
use mathlib.Core.Bool.{Bool, true, false}
use mathlib.Core.List.{List, [], ◌∷◌}
use lib.ListN.{length, get_or, drop, length-drop, drop_of_length-le}
use lib.Seq.{drop-cons}
use Rattle.automata.specs.Row.{Row}
use Rattle.automata.specs.Automaton.{Table, final}
use Rattle.automata.specs.Checks.{belowb}
use Rattle.table_files.specs.Reading.{good, bad, carry, require}
use Rattle.calls.specs.RegionFile.{ascending, none_final}
use Rattle.listed_rows.specs.Listed.{listed_row, listed_rows}
use Rattle.listed_rows.proofs.Laws.Listed.{listed_length, listed_at, listed_again}

pub drop_next : (rows : List Row) (i : ℕ) (d : Row) → i < length rows → drop i rows ≡ get_or rows i d ∷ drop (i + 1) rows
drop_next rows i d h = drop-cons rows i d h ∙ ap (λ (k : ℕ). get_or rows i d ∷ drop k rows) (sym (add-one i))

short_ascends : (place : ℕ) (rows : List Row) (file : List ℕ) → length rows ≤ 1 → ascending place rows file ≡ good tt file
unfolding ascending
short_ascends place [] file h = refl
short_ascends place (r ∷ []) file h = refl
short_ascends place (r ∷ (s ∷ rows)) file h = absurd (omega arith)

module _ (n : ℕ) (list : List ℕ) (count : ℕ) where
  abbrev rows : List Row
  rows = listed_rows n list count

  rest_is : (i : ℕ) → i < count → drop i rows ≡ listed_row n list i ∷ drop (i + 1) rows
  rest_is i h =
      drop_next rows i (listed_row n list i) (omega (arith, listed_length n list count))
      ∙ ap (λ (r : Row). r ∷ drop (i + 1) rows) (listed_at n list count i (listed_row n list i) h)

  -- all rows are passed
  ended : (i : ℕ) → count ≤ i → drop i rows ≡ []
  ended i h = drop_of_length-le rows {i = i} (omega (arith, listed_length n list count))

  -- 14 ---------------------------------------------------------------------------------------------------------------------------

  -- the rows up to row i ascend
  pub record OrderedTo (i : ℕ) : Type 0 where
    pub within : i ≤ count
    pub so_far : (file : List ℕ) → ascending 1 rows file ≡ ascending (i + 1) (drop i rows) file

  pub ordered_none : OrderedTo 0
  ordered_none = record { within = omega arith; so_far = λ file. refl }

  module _ (i : ℕ) (S : OrderedTo i) where
    two_rows : i + 1 < count → drop i rows ≡ listed_row n list i ∷ (listed_row n list (i + 1) ∷ drop (i + 1 + 1) rows)
    two_rows l = rest_is i (omega arith) ∙ ap (λ (more : List Row). listed_row n list i ∷ more) (rest_is (i + 1) l)

    pub ordered_on : i + 1 < count → belowb (listed_row n list i) (listed_row n list (i + 1)) ≡ true → OrderedTo (i + 1)
    unfolding ascending carry require
    ordered_on l b = record {
      within = omega arith;
      so_far = λ file. S.so_far file ∙ rw (two_rows l, b, rest_is (i + 1) l);
    }

    pub ordered_fails : i + 1 < count → belowb (listed_row n list i) (listed_row n list (i + 1)) ≡ false → (file : List ℕ) → ascending 1 rows file ≡ bad 14 (i + 2)
    unfolding ascending carry require
    ordered_fails l b file =
        let e : i + 1 + 1 ≡ i + 2 = omega arith in
        S.so_far file ∙ rw (two_rows l, b, e)

    pub ordered_all : count ≤ i + 1 → (file : List ℕ) → ascending 1 rows file ≡ good tt file
    ordered_all l file = S.so_far file ∙ short_ascends (i + 1) (drop i rows) file (rw length-drop (omega (arith, listed_length n list count)))

  -- row i, which is read again, is above the row before it
  abbrev pub above : ℕ → Bool
  above i = belowb (listed_row n list (i - 1)) (row_of n (region_of (listed_row n list i)))

  above_is : (i : ℕ) → above (i + 1) ≡ belowb (listed_row n list i) (listed_row n list (i + 1))
  above_is i = let e : i + 1 - 1 ≡ i = omega arith in λ j. belowb (listed_row n list (e j)) (listed_again n list (i + 1) (region_of (listed_row n list (i + 1))) refl j)

  ordered_so_far : (i : ℕ) → i + 1 ≤ count → ((k : ℕ) → 1 ≤ k → k < i + 1 → above k ≡ true) → OrderedTo i
  ordered_so_far zero l h = ordered_none
  ordered_so_far (suc i) l h = rw add-one at (ordered_on i (ordered_so_far i (omega arith) (λ k a b. h k a (omega arith))) (omega arith) (sym (above_is i) ∙ h (i + 1) (omega arith) (omega arith)))

  -- every row is
  pub all_above : ((k : ℕ) → 1 ≤ k → k < count → above k ≡ true) → (file : List ℕ) → ascending 1 rows file ≡ good tt file
  all_above h = go (dec_le count 1)
    where
      go : Dec (count ≤ 1) → (file : List ℕ) → ascending 1 rows file ≡ good tt file
      go (yes l) = ordered_all 0 ordered_none (omega arith)
      go (no l) = ordered_all (count - 1) (ordered_so_far (count - 1) (omega arith) (λ k a b. h k a (omega arith))) (omega arith)

  -- row i is the first that is not
  pub first_below : (i : ℕ) → 1 ≤ i → i < count → above i ≡ false → ((k : ℕ) → 1 ≤ k → k < i → above k ≡ true) → (file : List ℕ) → ascending 1 rows file ≡ bad 14 (i + 1)
  first_below zero a l b h file = absurd (omega arith)
  first_below (suc i) a l b h file =
      let e : i + 2 ≡ suc i + 1 = omega arith in
      ordered_fails i (ordered_so_far i (omega arith) (λ k x y. h k x (omega arith))) (omega arith) (sym (above_is i) ∙ ap above (add-one i) ∙ b) file
      ∙ ap (bad 14) e

  -- 15 ---------------------------------------------------------------------------------------------------------------------------

  module _ (T : Table) where
    -- no row before row i has a final location
    pub record NoneFinalTo (i : ℕ) : Type 0 where
      pub within : i ≤ count
      pub so_far : (file : List ℕ) → none_final T 1 rows file ≡ none_final T (i + 1) (drop i rows) file

    pub final_none : NoneFinalTo 0
    final_none = record { within = omega arith; so_far = λ file. refl }

    module _ (i : ℕ) (S : NoneFinalTo i) where
      pub final_on : i < count → final T (listed_row n list i).location ≡ false → NoneFinalTo (i + 1)
      unfolding none_final carry require
      final_on l b = record { within = omega arith; so_far = λ file. S.so_far file ∙ rw (rest_is i l, b) }

      pub final_found : i < count → final T (listed_row n list i).location ≡ true → (file : List ℕ) → none_final T 1 rows file ≡ bad 15 (i + 1)
      unfolding none_final carry require
      final_found l b file = S.so_far file ∙ rw (rest_is i l, b)

      pub final_all : count ≤ i → (file : List ℕ) → none_final T 1 rows file ≡ good tt file
      unfolding none_final
      final_all l file = S.so_far file ∙ rw (ended i l)

    finals_so_far : (i : ℕ) → i ≤ count → ((k : ℕ) → 0 ≤ k → k < i → final T (listed_row n list k).location ≡ false) → NoneFinalTo i
    finals_so_far zero l h = final_none
    finals_so_far (suc i) l h = rw add-one at (final_on i (finals_so_far i (omega arith) (λ k a b. h k a (omega arith))) (omega arith) (h i (omega arith) (omega arith)))

    -- no row has one
    pub none_are_final : ((k : ℕ) → 0 ≤ k → k < count → final T (listed_row n list k).location ≡ false) → (file : List ℕ) → none_final T 1 rows file ≡ good tt file
    none_are_final h = final_all count (finals_so_far count (omega arith) h) (omega arith)

    -- row i is the first that has one
    pub first_is_final : (i : ℕ) → i < count → final T (listed_row n list i).location ≡ true → ((k : ℕ) → 0 ≤ k → k < i → final T (listed_row n list k).location ≡ false)
        → (file : List ℕ) → none_final T 1 rows file ≡ bad 15 (i + 1)
    first_is_final i l b h = final_found i (finals_so_far i (omega arith) h) l b
