-- The rows in a region list's bytes: where each stands, and what a search by halves finds. Assumes nothing.
use Prim.Native.Nat.{ℕ, zero, suc, ◌+◌, ◌*◌, ◌≤◌, ◌<◌}
use Rattle.automata.proofs.Laws.Lists.{length_from}
use native.Mathlib.Nat.{zero-add, suc-mul, mul-le-mul_right}
use native.Mathlib.Decide.{ℕ_discrete}
use native.Mathlib.Omega.{arith}
use mathlib.Core.Path.{◌≡◌, sym, ap, ◌∙◌}
use mathlib.Core.Bool.{Bool, true, false}
use mathlib.Core.List.{List, map}
use lib.ListN.{length, get_or, length-map}
use Rattle.automata.specs.Row.{Row, Below}
use Rattle.automata.specs.Closed.{Mem, Ascends}
use Rattle.automata.specs.Rows.{from}
use Rattle.automata.specs.Checks.{same_row, belowb, has}
use Rattle.regions.specs.Values.{row_of, region_of}
use Rattle.regions.specs.declared.region.Region.{Region}
use Rattle.automata.proofs.Laws.Order.{Tri, is_lt, is_eq, is_gt, tri}
use Rattle.automata.proofs.Laws.Tests.{fails, refutes}
use Rattle.automata.proofs.Laws.Members.{get_or_in, in_get_or}
use Rattle.automata.proofs.Laws.Checks.{same_row_law, belowb_law, has_law}
use Rattle.listed_rows.specs.Listed.{listed_bytes, listed_row, listed_rows, Splits}
use Rattle.rows.proofs.Laws.RowRecords.{row_in_back}
use Rattle.automata.proofs.Laws.Ordered.{below_trans, below_itself, ascends_sorted, sorted_at}

-- row i ends before the list does
pub row_room : (s count i len : ℕ) → 4 + count * s ≤ len → i < count → 4 + i * s + s ≤ len
row_room s count i len h l = let m : suc i * s ≤ count * s = mul-le-mul_right s l in omega (arith, suc-mul i s)

-- the rows before one end before the list does
pub rows_room : (s count end len : ℕ) → 4 + count * s ≤ len → end ≤ count → 4 + end * s ≤ len
rows_room s count end len h l = let m : end * s ≤ count * s = mul-le-mul_right s l in omega arith

-- the row that was read again
pub listed_again : (n : ℕ) (list : List ℕ) (i : ℕ) (r : Region) → r ≡ region_of (listed_row n list i) → row_of n r ≡ listed_row n list i
unfolding listed_row
listed_again n list i r e = ap (row_of n) e ∙ row_in_back n (listed_bytes n list i)

-- rows by number -------------------------------------------------------------------------------------------------------------------

at_from : {A : Type 0} (f : ℕ → A) (a n i : ℕ) (d : A) → i < n → get_or (map f (from a n)) i d ≡ f (a + i)
at_from f a zero i d h = absurd (omega arith)
at_from f a (suc n) zero d h = let e : a ≡ a + 0 = omega arith in ap f e
at_from f a (suc n) (suc i) d h = let e : a + 1 + i ≡ a + suc i = omega arith in at_from f (a + 1) n i d (omega arith) ∙ ap f e

module _ (n : ℕ) (list : List ℕ) (count : ℕ) where
  pub listed_length : length (listed_rows n list count) ≡ count
  unfolding listed_rows
  listed_length = length-map (from 0 count) (listed_row n list) ∙ length_from 0 count

  pub listed_at : (i : ℕ) (d : Row) → i < count → get_or (listed_rows n list count) i d ≡ listed_row n list i
  unfolding listed_rows
  listed_at i d h = at_from (listed_row n list) 0 count i d h ∙ ap (listed_row n list) (zero-add i)

  pub listed_in : (i : ℕ) → i < count → Mem (listed_row n list i) (listed_rows n list count)
  listed_in i h = rw (← listed_at i (listed_row n list i) h) (get_or_in (listed_rows n list count) i (listed_row n list i) (omega (arith, listed_length)))

  pub in_listed : (w : Row) → Mem w (listed_rows n list count) → (i : ℕ) × (i < count) × (listed_row n list i ≡ w)
  in_listed w m = let (i, l, e) = in_get_or w m in (i, omega (arith, listed_length), sym (listed_at i w (omega (arith, listed_length))) ∙ e)

  pub listed_rise : Ascends (listed_rows n list count) → (i j : ℕ) → i < j → j < count → Below (listed_row n list i) (listed_row n list j)
  listed_rise a i j h l =
      let d = listed_row n list i in
      rw (listed_at i d (omega arith), listed_at j d l) at (sorted_at (listed_rows n list count) (ascends_sorted (listed_rows n list count) a) d i j h (omega (arith, listed_length)))

-- a search by halves -----------------------------------------------------------------------------------------------------------------

-- what is known of the rows outside low and high
pub record Searched (row : ℕ → Row) (count : ℕ) (w : Row) (low high : ℕ) : Type 0 where
  pub ordered : low ≤ high
  pub within : high ≤ count
  pub below : (i : ℕ) → i < low → belowb (row i) w ≡ true
  pub others : (i : ℕ) → high ≤ i → i < count → belowb (row i) w ≡ false

module _ (row : ℕ → Row) (count : ℕ) (w : Row) (low high : ℕ) (S : Searched row count w low high) where
  module _ (rise : (i j : ℕ) → i < j → j < count → Below (row i) (row j)) (m : ℕ) (above : low ≤ m) (under : m < high) where
    -- a row that is below has all before it below
    pub searched_up : belowb (row m) w ≡ true → Searched row count w (m + 1) high
    searched_up b = record { ordered = omega arith; within = S.within; below = λ i h. go i h (ℕ_discrete i m); others = S.others }
      where
        go : (i : ℕ) → i < m + 1 → Dec (i ≡ m) → belowb (row i) w ≡ true
        go i h (yes e) = rw e b
        go i h (no e) =
            (belowb_law (row i) w).1 (below_trans (row i) (row m) w (rise i m (omega arith) (omega (arith, S.within))) ((belowb_law (row m) w).0 b))

    -- a row that is not below has all after it not below
    pub searched_down : belowb (row m) w ≡ false → Searched row count w low m
    searched_down b = record { ordered = above; within = omega (arith, S.within); below = S.below; others = λ i h l. go i h l (ℕ_discrete i m) }
      where
        go : (i : ℕ) → m ≤ i → i < count → Dec (i ≡ m) → belowb (row i) w ≡ false
        go i h l (yes e) = rw e b
        go i h l (no e) =
            fails (belowb (row i) w) (belowb_law (row i) w) (λ k. refutes (belowb (row m) w) (belowb_law (row m) w) b
            (below_trans (row m) (row i) w (rise m i (omega arith) l) k))

  pub searched_all : high ≤ low → Splits row count w low
  searched_all h = record { within = omega (arith, S.ordered, S.within); below = S.below; others = λ i k l. S.others i (omega (arith, S.ordered)) l }

-- a row that is met has all before it below, and no other
pub met_splits : (row : ℕ → Row) (count : ℕ) (w : Row) → ((i j : ℕ) → i < j → j < count → Below (row i) (row j)) → (m : ℕ) → m < count → same_row (row m) w ≡ true → Splits row count w m
met_splits row count w rise m l s = record { within = omega arith; below = λ i h. (belowb_law (row i) w).1 (rw e at (rise i m h l)); others = λ i h k. fails (belowb (row i) w) (belowb_law (row i) w) (go i h k (ℕ_discrete i m)) }
  where
    e : row m ≡ w
    e = (same_row_law (row m) w).0 s

    go : (i : ℕ) → m ≤ i → i < count → Dec (i ≡ m) → Below (row i) w → ⊥
    go i h k (yes q) b = below_itself w (rw (q, e) at b)
    go i h k (no q) b = below_itself w (below_trans w (row i) w (rw e at (rise m i (omega arith) k)) b)

-- what is found: a row that is looked up stands where the rows split, or is not there --------------------------------------------------

module _ (n : ℕ) (list : List ℕ) (count : ℕ) (w : Row) (m : ℕ) (S : Splits (listed_row n list) count w m) (a : Ascends (listed_rows n list count)) where
  earlier : (i : ℕ) → i < m → listed_row n list i ≡ w → ⊥
  earlier i h e = below_itself w (rw e at ((belowb_law (listed_row n list i) w).0 (S.below i h)))

  later : (i : ℕ) → m < i → i < count → listed_row n list i ≡ w → ⊥
  later i h l e =
      refutes (belowb (listed_row n list m) w) (belowb_law (listed_row n list m) w) (S.others m (omega arith) (omega arith)) (rw e at (listed_rise n list count a m i h l))

  absent : ((i : ℕ) → i < count → listed_row n list i ≡ w → ⊥) → has (listed_rows n list count) w ≡ false
  absent none = fails (has (listed_rows n list count) w) (has_law (listed_rows n list count) w) (λ k. let (i, l, e) = in_listed n list count w k in none i l e)

  pub all_below : m ≡ count → false ≡ has (listed_rows n list count) w
  all_below e = sym (absent (λ i l q. earlier i (omega arith) q))

  pub found : (m ≡ count → ⊥) → (b : Bool) → b ≡ same_row (listed_row n list m) w → b ≡ has (listed_rows n list count) w
  found h true e =
      sym ((has_law (listed_rows n list count) w).1 (rw ((same_row_law (listed_row n list m) w).0 (sym e)) at (listed_in n list count m (omega (arith, S.within)))))
  found h false e = sym (absent (λ i l q. go i l q (tri i m)))
    where
      go : (i : ℕ) → i < count → listed_row n list i ≡ w → Tri i m → ⊥
      go i l q (is_lt k _) = earlier i k q
      go i l q (is_eq k _) = refutes (same_row (listed_row n list m) w) (same_row_law (listed_row n list m) w) (sym e) (rw k at q)
      go i l q (is_gt k _) = later i k l q

-- a row that is met is there
pub found_here : (n : ℕ) (list : List ℕ) (count : ℕ) (w : Row) (i : ℕ) → i < count → same_row (listed_row n list i) w ≡ true → true ≡ has (listed_rows n list count) w
found_here n list count w i l h = sym ((has_law (listed_rows n list count) w).1 (rw ((same_row_law (listed_row n list i) w).0 h) at (listed_in n list count i l)))

-- one that was met nowhere, nor where the search has ended, is not
pub found_nowhere : (n : ℕ) (list : List ℕ) (count : ℕ) (w : Row) (low high : ℕ) → Searched (listed_row n list) count w low high → Ascends (listed_rows n list count) → high ≤ low
    → (high < count → same_row (listed_row n list high) w ≡ false) → false ≡ has (listed_rows n list count) w
found_nowhere n list count w low high S a h other = go (ℕ_discrete low count)
  where
    splits : Splits (listed_row n list) count w low
    splits = searched_all (listed_row n list) count w low high S h

    go : Dec (low ≡ count) → false ≡ has (listed_rows n list count) w
    go (yes e) = all_below n list count w low splits a e
    go (no e) =
        let q : high ≡ low = omega (arith, S.ordered) in
        found n list count w low splits a e false (sym (rw q at (other (omega (arith, splits.within)))))
