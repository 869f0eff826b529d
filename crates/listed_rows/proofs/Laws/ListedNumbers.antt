-- The numbers of a listed row are its bytes after the mark, one by one; so it is compared with a row where it stands. Assumes nothing.
use Prim.Native.Nat.{ℕ, zero, suc, ◌+◌, ◌*◌, ◌-◌, ◌≤◌, ◌<◌}
use native.Mathlib.Decide.{dec_le}
use native.Mathlib.Omega.{arith}
use mathlib.Core.Path.{◌≡◌, refl, sym, ap, ◌∙◌}
use mathlib.Core.Bool.{false}
use mathlib.Core.List.{List, ◌++◌}
use lib.ListN.{length, drop, length-append, length-drop, get_or-append}
use lib.Seq.{length-take-le, get_or-append-add}
use lib.Dec.{eqb, ltb}
use borrow.Author.Tests.{le-ltb}
use Rattle.automata.specs.Clocks.{at, each}
use Rattle.automata.specs.Checks.{same_row, belowb}
use Rattle.regions.specs.Order.{numbers, shared}
use Rattle.regions.specs.Values.{row_of}
use Rattle.regions.specs.declared.region.Region.{Region}
use Rattle.automata.proofs.Laws.Lists.{length_each, at_each}
use Rattle.regions.proofs.Laws.Values.{at_out, length_first}
use Rattle.regions.proofs.Laws.OrderTests.{same_shared, before_shared, Shared, shared_none, shared_on, shared_here, shared_all, row_same, row_below, length_numbers}
use Rattle.calls.specs.RegionFile.{row_in, row_width}
use Rattle.calls.proofs.Laws.Rows.{row_width_is}
use Rattle.listed_rows.proofs.Laws.Firsts.{Firsts}
use native.Mathlib.Numerals.{add-one}
use Rattle.listed_rows.specs.Listed.{listed_bytes, HasRow, listed_row}

-- number j of the row in some bytes
module _ (n : ℕ) (b : List ℕ) where
  abbrev intervals : List ℕ
  intervals = each n (λ (z : ℕ). at b (3 + z))

  abbrev ranks : List ℕ
  ranks = each n (λ (z : ℕ). at b (3 + n + z))

  rank_number : (j z : ℕ) → j ≡ n + z → z < n → at (intervals ++ ranks) j ≡ at b (3 + j)
  rank_number j z e h =
      let long : length intervals ≡ n = length_each n (λ (z : ℕ). at b (3 + z)) in
      let q : j ≡ length intervals + z = omega arith in
      let w : 3 + n + z ≡ 3 + j = omega arith in
      ap (λ (k : ℕ). at (intervals ++ ranks) k) q ∙ get_or-append-add intervals ranks z 0 ∙ at_each n (λ (z : ℕ). at b (3 + n + z)) z h ∙ ap (at b) w

  interval_number : (j : ℕ) → j < n → at (intervals ++ ranks) j ≡ at b (3 + j)
  interval_number j h =
      let long : length intervals ≡ n = length_each n (λ (z : ℕ). at b (3 + z)) in
      get_or-append intervals ranks 0 j (omega arith) ∙ at_each n (λ (z : ℕ). at b (3 + z)) j h

  row_number : (j : ℕ) → j < 1 + 2 * n → at (numbers (row_in n b)) j ≡ at b (2 + j)
  row_number zero h = refl
  row_number (suc j) h = go (dec_le n j)
    where
      next : 3 + j ≡ 2 + suc j
      next = omega arith

      go : Dec (n ≤ j) → at (intervals ++ ranks) j ≡ at b (2 + suc j)
      go (no l) = interval_number j (omega arith) ∙ ap (at b) next
      go (yes l) = rank_number j (j - n) (omega arith) (omega arith) ∙ ap (at b) next

module _ (n : ℕ) (list : List ℕ) (i : ℕ) where
  -- .. of row i of a list
  pub listed_number : (j : ℕ) → j < 1 + 2 * n → at (numbers (listed_row n list i)) j ≡ at (listed_bytes n list i) (2 + j)
  unfolding listed_row
  listed_number j h = row_number n (listed_bytes n list i) j h

  pub listed_location : at (listed_bytes n list i) 2 ≡ (listed_row n list i).location
  unfolding listed_row
  listed_location = refl

  -- what the code reads is there
  pub bytes_long : HasRow n list i → length (listed_bytes n list i) ≡ 3 + 2 * n
  bytes_long h =
      let room : row_width n ≤ length (drop (4 + i * row_width n) list) = simp length-drop (omega arith) in
      length-take-le (row_width n) (drop (4 + i * row_width n) list) room ∙ row_width_is n

  pub intervals_long : length (listed_row n list i).intervals ≡ n
  unfolding listed_row
  intervals_long = length_each n _

  pub ranks_long : length (listed_row n list i).ranks ≡ n
  unfolding listed_row
  ranks_long = length_each n _

  numbers_long : length (numbers (listed_row n list i)) ≡ 1 + 2 * n
  unfolding listed_row
  numbers_long = rw (length-append, length_each, length_each) (omega arith)

  -- against a region
  module _ (w : Region) (few : n ≤ 4) (four : (length w.intervals ≡ 4) × (length w.ranks ≡ 4)) where
    abbrev ours : List ℕ
    ours = numbers (listed_row n list i)

    abbrev theirs : List ℕ
    theirs = numbers (row_of n w)

    theirs_long : length theirs ≡ 1 + 2 * n
    theirs_long = length_numbers n w few four.0 four.1

    alike : length ours ≡ length theirs
    alike = numbers_long ∙ sym theirs_long

    -- number by number, where b is what the code reads
    module _ (b : List ℕ) (e : b ≡ listed_bytes n list i) where
      number_in : (k : ℕ) → k < 1 + 2 * n → at ours k ≡ at b (2 + k)
      number_in k h = listed_number k h ∙ sym (ap (λ (l : List ℕ). at l (2 + k)) e)

      -- so many are shared
      shared_so_far : (m : ℕ) → m ≤ 1 + 2 * n → ((k : ℕ) → 0 ≤ k → k < m → at b (2 + k) ≡ at theirs k) → Shared ours theirs m
      shared_so_far zero h d = shared_none ours theirs
      shared_so_far (suc m) h d = rw add-one at (shared_on ours theirs alike m (shared_so_far m (omega arith) (λ k a l. d k a (omega arith))) (omega (arith, numbers_long)) (number_in m (omega arith) ∙ d m (omega arith) (omega arith)))

      -- the first that differs, or the end
      pub shared_firsts : (m : ℕ) → Firsts (λ k. at b (2 + k) ≡ at theirs k → ⊥) (λ k. at b (2 + k) ≡ at theirs k) 0 (1 + 2 * n) m → m ≡ shared ours theirs
      shared_firsts m F = go (dec_le (1 + 2 * n) m) (shared_so_far m F.within F.before)
        where
          go : Dec (1 + 2 * n ≤ m) → Shared ours theirs m → m ≡ shared ours theirs
          go (yes h) s = shared_all ours theirs alike m s (omega (arith, numbers_long))
          go (no h) s = shared_here ours theirs alike m s (omega (arith, numbers_long)) (λ q. F.here (omega arith) (sym (number_in m (omega arith)) ∙ q))

    rows_alike : length (listed_row n list i).intervals ≡ length (row_of n w).intervals
    rows_alike = intervals_long ∙ sym (length_first n w.intervals few four.0)

    pub listed_same : eqb (shared ours theirs) (1 + 2 * n) ≡ same_row (listed_row n list i) (row_of n w)
    listed_same = ap (eqb (shared ours theirs)) (sym numbers_long) ∙ same_shared ours theirs alike ∙ row_same (listed_row n list i) (row_of n w) rows_alike

    module _ (j : ℕ) (e : j ≡ shared ours theirs) where
      first_decides : ltb (at ours j) (at theirs j) ≡ belowb (listed_row n list i) (row_of n w)
      first_decides = ap (λ (k : ℕ). ltb (at ours k) (at theirs k)) e ∙ before_shared ours theirs alike ∙ row_below (listed_row n list i) (row_of n w) rows_alike

      pub listed_is_below : (x y : ℕ) → x ≡ at (listed_bytes n list i) (2 + j) → y ≡ at theirs j → j < 1 + 2 * n
          → ltb x y ≡ belowb (listed_row n list i) (row_of n w)
      listed_is_below x y p q h = (λ k. ltb ((p ∙ sym (listed_number j h)) k) (q k)) ∙ first_decides

      pub listed_not_below : 1 + 2 * n ≤ j → false ≡ belowb (listed_row n list i) (row_of n w)
      listed_not_below h =
          let a : at ours j ≡ 0 = at_out ours j (omega (arith, numbers_long)) in
          let b : at theirs j ≡ 0 = at_out theirs j (omega (arith, theirs_long)) in
          sym (le-ltb (at ours j) (at theirs j) (omega arith)) ∙ first_decides
