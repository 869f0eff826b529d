-- The test of rows as the code makes it: rank by rank and clock by clock, in the arrays of the clocks k and the region v; the count of clocks with
-- open intervals, and the room for ranks. Assumes nothing.
use Prim.Native.Nat.{ℕ, ◌+◌, ◌*◌, ◌≤◌, ◌<◌}
use native.Mathlib.Decide.{ℕ_discrete}
use native.Mathlib.Numerals.{add-one}
use native.Mathlib.Omega.{arith}
use mathlib.Core.Path.{◌≡◌, refl, sym, ap, ◌∙◌}
use mathlib.Core.Bool.{Bool, true, false, cond, not, ◌&&◌, ◌||◌}
use mathlib.Core.List.{List}
use lib.ListN.{length}
use lib.Dec.{eqb, leb, ltb}
use borrow.Author.Tests.{eq-eqb, ne_eqb, lt-ltb, le-ltb, lt-leb, le-leb}
use Rattle.automata.proofs.Laws.Chains.{someb_same}
use Rattle.automata.specs.Clocks.{at, allb, someb, one_if}
use Rattle.automata.specs.Row.{Row}
use Rattle.automata.specs.Rows.{openb, heldb, clockb, isrowb}
use Rattle.automata.specs.Rankings.{open_clocks, usedb, newb, rank_room}
use Rattle.regions.specs.Values.{bounds_of, row_of}
use Rattle.regions.specs.declared.clocks.Clocks.{Clocks}
use Rattle.regions.specs.declared.region.Region.{Region}
use Rattle.regions.proofs.Laws.Values.{at_is, at_take, length_first, someb_found, someb_more, someb_end}

module _ (k : Clocks) (v : Region) where
  -- the row that the region is
  abbrev row : Row
  row = row_of k.count v

  -- ranks: rank 0 needs no clock
  pub held_zero : (q : ℕ) → q ≡ 0 → true ≡ heldb (bounds_of k) row q
  unfolding heldb
  held_zero q e = rw (le-ltb 0 q (omega arith))

  module _ (few : k.count ≤ 4) (long : length k.bounds ≡ 4) (q : ℕ) where
    -- some clock has the rank
    pub held_some : (q ≡ 0 → ⊥) → someb k.count (λ (z : ℕ). eqb (at v.ranks z) q) ≡ heldb (bounds_of k) row q
    unfolding heldb
    held_some n =
        rw (length_first k.count k.bounds few long, lt-ltb 0 q (omega arith))
        (someb_same k.count (λ (z : ℕ). eqb (at v.ranks z) q) (at_is row.ranks q) (λ z h. rw (at_take k.count v.ranks z h)))

  -- clocks
  module _ (z : ℕ) (h : z < k.count) where
    -- the rank is one of the interval's
    abbrev pub rankedb : Bool
    rankedb = cond (openb (at k.bounds z) (at v.intervals z)) (ltb 0 (at v.ranks z)) (eqb (at v.ranks z) 0)

    pub clock_is : clockb (bounds_of k) row z
        ≡ (leb (at v.intervals z) (2 * at k.bounds z + 1) && rankedb && allb (at v.ranks z) (heldb (bounds_of k) row))
    unfolding clockb
    clock_is = rw (at_take k.count k.bounds z h, at_take k.count v.intervals z h, at_take k.count v.ranks z h)

    -- an interval past the top
    pub clock_out : 2 * at k.bounds z + 1 < at v.intervals z → false ≡ clockb (bounds_of k) row z
    clock_out l = rw (clock_is, lt-leb (at v.intervals z) (2 * at k.bounds z + 1) l)

    module _ (l : at v.intervals z ≤ 2 * at k.bounds z + 1) where
      -- a rank that the interval cannot have
      pub clock_misranked : rankedb ≡ false → false ≡ clockb (bounds_of k) row z
      clock_misranked e = rw (clock_is, le-leb (at v.intervals z) (2 * at k.bounds z + 1) l, e)

      -- the ranks below it decide
      pub clock_ranked : rankedb ≡ true → allb (at v.ranks z) (heldb (bounds_of k) row) ≡ clockb (bounds_of k) row z
      clock_ranked e = rw (clock_is, le-leb (at v.intervals z) (2 * at k.bounds z + 1) l, e)

    -- clocks with open intervals: the next clock counts where the test passes
    pub open_more : (t u : ℕ) (b : Bool) → t ≡ open_clocks (bounds_of k) row.intervals z → b ≡ openb (at k.bounds z) (at v.intervals z)
        → u ≡ t + one_if b → u ≡ open_clocks (bounds_of k) row.intervals (z + 1)
    unfolding open_clocks
    open_more t u b e f g = rw (add-one, at_take k.count k.bounds z h, at_take k.count v.intervals z h, ← e, ← f) g

    -- the room for ranks: the next clock counts where it can have a new one
    pub room_more : (w t u : ℕ) (b : Bool) → t ≡ rank_room (bounds_of k) row.intervals v.ranks w z
        → b ≡ cond (ltb z w) (newb v.ranks z) (openb (at k.bounds z) (at v.intervals z)) → u ≡ t + one_if b
        → u ≡ rank_room (bounds_of k) row.intervals v.ranks w (z + 1)
    unfolding rank_room
    room_more w t u b e f g = rw (add-one, at_take k.count k.bounds z h, at_take k.count v.intervals z h, ← e, ← f) g

  -- the row: its clocks decide
  pub row_is : k.count ≤ 4 → length k.bounds ≡ 4 → length v.intervals ≡ 4 → length v.ranks ≡ 4
      → allb k.count (clockb (bounds_of k) row) ≡ isrowb (bounds_of k) row
  unfolding isrowb
  row_is few l m n =
      rw (length_first k.count k.bounds few l, length_first k.count v.intervals few m, length_first k.count v.ranks few n, eq-eqb k.count k.count refl)

-- ranks that clocks have ----------------------------------------------------------------------------------------------------------------

module _ (ks : List ℕ) where
  -- a clock has the rank
  pub used_found : (n a z : ℕ) → z < n → at ks z ≡ a → true ≡ usedb ks n a
  unfolding usedb
  used_found n a z h e = sym (someb_found (at_is ks a) n z h (eq-eqb (at ks z) a e))

  -- one clock more does not
  pub used_more : (a z : ℕ) → usedb ks z a ≡ false → (at ks z ≡ a → ⊥) → usedb ks (z + 1) a ≡ false
  unfolding usedb
  used_more a z e n = someb_more (at_is ks a) z e (ne_eqb (at ks z) a n)

  -- rank 0 is not new, any other where no clock before has it
  pub not_new : (z : ℕ) → at ks z ≡ 0 → false ≡ newb ks z
  unfolding newb
  not_new z e = rw (le-ltb 0 (at ks z) (omega arith))

  pub new_is : (z : ℕ) (b : Bool) → (at ks z ≡ 0 → ⊥) → b ≡ usedb ks z (at ks z) → not b ≡ newb ks z
  unfolding newb
  new_is z b n e = rw (lt-ltb 0 (at ks z) (omega arith), ← e)

  -- ranks from f on that the first n clocks have: one more
  pub used_run : (n f z : ℕ) → ((a : ℕ) → f ≤ a → a < z → usedb ks n a ≡ true) → usedb ks n z ≡ true → (a : ℕ) → f ≤ a → a < z + 1 → usedb ks n a ≡ true
  used_run n f z h e a l k = go (ℕ_discrete a z)
    where
      go : Dec (a ≡ z) → usedb ks n a ≡ true
      go (yes q) = ap (usedb ks n) q ∙ e
      go (no q) = h a l (omega arith)
