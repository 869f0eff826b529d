-- Waiting as the code does it, clock by clock in the arrays of the clocks k and the region v. Assumes nothing.
use Prim.Native.Nat.{ℕ, ◌+◌, ◌≤◌, ◌<◌, ◌%◌, ◌*◌, max}
use native.Mathlib.Numerals.{add-one}
use native.Mathlib.Omega.{arith}
use native.Mathlib.Decide.{dec_lt}
use mathlib.Core.Path.{◌≡◌, refl, ◌∙◌}
use mathlib.Core.Bool.{Bool, true, false, ◌&&◌}
use mathlib.Core.List.{List, [], ◌∷◌, ◌++◌}
use lib.ListN.{length, take, set}
use lib.Seq.{take-suc}
use lib.Dec.{eqb, leb, ltb}
use borrow.Author.Tests.{lt-ltb, le-ltb, lt-leb, le-leb}
use Rattle.automata.proofs.Laws.Chains.{someb_same}
use Rattle.automata.specs.Clocks.{at, each, someb, greatest}
use Rattle.automata.specs.Row.{Row, IsRow}
use Rattle.automata.specs.Wait.{evenb, entersb, growsb, leave_interval, leave_rank, left, arrive_interval, arrive_rank, arrived, wait}
use Rattle.regions.specs.Values.{bounds_of, row_of, padded, region_of, sought, found_of}
use Rattle.regions.specs.declared.clocks.Clocks.{Clocks}
use Rattle.regions.specs.declared.region.Region.{Region}
use Rattle.regions.proofs.Laws.Values.{at_take, length_first, someb_more, someb_found, someb_end, padded_next, found_sought}
use Rattle.automata.proofs.Laws.Ranks.{rank_le}
use Rattle.automata.proofs.Laws.Waiting.{wait_row}

-- at its bound a clock does not enter an open interval
pub enters_not : (c j : ℕ) → j ≡ 2 * c → false ≡ entersb c j
unfolding entersb
enters_not c j e = rw (le-ltb j (2 * c) (omega arith))

-- elsewhere it does where it has a whole value
pub enters_even : (c j : ℕ) → (j ≡ 2 * c → ⊥) → evenb c j ≡ entersb c j
unfolding evenb entersb
enters_even c j n = go (dec_lt j (2 * c))
  where
    go : Dec (j < 2 * c) → leb j (2 * c) && eqb (j % 2) 0 ≡ ltb j (2 * c) && eqb (j % 2) 0
    go (yes h) = rw (le-leb j (2 * c) (omega arith), lt-ltb j (2 * c) h)
    go (no h) = rw (lt-leb j (2 * c) (omega arith), le-ltb j (2 * c) (omega arith))

-- the greatest of one more
pub greatest_last : (ys : List ℕ) (y : ℕ) → greatest (ys ++ (y ∷ [])) ≡ max (greatest ys) y
greatest_last [] y = omega arith
greatest_last (x ∷ ys) y = let h : greatest (ys ++ (y ∷ [])) ≡ max (greatest ys) y = greatest_last ys y in omega arith

-- clock z after waiting, in the definitions' lists ----------------------------------------------------------------------------------

abbrev pub left_interval : List ℕ → Row → ℕ → ℕ
left_interval c r z = leave_interval (at c z) (at r.intervals z)

abbrev pub left_rank : Bool → List ℕ → Row → ℕ → ℕ
left_rank grow c r z = leave_rank grow (at c z) (at r.intervals z) (at r.ranks z)

abbrev pub arrived_interval : ℕ → Row → ℕ → ℕ
arrived_interval g r z = arrive_interval g (at r.intervals z) (at r.ranks z)

abbrev pub arrived_rank : ℕ → Row → ℕ → ℕ
arrived_rank g r z = arrive_rank g (at r.ranks z)

-- a test of clock z's bound and interval
abbrev pub test_of : (ℕ → ℕ → Bool) → List ℕ → Row → ℕ → Bool
test_of f c r z = f (at c z) (at r.intervals z)

module _ (k : Clocks) (v : Region) (few : k.count ≤ 4) (long : length k.bounds ≡ 4) where
  abbrev c : List ℕ
  c = bounds_of k

  abbrev r : Row
  r = row_of k.count v

  clocks : length c ≡ k.count
  clocks = length_first k.count k.bounds few long

  -- what a row's numbers fit
  module _ (row : IsRow c r) (z : ℕ) (h : z < k.count) where
    pub rank_small : at v.ranks z ≤ 4
    rank_small =
        let a : at r.ranks z ≡ at v.ranks z = at_take k.count v.ranks z h in
        omega (arith, rank_le c r row z, clocks)

    pub interval_small : at k.bounds z ≤ 16383 → at v.intervals z ≤ 32767
    interval_small l =
        let a : at r.intervals z ≡ at v.intervals z = at_take k.count v.intervals z h in
        let b : at c z ≡ at k.bounds z = at_take k.count k.bounds z h in
        omega (arith, row.in_range z (rw clocks h))

  -- a test of some clock
  pub some_test : (f : ℕ → ℕ → Bool) → someb k.count (λ (z : ℕ). f (at k.bounds z) (at v.intervals z)) ≡ someb (length c) (test_of f c r)
  some_test f =
      rw clocks
      (someb_same k.count (λ (z : ℕ). f (at k.bounds z) (at v.intervals z)) (test_of f c r) (λ z h. rw (at_take k.count k.bounds z h, at_take k.count v.intervals z h)))

  -- one clock filled in
  module _ (z x : ℕ) (ys : List ℕ) (h : z < k.count) where
    pub left_interval_next : ys ≡ padded (each z (left_interval c r)) → x ≡ leave_interval (at k.bounds z) (at v.intervals z)
        → set ys z x ≡ padded (each (z + 1) (left_interval c r))
    left_interval_next e q =
        padded_next (left_interval c r) z ys x (omega arith) e
        (rw (at_take k.count k.bounds z h, at_take k.count v.intervals z h) q)

    pub left_rank_next : (grow : Bool) → ys ≡ padded (each z (left_rank grow c r))
        → x ≡ leave_rank grow (at k.bounds z) (at v.intervals z) (at v.ranks z)
        → set ys z x ≡ padded (each (z + 1) (left_rank grow c r))
    left_rank_next grow e q =
        padded_next (left_rank grow c r) z ys x (omega arith) e
        (rw (at_take k.count k.bounds z h, at_take k.count v.intervals z h, at_take k.count v.ranks z h) q)

    pub arrived_interval_next : (g : ℕ) → ys ≡ padded (each z (arrived_interval g r)) → x ≡ arrive_interval g (at v.intervals z) (at v.ranks z)
        → set ys z x ≡ padded (each (z + 1) (arrived_interval g r))
    arrived_interval_next g e q =
        padded_next (arrived_interval g r) z ys x (omega arith) e
        (rw (at_take k.count v.intervals z h, at_take k.count v.ranks z h) q)

    pub arrived_rank_next : (g : ℕ) → ys ≡ padded (each z (arrived_rank g r)) → x ≡ arrive_rank g (at v.ranks z)
        → set ys z x ≡ padded (each (z + 1) (arrived_rank g r))
    arrived_rank_next g e q = padded_next (arrived_rank g r) z ys x (omega arith) e (rw (at_take k.count v.ranks z h) q)

  -- all clocks filled in
  module _ (z : ℕ) (js ks : List ℕ) (h : z ≤ k.count) (l : k.count ≤ z) where
    all : length c ≡ z
    all = let e : k.count ≡ z = omega arith in clocks ∙ e

    -- a region from its parts
    together : (s : Row) → v.location ≡ s.location → js ≡ padded s.intervals → ks ≡ padded s.ranks
        → record { location = v.location; intervals = js; ranks = ks } ≡ region_of s
    together s p q t = λ i. record { location = p i; intervals = q i; ranks = t i }

    pub left_is : (grow : Bool) → grow ≡ growsb c r → js ≡ padded (each z (left_interval c r)) → ks ≡ padded (each z (left_rank grow c r))
        → record { location = v.location; intervals = js; ranks = ks } ≡ region_of (left c r)
    unfolding left
    left_is grow g p q = together (left c r) refl (rw all p) (rw (all, ← g) q)

    pub arrived_is : (g : ℕ) → g ≡ greatest r.ranks → js ≡ padded (each z (arrived_interval g r)) → ks ≡ padded (each z (arrived_rank g r))
        → record { location = v.location; intervals = js; ranks = ks } ≡ region_of (arrived c r)
    unfolding arrived
    arrived_is g e p q = together (arrived c r) refl (rw (all, ← e) p) (rw (all, ← e) q)

  -- what waiting finds is the next row
  pub wait_found : IsRow c r → found_of k.count (sought (wait c r)) ≡ wait c r
  wait_found row =
      found_sought k.count (wait c r) (λ s e. let i = wait_row c r s row e in (i.intervals_length ∙ clocks, i.ranks_length ∙ clocks))
