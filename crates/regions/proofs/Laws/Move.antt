-- One clock's move: what it says of an update, the three cases of its test, and the stretches of intervals that it permits alike.
-- Assumes nothing.
use Prim.Native.Nat.{Ordering}
use Prim.Native.Nat.{ℕ, ◌+◌, ◌*◌, ◌≤◌, ◌<◌, ◌%◌, compare}
use native.Mathlib.Nat.{add-zero}
use native.Mathlib.Omega.{arith}
use mathlib.Core.Path.{◌≡◌, refl, sym, ap, ◌∙◌}
use mathlib.Core.Bool.{Bool, true, false, ◌&&◌}
use mathlib.Core.List.{List}
use lib.Dec.{eqb, leb}
use lib.ListN.{length-take}
use lib.Seq.{get_or-take}
use borrow.Author.Tests.{ne_eqb}
use Rattle.automata.specs.Comparison.{holds, some_answer}
use Rattle.automata.specs.Clocks.{at}
use Rattle.automata.specs.Row.{Row}
use Rattle.automata.specs.Edge.{Action, keep, constant, clock, Update, BoundedBy}
use Rattle.automata.specs.Successors.{Rel, fixed, free, parts, relation, rel, comparison_of, fits}
use Rattle.regions.specs.Move.{move_of, rel_of, fits_at, fits_somewhere, permitsb, Stretch}
use Rattle.regions.specs.Values.{bounds_of, row_of, update_of}
use Rattle.regions.specs.declared.clock_move.Move.{Move}
use Rattle.regions.specs.declared.clocks.Clocks.{Clocks}
use Rattle.regions.specs.declared.region.Region.{Region}
use Rattle.regions.specs.declared.edge.Action as action_code
use Rattle.regions.specs.declared.edge.Update as update_code
use Rattle.automata.proofs.Laws.Order.{compare_lt, compare_gt}
use Rattle.automata.proofs.Laws.Comparison.{some_order}
use Rattle.automata.proofs.Laws.Tests.{fails, and_law, eqb_law, leb_law}

-- the cases of a move -----------------------------------------------------------------------------------------------------------------

module _ (m : Move) (j : ℕ) where
  abbrev pub freeb : Bool
  freeb = eqb j m.top && leb (j + m.shift) m.reference

  abbrev pub by_partsb : Bool
  by_partsb = eqb (j + m.shift) m.reference && eqb (j % 2) 1

  pub is_free : freeb ≡ true → rel_of m j ≡ free
  unfolding relation
  is_free a = rw a

  pub is_parts : freeb ≡ false → by_partsb ≡ true → rel_of m j ≡ parts m.rank
  unfolding relation
  is_parts a b = rw (a, b)

  pub is_fixed : freeb ≡ false → by_partsb ≡ false → rel_of m j ≡ fixed (compare (j + m.shift) m.reference)
  unfolding relation
  is_fixed a b = rw (a, b)

  pub fits_free : (p : ℕ) → freeb ≡ true → some_answer m.comparison ≡ fits_at m j p
  unfolding fits_at fits some_answer
  fits_free p a = rw (is_free a)

  pub fits_parts : (p : ℕ) → freeb ≡ false → by_partsb ≡ true → holds m.comparison (p + 1) (2 * m.rank) ≡ fits_at m j p
  unfolding fits_at fits holds
  fits_parts p a b = rw (is_parts a b)

  pub fits_fixed : (p : ℕ) → freeb ≡ false → by_partsb ≡ false → holds m.comparison (j + m.shift) m.reference ≡ fits_at m j p
  unfolding fits_at fits holds
  fits_fixed p a b = rw (is_fixed a b)

  pub permits_free : freeb ≡ true → some_answer m.comparison ≡ permitsb m j
  unfolding permitsb fits_somewhere
  permits_free a = rw (is_free a)

  pub permits_parts : freeb ≡ false → by_partsb ≡ true → some_answer m.comparison ≡ permitsb m j
  unfolding permitsb fits_somewhere
  permits_parts a b = rw (is_parts a b)

  pub permits_fixed : freeb ≡ false → by_partsb ≡ false → holds m.comparison (j + m.shift) m.reference ≡ permitsb m j
  unfolding permitsb fits_somewhere holds
  permits_fixed a b = rw (is_fixed a b)

  known_below : (j ≡ m.top → ⊥) → j + m.shift < m.reference → rel_of m j ≡ fixed Ordering.lt
  unfolding relation
  known_below n l = rw (ne_eqb j m.top n, ne_eqb (j + m.shift) m.reference (λ e. omega arith), compare_lt (j + m.shift) m.reference l)

  known_above : (j ≡ m.top → ⊥) → m.reference < j + m.shift → rel_of m j ≡ fixed Ordering.gt
  unfolding relation
  known_above n l = rw (ne_eqb j m.top n, ne_eqb (j + m.shift) m.reference (λ e. omega arith), compare_gt (j + m.shift) m.reference l)

-- what fits at a position is permitted ------------------------------------------------------------------------------------------------

pub fits_permits : (m : Move) (j p : ℕ) → fits_at m j p ≡ true → permitsb m j ≡ true
unfolding fits_at permitsb fits fits_somewhere some_answer
fits_permits m j p h = go (rel_of m j) h
  where
    go : (x : Rel) → fits m.comparison x p ≡ true → fits_somewhere m.comparison x ≡ true
    go (fixed o) h = h
    go free h = h
    go (parts q) h = some_order m.comparison (compare (p + 1) (2 * q)) h

-- a move tells what its update asks ---------------------------------------------------------------------------------------------------

-- a whole value at most the bound settles the order
whole_fixed : (t j k : ℕ) → 2 * k < t → relation t j (j + 0) (2 * k) 0 ≡ fixed (compare j (2 * k))
unfolding relation
whole_fixed t j k h =
    rw (
      fails (eqb j t && leb (j + 0) (2 * k)) (and_law _ _ (eqb_law j t) (leb_law (j + 0) (2 * k))) (λ q. omega arith),
      fails (eqb (j + 0) (2 * k) && eqb (j % 2) 1) (and_law _ _ (eqb_law (j + 0) (2 * k)) (eqb_law (j % 2) 1)) (λ q. omega arith),
      add-zero j,
    )

pub move_fits : (c : List ℕ) (r : Row) (z j p : ℕ) (u : Update) → BoundedBy c z u.action
    → fits_at (move_of c r z u) j p ≡ fits (comparison_of u.comparison u.action) (rel c r z j u.action) p
unfolding fits_at
move_fits c r z j p u b = go u.action b
  where
    go : (a : Action) → BoundedBy c z a
        → fits_at (move_of c r z (record { action = a; comparison = u.comparison })) j p ≡ fits (comparison_of u.comparison a) (rel c r z j a) p
    go keep b = refl
    go (constant k) b = ap (λ (x : Rel). fits u.comparison x p) (whole_fixed (2 * at c z + 1) j k (omega arith))
    go (clock y up down) b = refl

-- the code's move, for n clocks
module _ (k : Clocks) (v : Region) (z : ℕ) (l : z < k.count) (u : update_code.Update) where
  abbrev told : ℕ → ℕ → ℕ → ℕ → Move
  told cmp s i q = record { comparison = cmp; shift = s; reference = i; rank = q; top = 2 * at k.bounds z + 1 }

  abbrev asked : Move
  asked = move_of (bounds_of k) (row_of k.count v) z (update_of u)

  pub move_keep : u.action ≡ action_code.TheVariants.Keep → told 2 0 (at v.intervals z) (at v.ranks z) ≡ asked
  move_keep e =
      rw (e, get_or-take k.count k.bounds z 0 l, get_or-take k.count v.intervals z 0 l, get_or-take k.count v.ranks z 0 l, add-zero (at v.intervals z))

  pub move_constant : (a i : ℕ) → u.action ≡ action_code.TheVariants.Constant a → i ≡ 2 * a → told u.comparison 0 i 0 ≡ asked
  move_constant a i e f = rw (e, f, get_or-take k.count k.bounds z 0 l)

  pub move_clock : (y up down s i : ℕ) → u.action ≡ action_code.TheVariants.Clock y up down → y < k.count → s ≡ 2 * down → i ≡ at v.intervals y + 2 * up
      → told u.comparison s i (at v.ranks y) ≡ asked
  move_clock y up down s i e h f g =
      rw (e, f, g, get_or-take k.count k.bounds z 0 l, get_or-take k.count v.intervals y 0 h, get_or-take k.count v.ranks y 0 h)

-- the clock that an update names is one of them
pub clock_in : (k : Clocks) (z : ℕ) (u : update_code.Update) (y up down : ℕ) → u.action ≡ action_code.TheVariants.Clock y up down
    → BoundedBy (bounds_of k) z (update_of u).action → y < k.count
clock_in k z u y up down e b =
    let named : BoundedBy (bounds_of k) z (clock y up down) = rw e at b in
    omega (arith, named.0, length-take k.count k.bounds)

-- stretches ---------------------------------------------------------------------------------------------------------------------------

module _ (m : Move) (i : ℕ) (low : i ≤ m.top) where
  -- the interval alone
  pub stretch_one : Stretch m i (i + 1)
  stretch_one = record {
    after = omega arith;
    within = omega arith;
    top_alone = λ h. omega arith;
    alike = λ j a b. let e : j ≡ i = omega arith in ap (rel_of m) e;
  }

  -- up to k below the reference
  pub stretch_below : (k : ℕ) → i < k → k ≤ m.top → k + m.shift ≤ m.reference → Stretch m i k
  stretch_below k a t s = record {
    after = a;
    within = omega arith;
    top_alone = λ h. omega arith;
    alike = λ j l h. known_below m j (λ e. omega arith) (omega arith) ∙ sym (known_below m i (λ e. omega arith) (omega arith));
  }

  -- up to the top above it
  pub stretch_above : i < m.top → m.reference < i + m.shift → Stretch m i m.top
  stretch_above a s = record {
    after = a;
    within = omega arith;
    top_alone = λ h. omega arith;
    alike = λ j l h. known_above m j (λ e. omega arith) (omega arith) ∙ sym (known_above m i (λ e. omega arith) (omega arith));
  }

-- what is known alike is permitted alike
pub stretch_permits : (m : Move) (i k : ℕ) → Stretch m i k → (j : ℕ) → i ≤ j → j < k → permitsb m j ≡ permitsb m i
unfolding permitsb
stretch_permits m i k s j l h = ap (fits_somewhere m.comparison) (s.alike j l h)
