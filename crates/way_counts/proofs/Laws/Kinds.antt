-- The kinds of intervals: what the kind tells of an interval, and how many of a stretch are of a kind. Assumes nothing.
use Prim.Native.Nat.{ℕ, zero, suc, ◌+◌, ◌*◌, ◌-◌, ◌/◌, ◌≤◌, ◌<◌, ◌%◌}
use native.Mathlib.Nat.{add-zero, zero-add}
use native.Mathlib.Decide.{dec_le, ℕ_discrete}
use native.Mathlib.Omega.{arith}
use mathlib.Core.Path.{◌≡◌, refl, sym, ap, ◌∙◌}
use mathlib.Core.Bool.{Bool, true, false, cond, ◌&&◌}
use mathlib.Core.Logic.{◌⊎◌, inl, inr}
use lib.Dec.{eqb, leb, ltb}
use borrow.Author.Tests.{eq-eqb, ne_eqb, lt-ltb, le-leb, lt-leb}
use Rattle.automata.specs.Clocks.{one_if}
use Rattle.automata.specs.Comparison.{holds}
use Rattle.automata.specs.Rows.{openb, from}
use Rattle.automata.specs.Successors.{Rel, fixed, free, parts}
use Rattle.automata.proofs.Laws.Tests.{Says, true_or_false, and_law, eqb_law, leb_law, ltb_law, fails, refutes}
use Rattle.automata.proofs.Laws.Clocks.{openb_law}
use Rattle.automata.proofs.Laws.Count.{one_le}
use Rattle.regions.specs.Move.{rel_of, fits_at, permitsb, Stretch}
use Rattle.regions.specs.declared.clock_move.Move.{Move}
use Rattle.regions.proofs.Laws.Move.{freeb, by_partsb, is_parts, is_fixed, fits_free, fits_parts, fits_fixed, permits_free, permits_fixed, stretch_permits}
use Rattle.way_counts.specs.Kinds.{open_kind, kind, number, of_kind}
use Rattle.way_counts.specs.declared.kinds.Kind as code
use Rattle.way_counts.proofs.Laws.Sums.{total, total_from}

-- the code's cases --------------------------------------------------------------------------------------------------------------------

module _ (m : Move) (j : ℕ) where
  pub kind_above : m.top < j → 3 ≡ kind m j
  unfolding kind
  kind_above h = rw (lt-leb j m.top h)

  module _ (low : j ≤ m.top) where
    pub kind_none : permitsb m j ≡ false → 3 ≡ kind m j
    unfolding kind
    kind_none e = rw (le-leb j m.top low, e)

    module _ (p : permitsb m j ≡ true) where
      pub kind_shut : (j < m.top → j % 2 ≡ 1 → ⊥) → 0 ≡ kind m j
      unfolding kind
      kind_shut h =
          rw (
            le-leb j m.top low,
            p,
            fails (ltb j m.top && eqb (j % 2) 1) (and_law _ _ (ltb_law j m.top) (eqb_law (j % 2) 1)) (λ q. h q.0 q.1),
          )

      module _ (below : j < m.top) (odd : j % 2 ≡ 1) where
        no_free : freeb m j ≡ false
        no_free = rw (ne_eqb j m.top (λ e. omega arith))

        pub kind_parts : by_partsb m j ≡ true → 1 ≡ kind m j
        unfolding kind
        kind_parts e = rw (le-leb j m.top low, p, lt-ltb j m.top below, eq-eqb (j % 2) 1 odd, is_parts m j no_free e)

        pub kind_loose : by_partsb m j ≡ false → 2 ≡ kind m j
        unfolding kind
        kind_loose e = rw (le-leb j m.top low, p, lt-ltb j m.top below, eq-eqb (j % 2) 1 odd, is_fixed m j no_free e)

-- what a kind tells -------------------------------------------------------------------------------------------------------------------

module _ (m : Move) (j : ℕ) where
  -- what is of a kind below 3 is permitted
  pub kind_permits : kind m j < 3 → (j ≤ m.top) × (permitsb m j ≡ true)
  unfolding kind
  kind_permits h = go (leb j m.top && permitsb m j) (and_law (leb j m.top) (permitsb m j) (leb_law j m.top) (λ e. e, λ e. e)) h
    where
      go : (b : Bool) → Says b ((j ≤ m.top) × (permitsb m j ≡ true))
          → cond b (cond (ltb j m.top && eqb (j % 2) 1) (open_kind (rel_of m j)) 0) 3 < 3 → (j ≤ m.top) × (permitsb m j ≡ true)
      go true s l = s.0 refl
      go false s l = absurd (omega arith)

  -- .. and it is open just where its kind is above 0, and fits at every position but where its order is that of the parts
  abbrev pub Told : ℕ → Type 0
  Told c = (openb c j ≡ ltb 0 (kind m j)) × ((p : ℕ) → fits_at m j p ≡ cond (eqb (kind m j) 1) (holds m.comparison (p + 1) (2 * m.rank)) true)

  pub kind_says : (c : ℕ) → m.top ≡ 2 * c + 1 → kind m j < 3 → Told c
  kind_says c t h = go (true_or_false (freeb m j)) (true_or_false (by_partsb m j)) (true_or_false (openb c j))
    where
      low : j ≤ m.top
      low = (kind_permits h).0

      permitted : permitsb m j ≡ true
      permitted = (kind_permits h).1

      free_law : Says (freeb m j) ((j ≡ m.top) × (j + m.shift ≤ m.reference))
      free_law = and_law _ _ (eqb_law j m.top) (leb_law (j + m.shift) m.reference)

      parts_law : Says (by_partsb m j) ((j + m.shift ≡ m.reference) × (j % 2 ≡ 1))
      parts_law = and_law _ _ (eqb_law (j + m.shift) m.reference) (eqb_law (j % 2) 1)

      shut : openb c j ≡ false → ((p : ℕ) → fits_at m j p ≡ true) → Told c
      shut e f =
          let k : 0 ≡ kind m j = kind_shut m j low permitted (λ l o. refutes (openb c j) (openb_law c j) e (omega arith, o)) in
          rw (← k) (e, f)

      go : (freeb m j ≡ true) ⊎ (freeb m j ≡ false) → (by_partsb m j ≡ true) ⊎ (by_partsb m j ≡ false) → (openb c j ≡ true) ⊎ (openb c j ≡ false) → Told c
      go (inl f) b (inl o) = absurd (omega (arith, (free_law.0 f).0, ((openb_law c j).0 o).0))
      go (inl f) b (inr o) = shut o (λ p. sym (fits_free m j p f) ∙ permits_free m j f ∙ permitted)
      go (inr f) (inl b) (inl o) =
          let k : 1 ≡ kind m j = kind_parts m j low permitted (omega (arith, ((openb_law c j).0 o).0)) ((openb_law c j).0 o).1 b in
          rw (← k) (o, λ p. sym (fits_parts m j p f b))
      go (inr f) (inl b) (inr o) = absurd (between (ℕ_discrete j m.top))
        where
          -- at the top it would be free
          between : Dec (j ≡ m.top) → ⊥
          between (yes e) = refutes (freeb m j) free_law f (e, omega (arith, (parts_law.0 b).0))
          between (no e) = refutes (openb c j) (openb_law c j) o (omega (arith, low, (parts_law.0 b).1), (parts_law.0 b).1)
      go (inr f) (inr b) (inl o) =
          let k : 2 ≡ kind m j = kind_loose m j low permitted (omega (arith, ((openb_law c j).0 o).0)) ((openb_law c j).0 o).1 b in
          rw (← k) (o, λ p. sym (fits_fixed m j p f b) ∙ permits_fixed m j f b ∙ permitted)
      go (inr f) (inr b) (inr o) = shut o (λ p. sym (fits_fixed m j p f b) ∙ permits_fixed m j f b ∙ permitted)

  pub kind_le : kind m j ≤ 3
  unfolding kind
  kind_le = go (leb j m.top && permitsb m j) (ltb j m.top && eqb (j % 2) 1) (rel_of m j)
    where
      go : (a b : Bool) (r : Rel) → cond a (cond b (open_kind r) 0) 3 ≤ 3
      go false b r = omega arith
      go true false r = omega arith
      go true true (fixed o) = omega arith
      go true true free = omega arith
      go true true (parts q) = omega arith

  -- what is permitted is of a kind below 3
  pub permits_kind : j ≤ m.top → permitsb m j ≡ true → kind m j < 3
  unfolding kind
  permits_kind l p = rw (le-leb j m.top l, p) (go (ltb j m.top && eqb (j % 2) 1) (rel_of m j))
    where
      go : (b : Bool) (r : Rel) → cond b (open_kind r) 0 < 3
      go false r = omega arith
      go true (fixed o) = omega arith
      go true free = omega arith
      go true (parts q) = omega arith

-- the code's kinds -------------------------------------------------------------------------------------------------------------------

pub number_low : (k : code.Kind) → number k < 3
number_low code.TheVariants.Shut = omega arith
number_low code.TheVariants.Parted = omega arith
number_low code.TheVariants.Loose = omega arith

pub number_permits : (m : Move) (j : ℕ) (k : code.Kind) (b : Bool) → b ≡ eqb (kind m j) (number k) → b ≡ true → j ≤ m.top
number_permits m j k b e t = (kind_permits m j (omega (arith, (eqb_law (kind m j) (number k)).0 (sym e ∙ t), number_low k))).0

-- stretches ---------------------------------------------------------------------------------------------------------------------------

-- intervals of a stretch that are both even or both odd are of the same kind
module _ (m : Move) (i k : ℕ) (s : Stretch m i k) where
  pub stretch_kind : (a b : ℕ) → i ≤ a → a < k → i ≤ b → b < k → a % 2 ≡ b % 2 → kind m a ≡ kind m b
  unfolding kind
  stretch_kind a b la ha lb hb e = go (dec_le (suc i) m.top)
    where
      go : Dec (suc i ≤ m.top) → kind m a ≡ kind m b
      go (yes l) =
          let t = s.top_alone l in
          rw (
            le-leb a m.top (omega arith),
            le-leb b m.top (omega arith),
            lt-ltb a m.top (omega arith),
            lt-ltb b m.top (omega arith),
            stretch_permits m i k s a la ha,
            stretch_permits m i k s b lb hb,
            s.alike a la ha,
            s.alike b lb hb,
            e,
          )
      go (no l) = let w = s.within in let d : a ≡ b = omega arith in ap (kind m) d

  module _ (w : ℕ) where
    abbrev first : Bool
    first = eqb (kind m i) w

    abbrev second : Bool
    second = eqb (kind m (i + 1)) w

    halves : (a b : Bool) (d n : ℕ) → n ≡ cond a ((d + 1) / 2) 0 + cond b (d / 2) 0
        → n + one_if (cond (eqb (d % 2) 0) a b) ≡ cond a ((suc d + 1) / 2) 0 + cond b (suc d / 2) 0
    halves a b d n e = go (ℕ_discrete (d % 2) 0)
      where
        even : d % 2 ≡ 0 → (a b : Bool) → n ≡ cond a ((d + 1) / 2) 0 + cond b (d / 2) 0 → n + one_if a ≡ cond a ((suc d + 1) / 2) 0 + cond b (suc d / 2) 0
        even q true true h = omega arith
        even q true false h = omega arith
        even q false true h = omega arith
        even q false false h = omega arith

        odd : (d % 2 ≡ 0 → ⊥) → (a b : Bool) → n ≡ cond a ((d + 1) / 2) 0 + cond b (d / 2) 0 → n + one_if b ≡ cond a ((suc d + 1) / 2) 0 + cond b (suc d / 2) 0
        odd q true true h = omega arith
        odd q true false h = omega arith
        odd q false true h = omega arith
        odd q false false h = omega arith

        go : Dec (d % 2 ≡ 0) → n + one_if (cond (eqb (d % 2) 0) a b) ≡ cond a ((suc d + 1) / 2) 0 + cond b (suc d / 2) 0
        go (yes q) = rw (eq-eqb (d % 2) 0 q) (even q a b e)
        go (no q) = rw (ne_eqb (d % 2) 0 q) (odd q a b e)

    counted : (d : ℕ) → i + d ≤ k → of_kind m w (i + d) ≡ of_kind m w i + (cond first ((d + 1) / 2) 0 + cond second (d / 2) 0)
    unfolding of_kind
    counted zero h = rw add-zero (go first second)
      where
        go : (a b : Bool) → of_kind m w i ≡ of_kind m w i + (cond a ((0 + 1) / 2) 0 + cond b (0 / 2) 0)
        go true true = omega arith
        go true false = omega arith
        go false true = omega arith
        go false false = omega arith
    counted (suc d) h =
        let e : i + suc d ≡ suc (i + d) = omega arith in
        rw e (omega (arith, counted d (omega arith), halves first second d _ refl, ap one_if (alike (ℕ_discrete (d % 2) 0))))
      where
        alike : Dec (d % 2 ≡ 0) → eqb (kind m (i + d)) w ≡ cond (eqb (d % 2) 0) first second
        alike (yes q) = rw (eq-eqb (d % 2) 0 q, stretch_kind (i + d) i (omega arith) (omega arith) (omega arith) (omega arith) (omega arith))
        alike (no q) = rw (ne_eqb (d % 2) 0 q, stretch_kind (i + d) (i + 1) (omega arith) (omega arith) (omega arith) (omega arith) (omega arith))

    stretch_count : of_kind m w k ≡ of_kind m w i + (cond first ((k - i + 1) / 2) 0 + cond second ((k - i) / 2) 0)
    stretch_count = let e : i + (k - i) ≡ k = omega (arith, s.after) in rw e at (counted (k - i) (omega (arith, s.after)))

    -- one stretch more
    pub stretch_more : (total more : ℕ) → total ≡ of_kind m w i → more ≡ cond first ((k - i + 1) / 2) 0 + cond second ((k - i) / 2) 0 → total + more ≡ of_kind m w k
    stretch_more total more d e = omega (arith, stretch_count)

    pub stretch_none : ((j : ℕ) → j < i → kind m j ≡ w → ⊥) → (kind m i ≡ w → ⊥) → (kind m (i + 1) ≡ w → ⊥) → (j : ℕ) → j < k → kind m j ≡ w → ⊥
    stretch_none before out out' j h e = go (dec_le i j) (ℕ_discrete (j % 2) (i % 2))
      where
        go : Dec (i ≤ j) → Dec (j % 2 ≡ i % 2) → ⊥
        go (no l) d = before j (omega arith) e
        go (yes l) (yes q) = out (stretch_kind i j (omega arith) (omega arith) (omega arith) (omega arith) (sym q) ∙ e)
        go (yes l) (no q) = out' (stretch_kind (i + 1) j (omega arith) (omega arith) (omega arith) (omega arith) (omega arith) ∙ e)

-- counts ------------------------------------------------------------------------------------------------------------------------------

module _ (m : Move) (w : ℕ) where
  pub of_kind_le : (i : ℕ) → of_kind m w i ≤ i
  unfolding of_kind
  of_kind_le zero = omega arith
  of_kind_le (suc i) = omega (arith, of_kind_le i, one_le (eqb (kind m i) w))

  -- where some are counted, there is one
  pub one_counted : (i : ℕ) → 0 < of_kind m w i → (j : ℕ) × (j < i) × (kind m j ≡ w)
  unfolding of_kind
  one_counted zero h = absurd (omega arith)
  one_counted (suc i) h = go (eqb (kind m i) w) (eqb_law (kind m i) w) h (one_counted i)
    where
      go : (b : Bool) → Says b (kind m i ≡ w) → 0 < of_kind m w i + one_if b → (0 < of_kind m w i → (j : ℕ) × (j < i) × (kind m j ≡ w))
          → (j : ℕ) × (j < suc i) × (kind m j ≡ w)
      go true s l before = (i, omega arith, s.0 refl)
      go false s l before = let (j, a, e) = before (omega arith) in (j, omega arith, e)

-- a count, if it is asked for
pub none_or_many : (b : Bool) (n : ℕ) → cond b n 0 ≤ n
none_or_many true n = omega arith
none_or_many false n = omega arith

-- .. as a sum over the intervals
pub kind_total : (m : Move) (w i : ℕ) → total (λ (j : ℕ). one_if (eqb (kind m j) w)) (from 0 i) ≡ of_kind m w i
unfolding of_kind
kind_total m w zero = refl
kind_total m w (suc i) =
    total_from (λ (j : ℕ). one_if (eqb (kind m j) w)) 0 i ∙ rw (kind_total m w i, zero-add i)
