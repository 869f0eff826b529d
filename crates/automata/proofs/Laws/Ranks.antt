-- A row's ranks: which clocks have one, that none is missing, and that there are no more of them than clocks with open intervals; nor more than
-- some first ranks leave room for. Assumes nothing.
use Prim.Native.Nat.{ℕ, zero, suc, ◌+◌, ◌*◌, ◌≤◌, ◌<◌}
use native.Mathlib.Decide.{dec_lt, ℕ_discrete}
use native.Mathlib.Omega.{arith}
use mathlib.Core.Path.{◌≡◌, refl, sym, ap, ◌∙◌}
use mathlib.Core.Bool.{Bool, true, false, cond, not}
use mathlib.Core.Logic.{◌⊎◌, inl, inr}
use mathlib.Core.List.{List}
use lib.ListN.{length}
use lib.Dec.{eqb, ltb}
use borrow.Author.Tests.{ltb-true, lt-ltb, le-ltb, ne_eqb}
use Rattle.automata.specs.Clocks.{at, someb, greatest, one_if, count}
use Rattle.automata.specs.Row.{Row, Open, IsRow}
use Rattle.automata.specs.Rows.{openb}
use Rattle.automata.specs.Rankings.{open_clocks, usedb, newb, rank_room}
use Rattle.automata.proofs.Laws.Tests.{Says, never, true_or_false, fails, refutes, eqb_law, ltb_law, not_law, and_law, someb_law}
use Rattle.automata.proofs.Laws.Count.{one_le, count_all, count_same, count_but}
use Rattle.automata.proofs.Laws.Lists.{at_greatest, greatest_at}
use Rattle.automata.proofs.Laws.Clocks.{openb_law, open_or_not}

-- what a row asks of one clock's interval and rank
pub record Clocked (c j k : ℕ) : Type 0 where
  pub in_range : j ≤ 2 * c + 1
  pub rank_open : Open c j → 0 < k
  pub rank_shut : (Open c j → ⊥) → k ≡ 0

-- clocks with open intervals, for bounds c and intervals js ------------------------------------------------------------------------------

module _ (c js : List ℕ) where
  abbrev inside : ℕ → Bool
  inside z = openb (at c z) (at js z)

  -- there are no more than clocks
  pub open_clocks_le : (n : ℕ) → open_clocks c js n ≤ n
  unfolding open_clocks
  open_clocks_le zero = omega arith
  open_clocks_le (suc n) = omega (arith, open_clocks_le n, one_le (inside n))

  -- nor room for more ranks
  pub rank_room_few : (ks : List ℕ) (z n : ℕ) → rank_room c js ks z n ≤ n
  unfolding rank_room
  rank_room_few ks z zero = omega arith
  rank_room_few ks z (suc n) = omega (arith, rank_room_few ks z n, one_le (cond (ltb n z) (newb ks n) (inside n)))

-- ranks that clocks have -----------------------------------------------------------------------------------------------------------------

module _ (ks : List ℕ) where
  pub used_law : (n a : ℕ) → Says (usedb ks n a) ((w : ℕ) × (w < n) × (at ks w ≡ a))
  unfolding usedb
  used_law n a = someb_law n (λ (w : ℕ). eqb (at ks w) a) (λ w. eqb_law (at ks w) a)

  pub new_law : (w : ℕ) → Says (newb ks w) ((0 < at ks w) × (usedb ks w (at ks w) ≡ false))
  unfolding newb
  new_law w = and_law (ltb 0 (at ks w)) (not (usedb ks w (at ks w))) (ltb_law 0 (at ks w)) (not_law (usedb ks w (at ks w)))

  -- clock n changes nothing for ranks that it does not have
  used_other : (n a : ℕ) → (at ks n ≡ a → ⊥) → usedb ks (suc n) a ≡ usedb ks n a
  unfolding usedb someb
  used_other n a e = rw (ne_eqb (at ks n) a e)

  -- nor at all, where its own is not new
  used_old : (n a : ℕ) → newb ks n ≡ false → 0 < a → usedb ks (suc n) a ≡ usedb ks n a
  used_old n a e p = go (ℕ_discrete (at ks n) a)
    where
      go : Dec (at ks n ≡ a) → usedb ks (suc n) a ≡ usedb ks n a
      go (yes q) = by (true_or_false (usedb ks n a))
        where
          by : (usedb ks n a ≡ true) ⊎ (usedb ks n a ≡ false) → usedb ks (suc n) a ≡ usedb ks n a
          by (inl u) = (used_law (suc n) a).1 (n, omega arith, q) ∙ sym u
          by (inr u) = absurd (refutes (newb ks n) (new_law n) e (omega arith, ap (usedb ks n) q ∙ u))
      go (no q) = used_other n a q

  used_none : (m : ℕ) → count (usedb ks 0) m ≡ 0
  unfolding usedb someb
  used_none zero = refl
  used_none (suc m) = rw (used_none m)

  -- clocks have no more ranks than are counted, where each is counted that has a new one
  used_le : (t : ℕ → ℕ) (f : ℕ → Bool) (m n : ℕ) → ((w : ℕ) → t (suc w) ≡ t w + one_if (f w)) → ((w : ℕ) → w < n → newb ks w ≡ true → f w ≡ true)
      → count (usedb ks n) m ≤ t n
  used_le t f m zero more new = omega (arith, used_none m)
  used_le t f m (suc n) more new = go (newb ks n) refl (used_le t f m n more (λ w l. new w (omega arith)))
    where
      go : (b : Bool) → newb ks n ≡ b → count (usedb ks n) m ≤ t n → count (usedb ks (suc n)) m ≤ t (suc n)
      go true e i =
          let one : one_if (f n) ≡ 1 = rw (new n (omega arith) e) in
          omega (arith, more n, count_but (usedb ks (suc n)) (usedb ks n) (at ks n) m (λ a p l q. used_other n a (λ d. q (sym d))))
      go false e i = omega (arith, more n, count_same (usedb ks (suc n)) (usedb ks n) m (λ a p l. used_old n a e p))

-- a row's ranks -------------------------------------------------------------------------------------------------------------------------

module _ (c : List ℕ) (r : Row) (row : IsRow c r) where
  pub ranked_open : (z : ℕ) → z < length c → 0 < at r.ranks z → Open (at c z) (at r.intervals z)
  ranked_open z h p = go (open_or_not (at c z) (at r.intervals z))
    where
      go : (Open (at c z) (at r.intervals z) → ⊥) ⊎ Open (at c z) (at r.intervals z) → Open (at c z) (at r.intervals z)
      go (inr o) = o
      go (inl o) = let s : at r.ranks z ≡ 0 = row.rank_shut z h o in absurd (omega arith)

  -- some clock has the greatest rank
  pub foremost : 0 < greatest r.ranks → (w : ℕ) × (w < length c) × (at r.ranks w ≡ greatest r.ranks) × Open (at c w) (at r.intervals w)
  foremost g =
      let (w, h, e) = greatest_at r.ranks g in
      let i : w < length c = omega (arith, row.ranks_length) in
      (w, i, e, ranked_open w i (omega arith))

  -- every rank up to the greatest has a clock
  pub holder : (q : ℕ) → 0 < q → q ≤ greatest r.ranks → (z : ℕ) × (z < length c) × (at r.ranks z ≡ q)
  holder q h k = go (ℕ_discrete q (greatest r.ranks)) (foremost (omega arith))
    where
      go : Dec (q ≡ greatest r.ranks) → (w : ℕ) × (w < length c) × (at r.ranks w ≡ greatest r.ranks) × Open (at c w) (at r.intervals w)
          → (z : ℕ) × (z < length c) × (at r.ranks z ≡ q)
      go (yes e) t = (t.0, t.1, t.2 ∙ sym e)
      go (no n) t = let e : at r.ranks t.0 ≡ greatest r.ranks = t.2 in row.dense t.0 q t.1 h (omega arith)

  -- so there are no more of them than are counted, where each clock is counted that has a new one
  ranks_le : (t : ℕ → ℕ) (f : ℕ → Bool) → ((w : ℕ) → t (suc w) ≡ t w + one_if (f w)) → ((w : ℕ) → w < length c → newb r.ranks w ≡ true → f w ≡ true)
      → greatest r.ranks ≤ t (length c)
  ranks_le t f more new =
      omega (
        arith,
        count_all (usedb r.ranks (length c)) (greatest r.ranks) (λ a p l. (used_law r.ranks (length c) a).1 (holder a p l)),
        used_le r.ranks t f (greatest r.ranks) (length c) more new,
      )

  -- a clock with a new rank has an open interval
  new_open : (w : ℕ) → w < length c → newb r.ranks w ≡ true → inside c r.intervals w ≡ true
  new_open w l e = (openb_law (at c w) (at r.intervals w)).1 (ranked_open w l ((new_law r.ranks w).0 e).0)

  -- no more of them than clocks with open intervals
  pub open_ranks : greatest r.ranks ≤ open_clocks c r.intervals (length c)
  unfolding open_clocks
  open_ranks = ranks_le (open_clocks c r.intervals) (inside c r.intervals) (λ w. refl) new_open

  pub few_ranks : greatest r.ranks ≤ length c
  few_ranks = omega (arith, open_ranks, open_clocks_le c r.intervals (length c))

  pub rank_le : (z : ℕ) → at r.ranks z ≤ length c
  rank_le z = omega (arith, at_greatest r.ranks z, few_ranks)

  -- where the first z clocks have the ranks of ks, there is no more than room for
  module _ (ks : List ℕ) (z : ℕ) (same : (w : ℕ) → w < z → at r.ranks w ≡ at ks w) where
    same_used : (w a : ℕ) → w ≤ z → usedb r.ranks w a ≡ usedb ks w a
    unfolding usedb someb
    same_used zero a l = refl
    same_used (suc w) a l = rw (same w (omega arith), same_used w a (omega arith))

    same_new : (w : ℕ) → w < z → newb r.ranks w ≡ newb ks w
    unfolding newb
    same_new w l = rw (same w l, same_used w (at ks w) (omega arith))

    pub rank_room_le : (w : ℕ) → at r.ranks w ≤ rank_room c r.intervals ks z (length c)
    unfolding rank_room
    rank_room_le w =
        omega (
          arith,
          at_greatest r.ranks w,
          ranks_le (rank_room c r.intervals ks z) (λ (w : ℕ). cond (ltb w z) (newb ks w) (inside c r.intervals w)) (λ w. refl) new,
        )
      where
        new : (w : ℕ) → w < length c → newb r.ranks w ≡ true → cond (ltb w z) (newb ks w) (inside c r.intervals w) ≡ true
        new w l e = go (ltb w z) refl
          where
            go : (b : Bool) → ltb w z ≡ b → cond b (newb ks w) (inside c r.intervals w) ≡ true
            go true q = sym (same_new w (ltb-true w z q)) ∙ e
            go false q = new_open w l e

  -- where there is room for no rank above those of ks, each other clock has a new one
  module _ (ks : List ℕ) (z : ℕ) (same : (w : ℕ) → w < z → at r.ranks w ≡ at ks w) (within : inside c r.intervals z ≡ true) where
    abbrev room : ℕ → ℕ
    room = rank_room c r.intervals ks z

    -- the room once clock z has its rank
    abbrev left : ℕ → ℕ
    left = rank_room c r.intervals r.ranks (suc z)

    -- there is less by one, where that is not new
    left_less : newb r.ranks z ≡ false → (n : ℕ) → left n + one_if (ltb z n) ≡ room n
    unfolding rank_room
    left_less old zero = rw (le-ltb z 0 (omega arith))
    left_less old (suc n) = go (dec_lt n z) (ℕ_discrete n z) (left_less old n)
      where
        go : Dec (n < z) → Dec (n ≡ z) → left n + one_if (ltb z n) ≡ room n
            → left n + one_if (cond (ltb n (suc z)) (newb r.ranks n) (inside c r.intervals n)) + one_if (ltb z (suc n))
            ≡ room n + one_if (cond (ltb n z) (newb ks n) (inside c r.intervals n))
        go (yes l) d i =
            let e : one_if (ltb z n) ≡ 0 = rw (le-ltb z n (omega arith)) in
            rw (lt-ltb n (suc z) (omega arith), lt-ltb n z l, le-ltb z (suc n) (omega arith), same_new ks z same n l) (omega arith)
        go (no l) (yes d) i =
            let e : one_if (ltb z n) ≡ 0 = rw (le-ltb z n (omega arith)) in
            rw (lt-ltb n (suc z) (omega arith), le-ltb n z (omega arith), lt-ltb z (suc n) (omega arith), ap (newb r.ranks) d, old, ap (inside c r.intervals) d, within) (omega arith)
        go (no l) (no d) i =
            let e : one_if (ltb z n) ≡ 1 = rw (lt-ltb z n (omega arith)) in
            rw (le-ltb n (suc z) (omega arith), le-ltb n z (omega arith), lt-ltb z (suc n) (omega arith)) (omega arith)

    pub rank_fresh : z < length c → usedb ks z (room (length c)) ≡ true → usedb ks z (at r.ranks z) ≡ false
    rank_fresh h full = go (true_or_false (usedb ks z (at r.ranks z)))
      where
        go : (usedb ks z (at r.ranks z) ≡ true) ⊎ (usedb ks z (at r.ranks z) ≡ false) → usedb ks z (at r.ranks z) ≡ false
        go (inr f) = f
        go (inl u) =
            let old : newb r.ranks z ≡ false
            = fails (newb r.ranks z) (new_law r.ranks z) (λ p. never (sym p.1 ∙ same_used ks z same z (at r.ranks z) (omega arith) ∙ u)) in
            let (w, l, e) = (used_law ks z (room (length c))).0 full in
            let less : one_if (ltb z (length c)) ≡ 1 = rw (lt-ltb z (length c) h) in
            absurd (omega (arith, same w l, left_less old (length c), rank_room_le r.ranks (suc z) (λ v k. refl) w))
