-- The test of rows, and the list of a location's rows: what is in it, and that it ascends. Assumes nothing.
use Prim.Native.Nat.{ℕ, ◌+◌, ◌*◌, ◌≤◌, ◌<◌}
use native.Mathlib.Omega.{arith}
use mathlib.Core.Path.{◌≡◌, refl}
use mathlib.Core.Bool.{Bool, true, false, cond}
use mathlib.Core.Logic.{inl, inr}
use mathlib.Core.List.Memᴰ
use mathlib.Core.List.{List, [], ◌∷◌, map}
use lib.ListN.{length}
use lib.Dec.{eqb, ltb}
use Rattle.automata.specs.Clocks.{at, someb}
use Rattle.automata.specs.Row.{Row, Open, IsRow, Before, Below}
use Rattle.automata.specs.Closed.{Mem}
use Rattle.automata.specs.Rows.{openb, heldb, clockb, isrowb, from, gather, interval_lists, rank_lists, rows_at}
use Rattle.automata.proofs.Laws.Tests.{Says, never, eqb_law, leb_law, ltb_law, and_law, implies_law, says, allb_law, someb_law}
use Rattle.automata.proofs.Laws.Clocks.{openb_law}
use Rattle.automata.proofs.Laws.Ranks.{rank_le}
use Rattle.automata.proofs.Laws.Members.{map_in, map_out, gather_in, gather_out, select_in, select_out, from_in, choices_in, Sorted, sorted_select, sorted_map, sorted_gather, sorted_from, sorted_choices}

-- the test ----------------------------------------------------------------------------------------------------------------------------

rank_law : {P : Type 0} (b : Bool) → Says b P → (k : ℕ) → Says (cond b (ltb 0 k) (eqb k 0)) ((P → 0 < k) × ((P → ⊥) → k ≡ 0))
rank_law true l k = (λ h. (λ p. (ltb_law 0 k).0 h, λ n. absurd (n (l.0 refl))), λ h. (ltb_law 0 k).1 (h.0 (l.0 refl)))
rank_law false l k = (λ h. (λ p. never (l.1 p), λ n. (eqb_law k 0).0 h), λ h. (eqb_law k 0).1 (h.1 (λ p. never (l.1 p))))

module _ (c : List ℕ) (r : Row) where
  abbrev Held : ℕ → Type 0
  Held k = 0 < k → (w : ℕ) × (w < length c) × (at r.ranks w ≡ k)

  held_law : (k : ℕ) → Says (heldb c r k) (Held k)
  unfolding heldb
  held_law k = implies_law (ltb 0 k) (someb (length c) (λ (w : ℕ). eqb (at r.ranks w) k)) (ltb_law 0 k) (someb_law (length c) _ (λ w. eqb_law (at r.ranks w) k))

  abbrev Clock : ℕ → Type 0
  Clock z =
      ((at r.intervals z ≤ 2 * at c z + 1)
      × ((Open (at c z) (at r.intervals z) → 0 < at r.ranks z) × ((Open (at c z) (at r.intervals z) → ⊥) → at r.ranks z ≡ 0)))
      × ((k : ℕ) → k < at r.ranks z → Held k)

  clock_law : (z : ℕ) → Says (clockb c r z) (Clock z)
  unfolding clockb
  clock_law z =
      and_law _ _ (and_law _ _ (leb_law (at r.intervals z) (2 * at c z + 1)) (rank_law (openb (at c z) (at r.intervals z)) (openb_law (at c z) (at r.intervals z)) (at r.ranks z)))
      (allb_law (at r.ranks z) (heldb c r) held_law)

  pub isrowb_law : Says (isrowb c r) (IsRow c r)
  unfolding isrowb
  isrowb_law =
      says _ (and_law _ _ (and_law _ _ (eqb_law (length r.intervals) (length c)) (eqb_law (length r.ranks) (length c))) (allb_law (length c) (clockb c r) clock_law))
      (to, λ i. ((i.intervals_length, i.ranks_length), λ z h. ((i.in_range z h, (i.rank_open z h, i.rank_shut z h)), λ k q p. i.dense z k h p q)))
    where
      to : ((length r.intervals ≡ length c) × (length r.ranks ≡ length c)) × ((z : ℕ) → z < length c → Clock z) → IsRow c r
      to t = record {
        intervals_length = t.0.0;
        ranks_length = t.0.1;
        in_range = λ z h. (t.1 z h).0.0;
        rank_open = λ z h. (t.1 z h).0.1.0;
        rank_shut = λ z h. (t.1 z h).0.1.1;
        dense = λ z k h p q. (t.1 z h).1 k q p;
      }

-- the ranks ---------------------------------------------------------------------------------------------------------------------------

module _ (c : List ℕ) where
  -- the clock's rank is among those that its interval can have
  rank_in : (r : Row) → IsRow c r → (z : ℕ) → z < length c
      → Mem (at r.ranks z) (cond (openb (at c z) (at r.intervals z)) (from 1 (length c)) (0 ∷ []))
  rank_in r i z h = go (openb (at c z) (at r.intervals z)) (openb_law (at c z) (at r.intervals z))
    where
      go : (b : Bool) → Says b (Open (at c z) (at r.intervals z)) → Mem (at r.ranks z) (cond b (from 1 (length c)) (0 ∷ []))
      go true s =
          let p = i.rank_open z h (s.0 refl) in
          from_in 1 (length c) (at r.ranks z) (omega arith) (omega (arith, rank_le c r i z))
      go false s = Memᴰ.head (i.rank_shut z h (λ o. never (s.1 o)))

  pub rank_lists_in : (r : Row) → IsRow c r → Mem r.ranks (rank_lists c r.intervals)
  rank_lists_in r i = choices_in _ (length c) r.ranks i.ranks_length (rank_in r i)

  pub rank_lists_sorted : (js : List ℕ) → Sorted Before (rank_lists c js)
  rank_lists_sorted js = sorted_choices _ (length c) (λ z. go (openb (at c z) (at js z)))
    where
      go : (b : Bool) → Sorted ◌<◌ (cond b (from 1 (length c)) (0 ∷ []))
      go true = sorted_from 1 (length c)
      go false = (λ y m. absurd (Memᴰ.not-nil m), tt)

-- the list ----------------------------------------------------------------------------------------------------------------------------

module _ (c : List ℕ) (l : ℕ) where
  abbrev row : List ℕ → List ℕ → Row
  row js ks = record { location = l; intervals = js; ranks = ks }

  abbrev with_intervals : List ℕ → List Row
  with_intervals js = map (row js) (rank_lists c js)

  pub rows_at_in : (r : Row) → r.location ≡ l → IsRow c r → Mem r (rows_at c l)
  unfolding rows_at
  rows_at_in r e i =
      rw (← e) (select_in (isrowb c)
      (gather_in (λ (js : List ℕ). map (λ (ks : List ℕ). record { location = r.location; intervals = js; ranks = ks }) (rank_lists c js))
      (choices_in (λ (z : ℕ). from 0 (2 * at c z + 2)) (length c) r.intervals i.intervals_length (λ z h. from_in 0 (2 * at c z + 2) (at r.intervals z) (omega arith) (omega (arith, i.in_range z h))))
      (map_in (λ (ks : List ℕ). record { location = r.location; intervals = r.intervals; ranks = ks })
      (rank_lists_in c r i)))
      ((isrowb_law c r).1 i))

  pub rows_at_out : (r : Row) → Mem r (rows_at c l) → (r.location ≡ l) × IsRow c r
  unfolding rows_at
  rows_at_out r m =
      let (k, t) = select_out (isrowb c) (gather with_intervals (interval_lists c)) m in
      let (js, _, j) = gather_out with_intervals (interval_lists c) k in
      let (ks, _, e) = map_out (row js) (rank_lists c js) j in
      (rw e refl, (isrowb_law c r).0 t)

  pub rows_at_sorted : Sorted Below (rows_at c l)
  unfolding rows_at
  rows_at_sorted =
      sorted_select Below (isrowb c) (gather with_intervals (interval_lists c))
      (sorted_gather Before Below with_intervals ranked apart (interval_lists c) (sorted_choices (λ (z : ℕ). from 0 (2 * at c z + 2)) (length c) (λ z. sorted_from 0 (2 * at c z + 2))))
    where
      ranked : (js : List ℕ) → Sorted Below (with_intervals js)
      ranked js = sorted_map Before Below (row js) (λ ks ks' b. inr (refl, inr (refl, b))) (rank_lists c js) (rank_lists_sorted c js)

      apart : (js js' : List ℕ) → Before js js' → (r s : Row) → Mem r (with_intervals js) → Mem s (with_intervals js') → Below r s
      apart js js' b r s m k =
          let (ks, _, d) = map_out (row js) (rank_lists c js) m in
          let (ks', _, e) = map_out (row js') (rank_lists c js') k in
          rw (d, e) (inr (refl, inl b))
