-- Waiting where no clock has an even interval: `arrived c r` is a row, and holds the points at which the clocks of greatest rank
-- have come to whole values. Assumes nothing.
use Prim.Native.Nat.{ℕ, ◌+◌, ◌*◌, ◌≤◌, ◌<◌, ◌/◌}
use native.Mathlib.Decide.{dec_lt, ℕ_discrete}
use native.Mathlib.Omega.{arith}
use mathlib.Core.Path.{◌≡◌}
use mathlib.Core.List.{List}
use mathlib.Core.Logic.{◌⊎◌, inl, inr}
use lib.ListN.{length}
use borrow.Author.Tests.{eq-eqb, ne_eqb}
use Rattle.automata.specs.Clocks.{at, greatest}
use Rattle.automata.specs.Row.{Row, Even, Open, IsRow}
use Rattle.automata.specs.Point.{Within, part, Contains, later}
use Rattle.automata.specs.Wait.{arrive_interval, arrive_rank, arrived}
use Rattle.automata.proofs.Laws.Lists.{length_each, at_each, at_greatest}
use Rattle.automata.proofs.Laws.Stay.{after_delay}
use Rattle.automata.proofs.Laws.Clocks.{open_or_not, within_open, begins}
use Rattle.automata.proofs.Laws.Ranks.{Clocked, ranked_open}

-- what becomes of one clock, g the greatest rank ---------------------------------------------------------------------------------

-- interval j and rank k become j' and k'
data Arriving (c j k g j' k' : ℕ) : Type 0 where
  comes : Open c j → k ≡ g → j' ≡ j + 1 → k' ≡ 0 → Arriving c j k g j' k'
  opens : Open c j → 0 < k → k < g → j' ≡ j → k' ≡ k → Arriving c j k g j' k'
  stays : (Open c j → ⊥) → j' ≡ j → k' ≡ 0 → Arriving c j k g j' k'

arriving : (c j k g : ℕ) → 0 < g → k ≤ g → (Open c j → ⊥) ⊎ Open c j → (Open c j → 0 < k) → ((Open c j → ⊥) → k ≡ 0) → Arriving c j k g (arrive_interval g j k) (arrive_rank g k)
unfolding arrive_interval arrive_rank
arriving c j k g p b (inr o) ro rs = go (ℕ_discrete k g)
  where
    go : Dec (k ≡ g) → Arriving c j k g (arrive_interval g j k) (arrive_rank g k)
    go (yes e) = comes o e (rw (eq-eqb k g e)) (rw (eq-eqb k g e))
    go (no e) = opens o (ro o) (omega arith) (rw (ne_eqb k g e)) (rw (ne_eqb k g e))
arriving c j k g p b (inl o) ro rs =
    let q : k ≡ 0 = rs o in
    let e = ne_eqb k g (omega arith) in
    stays o (rw e) (rw e q)

arrive_within : (D t c j k g x j' k' : ℕ) → Arriving c j k g j' k' → Within D c j x → (Even c j → ⊥)
    → (Open c j → k ≡ g → part D j x + t ≡ D) → (Open c j → k < g → part D j x + t < D) → Within D c j' (x + t)
arrive_within D t c j k g x j' k' (comes o e ej ek) i n eq lt =
    let f = begins D j' (j / 2 + 1) (omega arith) in
    let y = within_open D c j x i o in
    let u : part D j x + t ≡ D = eq o e in
    inl (omega arith, omega arith)
arrive_within D t c j k g x j' k' (opens o l e ej ek) i n eq lt =
    let f = begins D j' (j / 2) (omega arith) in
    let y = within_open D c j x i o in
    let u : part D j x + t < D = lt o e in
    inr (inl (omega arith, omega arith, omega arith))
arrive_within D t c j k g x j' k' (stays o ej ek) (inl p) n eq lt = absurd (n p.0)
arrive_within D t c j k g x j' k' (stays o ej ek) (inr (inl p)) n eq lt = absurd (o p.0)
arrive_within D t c j k g x j' k' (stays o ej ek) (inr (inr p)) n eq lt = inr (inr (omega arith, omega arith))

-- an open clock after arriving was open before
abbrev Kept : ℕ → ℕ → ℕ → ℕ → ℕ → ℕ → ℕ → ℕ → Type 0
Kept D t c j k x j' k' = Open c j × (k' ≡ k) × (part D j' (x + t) ≡ part D j x + t)

kept : (D t c j k g x j' k' : ℕ) → Arriving c j k g j' k' → Within D c j x → Open c j' → Kept D t c j k x j' k'
kept D t c j k g x j' k' (comes o e ej ek) i o' = absurd (omega arith)
kept D t c j k g x j' k' (opens o l e ej ek) i o' =
    let f = begins D j' (j / 2) (omega arith) in
    let y = within_open D c j x i o in
    (o, ek, omega arith)
kept D t c j k g x j' k' (stays o ej ek) i o' = absurd (o (omega arith))

-- the row ----------------------------------------------------------------------------------------------------------------------

module _ (c : List ℕ) (r : Row) (row : IsRow c r) (some_open : 0 < greatest r.ranks) where
  abbrev View : ℕ → Type 0
  View z = Arriving (at c z) (at r.intervals z) (at r.ranks z) (greatest r.ranks) (at (arrived c r).intervals z) (at (arrived c r).ranks z)

  arrived_view : (z : ℕ) → z < length c → View z
  unfolding arrived
  arrived_view z h =
      rw (
        at_each (length c) (λ (z : ℕ). arrive_interval (greatest r.ranks) (at r.intervals z) (at r.ranks z)) z h,
        at_each (length c) (λ (z : ℕ). arrive_rank (greatest r.ranks) (at r.ranks z)) z h,
      )
      (arriving (at c z) (at r.intervals z) (at r.ranks z) (greatest r.ranks) some_open (at_greatest r.ranks z)
      (open_or_not (at c z) (at r.intervals z)) (row.rank_open z h) (row.rank_shut z h))

  -- a wait after which w, a clock of greatest rank, is at its next whole value
  pub arrive : (D : ℕ) (v : List ℕ) (t w : ℕ) → Contains c D v r
      → ((z : ℕ) → z < length c → Even (at c z) (at r.intervals z) → ⊥)
      → w < length c → at r.ranks w ≡ greatest r.ranks → part D (at r.intervals w) (at v w) + t ≡ D
      → Contains c D (later t v) (arrived c r)
  arrive D v t w i none hw top e =
      after_delay c D v t r (arrived c r) i (λ z h. arrive_within D t _ _ _ _ _ _ _ (arrived_view z h) (i.within z h) (none z h) (equal z h) (less z h)) (λ z y hz hy oz oy.
      let kz = kept D t _ _ _ _ _ _ _ (arrived_view z hz) (i.within z hz) oz in
      let ky = kept D t _ _ _ _ _ _ _ (arrived_view y hy) (i.within y hy) oy in
      let q = i.ordered z y hz hy kz.0 ky.0 in
      (λ p. let s = q.0 (omega (arith, kz, ky)) in omega (arith, kz, ky), λ p. let s = q.1 (omega (arith, kz, ky)) in omega (arith, kz, ky)))
    where
      ow : Open (at c w) (at r.intervals w)
      ow = ranked_open c r row w hw (omega arith)

      equal : (z : ℕ) → z < length c → Open (at c z) (at r.intervals z) → at r.ranks z ≡ greatest r.ranks → part D (at r.intervals z) (at v z) + t ≡ D
      equal z h o q =
          let a = (i.ordered z w h hw o ow).0 (omega arith) in
          let b = (i.ordered w z hw h ow o).0 (omega arith) in
          omega arith

      less : (z : ℕ) → z < length c → Open (at c z) (at r.intervals z) → at r.ranks z < greatest r.ranks → part D (at r.intervals z) (at v z) + t < D
      less z h o q = go (dec_lt (part D (at r.intervals z) (at v z) + t) D)
        where
          go : Dec (part D (at r.intervals z) (at v z) + t < D) → part D (at r.intervals z) (at v z) + t < D
          go (yes l) = l
          go (no l) = let b : at r.ranks w ≤ at r.ranks z = (i.ordered w z hw h ow o).1 (omega arith) in absurd (omega arith)

  arrived_length : (length (arrived c r).intervals ≡ length c) × (length (arrived c r).ranks ≡ length c)
  unfolding arrived
  arrived_length = (length_each (length c) _, length_each (length c) _)

  pub arrived_row : IsRow c (arrived c r)
  arrived_row = record {
    intervals_length = arrived_length.0;
    ranks_length = arrived_length.1;
    in_range = λ z h. (clocked z (row.in_range z h) (arrived_view z h)).in_range;
    rank_open = λ z h. (clocked z (row.in_range z h) (arrived_view z h)).rank_open;
    rank_shut = λ z h. (clocked z (row.in_range z h) (arrived_view z h)).rank_shut;
    dense = λ z k h p q. dense' z k h p q (arrived_view z h);
  }
    where
      clocked : (z : ℕ) → at r.intervals z ≤ 2 * at c z + 1 → View z → Clocked (at c z) (at (arrived c r).intervals z) (at (arrived c r).ranks z)
      clocked z i (comes o e ej ek) = record { in_range = omega arith; rank_open = λ o'. omega arith; rank_shut = λ n. ek }
      clocked z i (opens o l e ej ek) = record { in_range = omega arith; rank_open = λ o'. omega arith; rank_shut = λ n. absurd (n (omega arith)) }
      clocked z i (stays o ej ek) = record { in_range = omega arith; rank_open = λ o'. absurd (o (omega arith)); rank_shut = λ n. ek }

      same_rank : (w : ℕ) → w < length c → 0 < at r.ranks w → at r.ranks w < greatest r.ranks → Open (at c w) (at r.intervals w) → View w → at (arrived c r).ranks w ≡ at r.ranks w
      same_rank w h p l' o' (comes o e ej ek) = absurd (omega arith)
      same_rank w h p l' o' (opens o l e ej ek) = ek
      same_rank w h p l' o' (stays o ej ek) = absurd (o o')

      keep : (k : ℕ) → 0 < k → k < greatest r.ranks → (w : ℕ) × (w < length c) × (at r.ranks w ≡ k) → (w : ℕ) × (w < length c) × (at (arrived c r).ranks w ≡ k)
      keep k p l (w, h, q) = (w, h, (let s = same_rank w h (omega arith) (omega arith) (ranked_open c r row w h (omega arith)) (arrived_view w h) in omega arith))

      dense' : (z k : ℕ) → z < length c → 0 < k → k < at (arrived c r).ranks z → View z → (w : ℕ) × (w < length c) × (at (arrived c r).ranks w ≡ k)
      dense' z k h p q (comes o e ej ek) = absurd (omega arith)
      dense' z k h p q (opens o l e ej ek) = keep k p (omega arith) (row.dense z k h p (omega arith))
      dense' z k h p q (stays o ej ek) = absurd (omega arith)
