-- Waiting where some clock has an even interval: `left c r` is a row, and holds the points a little later. Assumes nothing.
use Prim.Native.Nat.{ℕ, ◌+◌, ◌*◌, ◌-◌, ◌≤◌, ◌<◌, ◌%◌, ◌/◌}
use native.Mathlib.Decide.{dec_lt, ℕ_discrete}
use native.Mathlib.Omega.{arith}
use mathlib.Core.Path.{◌≡◌, refl}
use mathlib.Core.Bool.{Bool, true, false, cond, ◌&&◌}
use mathlib.Core.List.{List}
use mathlib.Core.Logic.{◌⊎◌, inl, inr, ◌↔◌}
use lib.ListN.{length}
use lib.Dec.{ltb}
use borrow.Author.Tests.{lt-ltb, le-ltb}
use Rattle.automata.specs.Clocks.{at, one_if}
use Rattle.automata.specs.Row.{Row, Even, Open, Top, IsRow}
use Rattle.automata.specs.Point.{Within, part, Contains, later}
use Rattle.automata.specs.Wait.{evenb, entersb, growsb, leave_interval, leave_rank, left}
use Rattle.automata.proofs.Laws.Tests.{Says, fails, someb_law}
use Rattle.automata.proofs.Laws.Lists.{length_each, at_each}
use Rattle.automata.proofs.Laws.Stay.{after_delay}
use Rattle.automata.proofs.Laws.Clocks.{Kind, is_even, is_open, is_top, kind, evenb_law, entersb_law, within_even, within_open, within_top, begins}
use Rattle.automata.proofs.Laws.Ranks.{Clocked, ranked_open}

-- what becomes of one clock ----------------------------------------------------------------------------------------------------

-- interval j and rank k become j' and k'; n is 1 if some clock takes rank 1, else 0
data Leaving (c j k n j' k' : ℕ) : Type 0 where
  enters : Even c j → j < 2 * c → j' ≡ j + 1 → k' ≡ 1 → n ≡ 1 → Leaving c j k n j' k'
  tops : j ≡ 2 * c → j' ≡ j + 1 → k' ≡ 0 → Leaving c j k n j' k'
  opens : Open c j → 0 < k → j' ≡ j → k' ≡ k + n → Leaving c j k n j' k'
  stays : Top c j → j' ≡ j → k' ≡ 0 → Leaving c j k n j' k'

raised : (b : Bool) (k : ℕ) → 0 < k → cond (b && ltb 0 k) (k + 1) k ≡ k + one_if b
raised true k h = rw (lt-ltb 0 k h)
raised false k h = omega arith

kept : (b : Bool) (k : ℕ) → k ≡ 0 → cond (b && ltb 0 k) (k + 1) k ≡ 0
kept true k h = rw (le-ltb 0 k (omega arith)) h
kept false k h = h

leaving : (c j k : ℕ) (b : Bool) → j ≤ 2 * c + 1 → (Open c j → 0 < k) → ((Open c j → ⊥) → k ≡ 0) → (entersb c j ≡ true → b ≡ true)
    → Leaving c j k (one_if b) (leave_interval c j) (leave_rank b c j k)
unfolding leave_interval leave_rank
leaving c j k b h ro rs eb = go (kind c j h)
  where
    from_even : Even c j → Dec (j < 2 * c) → Leaving c j k (one_if b) (leave_interval c j) (leave_rank b c j k)
    from_even e (yes l) = let q = (entersb_law c j).1 (l, e.1) in enters e l (rw ((evenb_law c j).1 e)) (rw ((evenb_law c j).1 e, q)) (rw (eb q))
    from_even e (no l) = let q = fails (entersb c j) (entersb_law c j) (λ o. omega arith) in tops (omega arith) (rw ((evenb_law c j).1 e)) (rw ((evenb_law c j).1 e, q))

    go : Kind c j → Leaving c j k (one_if b) (leave_interval c j) (leave_rank b c j k)
    go (is_even e) = from_even e (dec_lt j (2 * c))
    go (is_open o) = let q = fails (evenb c j) (evenb_law c j) (λ e. omega arith) in opens o (ro o) (rw q) (rw q (raised b k (ro o)))
    go (is_top t) = let q = fails (evenb c j) (evenb_law c j) (λ e. omega arith) in stays t (rw q) (rw q (kept b k (rs (λ o. omega arith))))

leave_within : (D t c j k n x j' k' : ℕ) → Leaving c j k n j' k' → Within D c j x → 0 < t → t < D → (Open c j → part D j x + t < D) → Within D c j' (x + t)
leave_within D t c j k n x j' k' (enters e l ej ek en) i p q o =
    let f = begins D j' (j / 2) (omega arith) in
    let y = within_even D c j x i e in
    inr (inl (omega arith, omega arith, omega arith))
leave_within D t c j k n x j' k' (tops e ej ek) i p q o =
    let f = begins D j c (omega arith) in
    let y = within_even D c j x i (omega arith) in
    inr (inr (omega arith, omega arith))
leave_within D t c j k n x j' k' (opens e l ej ek) i p q o =
    let f = begins D j' (j / 2) (omega arith) in
    let y = within_open D c j x i e in
    let u : part D j x + t < D = o e in
    inr (inl (omega arith, omega arith, omega arith))
leave_within D t c j k n x j' k' (stays e ej ek) i p q o =
    let y = within_top D c j x i e in
    inr (inr (omega arith, omega arith))

-- an open clock after leaving: it entered, or was open before
abbrev Moved : ℕ → ℕ → ℕ → ℕ → ℕ → ℕ → ℕ → ℕ → ℕ → Type 0
Moved D t c j k n x j' k' =
    ((k' ≡ 1) × (part D j' (x + t) ≡ t) × (n ≡ 1))
    ⊎ (Open c j × (0 < k) × (k' ≡ k + n) × (0 < part D j x) × (part D j' (x + t) ≡ part D j x + t))

moved : (D t c j k n x j' k' : ℕ) → Leaving c j k n j' k' → Within D c j x → Open c j' → Moved D t c j k n x j' k'
moved D t c j k n x j' k' (enters e l ej ek en) i o =
    let f = begins D j' (j / 2) (omega arith) in
    let y = within_even D c j x i e in
    inl (ek, omega arith, en)
moved D t c j k n x j' k' (tops e ej ek) i o = absurd (omega arith)
moved D t c j k n x j' k' (opens e l ej ek) i o =
    let f = begins D j' (j / 2) (omega arith) in
    let y = within_open D c j x i e in
    inr (e, l, ek, omega arith, omega arith)
moved D t c j k n x j' k' (stays e ej ek) i o = absurd (omega arith)

leave_order : (D t n c₁ j₁ k₁ x₁ j₁' k₁' c₂ j₂ k₂ x₂ j₂' k₂' : ℕ)
    → Moved D t c₁ j₁ k₁ n x₁ j₁' k₁' → Moved D t c₂ j₂ k₂ n x₂ j₂' k₂'
    → (Open c₁ j₁ → Open c₂ j₂ → (k₁ ≤ k₂) ↔ (part D j₁ x₁ ≤ part D j₂ x₂))
    → (k₁' ≤ k₂') ↔ (part D j₁' (x₁ + t) ≤ part D j₂' (x₂ + t))
leave_order D t n c₁ j₁ k₁ x₁ j₁' k₁' c₂ j₂ k₂ x₂ j₂' k₂' (inl a) (inl b) o = omega arith
leave_order D t n c₁ j₁ k₁ x₁ j₁' k₁' c₂ j₂ k₂ x₂ j₂' k₂' (inl a) (inr b) o = omega arith
leave_order D t n c₁ j₁ k₁ x₁ j₁' k₁' c₂ j₂ k₂ x₂ j₂' k₂' (inr a) (inl b) o = omega arith
leave_order D t n c₁ j₁ k₁ x₁ j₁' k₁' c₂ j₂ k₂ x₂ j₂' k₂' (inr a) (inr b) o =
    let q = o a.0 b.0 in
    (λ p. let s = q.0 (omega arith) in omega arith, λ p. let s = q.1 (omega arith) in omega arith)

-- the row ----------------------------------------------------------------------------------------------------------------------

module _ (c : List ℕ) (r : Row) (row : IsRow c r) where
  grows_law : Says (growsb c r) ((w : ℕ) × (w < length c) × ((at r.intervals w < 2 * at c w) × (at r.intervals w % 2 ≡ 0)))
  unfolding growsb
  grows_law = someb_law (length c) (λ (w : ℕ). entersb (at c w) (at r.intervals w)) (λ w. entersb_law (at c w) (at r.intervals w))

  bump : ℕ
  bump = one_if (growsb c r)

  abbrev View : ℕ → Type 0
  View z = Leaving (at c z) (at r.intervals z) (at r.ranks z) bump (at (left c r).intervals z) (at (left c r).ranks z)

  left_view : (z : ℕ) → z < length c → View z
  unfolding left bump
  left_view z h =
      rw (
        at_each (length c) (λ (z : ℕ). leave_interval (at c z) (at r.intervals z)) z h,
        at_each (length c) (λ (z : ℕ). leave_rank (growsb c r) (at c z) (at r.intervals z) (at r.ranks z)) z h,
      )
      (leaving (at c z) (at r.intervals z) (at r.ranks z) (growsb c r) (row.in_range z h) (row.rank_open z h) (row.rank_shut z h)
      (λ q. grows_law.1 (z, h, (entersb_law (at c z) (at r.intervals z)).0 q)))

  -- a wait of less than 1 that takes no open clock to its next whole value
  pub leave : (D : ℕ) (v : List ℕ) (t : ℕ) → Contains c D v r → 0 < t → t < D
      → ((z : ℕ) → z < length c → Open (at c z) (at r.intervals z) → part D (at r.intervals z) (at v z) + t < D)
      → Contains c D (later t v) (left c r)
  leave D v t i p q below =
      after_delay c D v t r (left c r) i (λ z h. leave_within D t _ _ _ _ _ _ _ (left_view z h) (i.within z h) p q (below z h)) (λ z w hz hw oz ow.
      leave_order D t bump (at c z) (at r.intervals z) (at r.ranks z) (at v z) _ _ (at c w) (at r.intervals w) (at r.ranks w) (at v w) _ _
      (moved D t _ _ _ _ _ _ _ (left_view z hz) (i.within z hz) oz) (moved D t _ _ _ _ _ _ _ (left_view w hw) (i.within w hw) ow) (i.ordered z w hz hw))

  left_length : (length (left c r).intervals ≡ length c) × (length (left c r).ranks ≡ length c)
  unfolding left
  left_length = (length_each (length c) _, length_each (length c) _)

  -- some clock enters an open interval, or none does
  bumped : ((bump ≡ 1) × ((w : ℕ) × (w < length c) × (at (left c r).ranks w ≡ 1))) ⊎ (bump ≡ 0)
  unfolding bump
  bumped = go (growsb c r) refl
    where
      rank_one : (w : ℕ) → (at r.intervals w < 2 * at c w) × (at r.intervals w % 2 ≡ 0) → View w → at (left c r).ranks w ≡ 1
      rank_one w q (enters e l ej ek en) = ek
      rank_one w q (tops e ej ek) = absurd (omega arith)
      rank_one w q (opens e l ej ek) = absurd (omega arith)
      rank_one w q (stays e ej ek) = absurd (omega arith)

      go : (b : Bool) → growsb c r ≡ b → ((one_if b ≡ 1) × ((w : ℕ) × (w < length c) × (at (left c r).ranks w ≡ 1))) ⊎ (one_if b ≡ 0)
      go true e = let (w, h, q) = grows_law.0 e in inl (refl, (w, h, rank_one w q (left_view w h)))
      go false e = inr refl

  pub left_row : IsRow c (left c r)
  left_row = record {
    intervals_length = left_length.0;
    ranks_length = left_length.1;
    in_range = λ z h. (clocked z (left_view z h)).in_range;
    rank_open = λ z h. (clocked z (left_view z h)).rank_open;
    rank_shut = λ z h. (clocked z (left_view z h)).rank_shut;
    dense = λ z k h p q. dense' z k h p q (left_view z h) bumped;
  }
    where
      clocked : (z : ℕ) → View z → Clocked (at c z) (at (left c r).intervals z) (at (left c r).ranks z)
      clocked z (enters e l ej ek en) = record { in_range = omega arith; rank_open = λ o. omega arith; rank_shut = λ n. absurd (n (omega arith)) }
      clocked z (tops e ej ek) = record { in_range = omega arith; rank_open = λ o. omega arith; rank_shut = λ n. ek }
      clocked z (opens e l ej ek) = record { in_range = omega arith; rank_open = λ o. omega arith; rank_shut = λ n. absurd (n (omega arith)) }
      clocked z (stays e ej ek) = record { in_range = omega arith; rank_open = λ o. omega arith; rank_shut = λ n. ek }

      -- a clock of positive rank keeps its place among those that were open
      raised_rank : (w : ℕ) (h : w < length c) → 0 < at r.ranks w → Open (at c w) (at r.intervals w) → View w → at (left c r).ranks w ≡ at r.ranks w + bump
      raised_rank w h p o (enters e l ej ek en) = absurd (omega arith)
      raised_rank w h p o (tops e ej ek) = absurd (omega arith)
      raised_rank w h p o (opens e l ej ek) = ek
      raised_rank w h p o (stays e ej ek) = absurd (omega arith)

      shift : (k m : ℕ) → 0 < m → m + bump ≡ k → (w : ℕ) × (w < length c) × (at r.ranks w ≡ m) → (w : ℕ) × (w < length c) × (at (left c r).ranks w ≡ k)
      shift k m p e (w, h, q) = (w, h, (let s = raised_rank w h (omega arith) (ranked_open c r row w h (omega arith)) (left_view w h) in omega arith))

      dense_one : (z k : ℕ) → z < length c → 0 < k → k < at r.ranks z + bump → bump ≡ 1 → Dec (k ≡ 1)
          → (w : ℕ) × (w < length c) × (at (left c r).ranks w ≡ 1) → (w : ℕ) × (w < length c) × (at (left c r).ranks w ≡ k)
      dense_one z k h p q b (yes e) (w, hw, s) = (w, hw, omega arith)
      dense_one z k h p q b (no e) s = shift k (k - 1) (omega arith) (omega arith) (row.dense z (k - 1) h (omega arith) (omega arith))

      dense' : (z k : ℕ) → z < length c → 0 < k → k < at (left c r).ranks z → View z → ((bump ≡ 1) × ((w : ℕ) × (w < length c) × (at (left c r).ranks w ≡ 1))) ⊎ (bump ≡ 0)
          → (w : ℕ) × (w < length c) × (at (left c r).ranks w ≡ k)
      dense' z k h p q (enters e l ej ek en) b = absurd (omega arith)
      dense' z k h p q (tops e ej ek) b = absurd (omega arith)
      dense' z k h p q (opens e l ej ek) (inl b) = dense_one z k h p (omega arith) b.0 (ℕ_discrete k 1) b.1
      dense' z k h p q (opens e l ej ek) (inr b) = shift k k p (omega arith) (row.dense z k h p (omega arith))
      dense' z k h p q (stays e ej ek) b = absurd (omega arith)
