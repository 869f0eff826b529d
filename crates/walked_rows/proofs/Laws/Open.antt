-- The first of some numbers of which something does not hold, found one after the other, or of one thing and of another; one of them; the least of some.
-- Assumes nothing.
use Prim.Native.Nat.{ℕ, ◌+◌, ◌≤◌, ◌<◌}
use native.Mathlib.Decide.{dec_lt, ℕ_discrete}
use native.Mathlib.Omega.{arith}
use mathlib.Core.Path.{◌≡◌, refl, sym, subst}
use mathlib.Core.Logic.{◌↔◌}
use Rattle.std.specs.Option.{MatchOption, unwrap_or}
use Rattle.std.specs.declared.option.Option.{Option}
use Rattle.std.specs.declared.option.Option.TheVariants.{None, Some}
use Rattle.walked_rows.specs.Open.{FirstOpen, SomeOpen, LeastOf, Lowers}

module _ (P : ℕ → Type 0) (lo hi : ℕ) where
  -- one after the other ------------------------------------------------------------------------------------------------------------------

  -- it holds of all before r
  pub record HoldsTo (r : ℕ) : Type 0 where
    pub from : lo ≤ r
    pub to : r ≤ hi
    pub before : (i : ℕ) → lo ≤ i → i < r → P i

  pub holds_none : lo ≤ hi → HoldsTo lo
  holds_none h = record { from = omega arith; to = h; before = λ i a b. absurd (omega arith) }

  module _ (r : ℕ) (H : HoldsTo r) where
    pub holds_on : r < hi → P r → HoldsTo (r + 1)
    holds_on l h = record { from = omega (arith, H.from); to = omega arith; before = λ i a b. go i a b (ℕ_discrete i r) }
      where
        go : (i : ℕ) → lo ≤ i → i < r + 1 → Dec (i ≡ r) → P i
        go i a b (yes q) = rw q h
        go i a b (no q) = H.before i a (omega arith)

    pub holds_not : (P r → ⊥) → FirstOpen P lo hi r
    holds_not h = record { from = H.from; to = H.to; before = H.before; here = λ l. h }

    pub holds_all : hi ≤ r → FirstOpen P lo hi hi
    holds_all l = record { from = omega (arith, H.from, H.to); to = omega arith; before = λ i a b. H.before i a (omega arith); here = λ k. absurd (omega arith) }

  -- all at once
  pub first_none : lo ≤ hi → ((i : ℕ) → lo ≤ i → i < hi → P i) → FirstOpen P lo hi hi
  first_none h all = record { from = h; to = omega arith; before = all; here = λ k. absurd (omega arith) }

  -- as a search finds it
  pub first_found : lo ≤ hi → (r : Option ℕ) → MatchOption r ((i : ℕ) → lo ≤ i → i < hi → P i) (λ r. (lo ≤ r) × (r < hi) × (P r → ⊥) × ((i : ℕ) → lo ≤ i → i < r → P i))
      → FirstOpen P lo hi (unwrap_or r hi)
  first_found h None all = first_none h all
  first_found h (Some r) (from, to, not, before) = record { from = from; to = omega arith; before = before; here = λ l. not }

-- one of them, not the first ------------------------------------------------------------------------------------------------------------------

module _ (P : ℕ → Type 0) (lo hi r : ℕ) where
  -- the first is one
  pub first_some : FirstOpen P lo hi r → SomeOpen P lo hi r
  first_some F = record { from = F.from; to = F.to; all = λ z i a b. F.before i a (omega arith); here = F.here }

  -- where there is none, there is no first
  pub some_none : SomeOpen P lo hi r → hi ≤ r → FirstOpen P lo hi hi
  some_none S h = first_none P lo hi (omega (arith, S.from, S.to)) (S.all (omega (arith, S.to)))

-- of one thing and of another ----------------------------------------------------------------------------------------------------------------

module _ (P Q : ℕ → Type 0) (lo hi : ℕ) where
  -- what holds just where another thing does
  pub first_as : ((i : ℕ) → lo ≤ i → i < hi → P i ↔ Q i) → (r : ℕ) → FirstOpen P lo hi r → FirstOpen Q lo hi r
  first_as same r F = record { from = F.from; to = F.to; before = λ i a b. (same i a (omega (arith, F.to))).0 (F.before i a b); here = λ l q. F.here l ((same r F.from l).1 q) }

  module _ (R : ℕ → Type 0) (same : (i : ℕ) → lo ≤ i → i < hi → R i ↔ (P i × Q i)) (m : ℕ) (F : FirstOpen P lo hi m) where
    -- the first before the first of one thing of which another does not hold either is the first of which not both do
    pub first_then : (r : ℕ) → FirstOpen Q lo m r → FirstOpen R lo hi r
    first_then r G = record { from = G.from; to = omega (arith, F.to, G.to); before = λ i a b. (same i a (omega (arith, F.to, G.to))).1 (F.before i a (omega (arith, G.to)), G.before i a b); here = λ l h. go l h (dec_lt r m) }
      where
        go : r < hi → R r → Dec (r < m) → ⊥
        go l h (yes k) = G.here k ((same r G.from l).0 h).1
        go l h (no k) = let e : r ≡ m = omega (arith, G.to) in F.here (omega arith) (subst P e ((same r G.from l).0 h).0)

-- the least of some -----------------------------------------------------------------------------------------------------------------------------

module _ (P : ℕ → Type 0) (Is : ℕ → ℕ → Type 0) (hi : ℕ) where
  pub least_none : LeastOf P Is 0 hi hi
  least_none = record { to = omega arith; below = λ k i l. absurd (omega arith); one = λ l. absurd (omega arith); here = λ l. absurd (omega arith) }

  module _ (size r : ℕ) (L : LeastOf P Is size hi r) where
    -- the next one is row i
    pub least_on : (i r' : ℕ) → Is size i → ((j : ℕ) → Is size j → j ≡ i) → Lowers P i r r' → LeastOf P Is (size + 1) hi r'
    least_on i r' is only W = record { to = omega (arith, L.to, W.to); below = λ k j l s b. below k j l s b (ℕ_discrete k size); one = λ l. one l (dec_lt r' r); here = λ l h. here l h (dec_lt r' r) }
      where
        below : (k j : ℕ) → k < size + 1 → Is k j → j < r' → Dec (k ≡ size) → P j
        below k j l s b (yes q) = let e : j ≡ i = only j (rw q at s) in rw e (W.below (omega arith))
        below k j l s b (no q) = L.below k j (omega arith) s (omega (arith, W.to))

        one : r' < hi → Dec (r' < r) → (k : ℕ) × (k < size + 1) × Is k r'
        one l (yes b) = (size, omega arith, rw (W.one b) is)
        one l (no b) = let e : r' ≡ r = omega (arith, W.to) in let (k, m, s) = L.one (omega arith) in (k, omega arith, subst (Is k) (sym e) s)

        here : r' < hi → P r' → Dec (r' < r) → ⊥
        here l h (yes b) = W.here b (rw (W.one b) at h)
        here l h (no b) = let e : r' ≡ r = omega (arith, W.to) in L.here (omega arith) (subst P e h)

    -- there is no next one
    pub least_skips : ((j : ℕ) → Is size j → ⊥) → LeastOf P Is (size + 1) hi r
    least_skips none = record { to = L.to; below = λ k j l s b. below k j l s b (ℕ_discrete k size); one = λ l. (let (k, m, s) = L.one l in (k, omega arith, s)); here = L.here }
      where
        below : (k j : ℕ) → k < size + 1 → Is k j → j < r → Dec (k ≡ size) → P j
        below k j l s b (yes q) = absurd (none j (rw q at s))
        below k j l s b (no q) = L.below k j (omega arith) s b

    pub least_ends : (all : ℕ) → all ≤ size → size ≤ all → LeastOf P Is all hi r
    least_ends all a b = let e : all ≡ size = omega arith in rw e L

-- row i is looked at, or not
module _ (P : ℕ → Type 0) (i least : ℕ) where
  pub lowers_not : least ≤ i → Lowers P i least least
  lowers_not h = record { to = omega arith; below = λ l. absurd (omega arith); one = λ l. absurd (omega arith); here = λ l. absurd (omega arith) }

  pub lowers_passes : P i → Lowers P i least least
  lowers_passes h = record { to = omega arith; below = λ l. h; one = λ l. absurd (omega arith); here = λ l. absurd (omega arith) }

  pub lowers_fails : i < least → (P i → ⊥) → Lowers P i least i
  lowers_fails l h = record { to = omega arith; below = λ k. absurd (omega arith); one = λ k. refl; here = λ k. h }
