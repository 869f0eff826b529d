-- Waiting in time: a point of a row meets the rows that `wait` names, in turn, and no others. Assumes nothing.
use Prim.Native.Nat.{ℕ, zero, suc, ◌+◌, ◌*◌, ◌-◌, ◌≤◌, ◌<◌, ◌/◌}
use native.Mathlib.Decide.{dec_lt}
use native.Mathlib.Omega.{arith}
use mathlib.Core.Path.{◌≡◌, sym, ap, ◌∙◌}
use mathlib.Core.List.{List}
use mathlib.Core.Logic.{◌⊎◌, inl, inr}
use mathlib.Core.Option.{none, some}
use lib.ListN.{length}
use Rattle.automata.specs.Clocks.{at, greatest}
use Rattle.automata.specs.Row.{Row, Even, Open, IsRow}
use Rattle.automata.specs.Point.{Within, part, Contains, later, scaled}
use Rattle.automata.specs.Wait.{left, arrived, wait, Waits, stop, on}
use Rattle.automata.proofs.Laws.Lists.{at_later, length_later, later_zero, later_later, at_scaled, scaled_later, at_greatest}
use Rattle.automata.proofs.Laws.Clocks.{within_even, within_open}
use Rattle.automata.proofs.Laws.Ranks.{foremost}
use Rattle.automata.proofs.Laws.Scale.{scaling}
use Rattle.automata.proofs.Laws.Stay.{stay}
use Rattle.automata.proofs.Laws.Leave.{leave}
use Rattle.automata.proofs.Laws.Arrive.{arrive}
use Rattle.automata.proofs.Laws.Waiting.{SomeEven, NoneEven, Waiting, leaves, arrives, rests, waiting, some_same, not_none, waits_trans, waits_row}

-- one tick of 1/E: the row is still the same, or it is the next
abbrev pub Tick : List ℕ → ℕ → List ℕ → Row → Type 0
Tick c E u r = Contains c E (later 1 u) r ⊎ ((s : Row) × (wait c r ≡ some s) × Contains c E (later 1 u) s)

pub tick : (c : List ℕ) (E : ℕ) (u : List ℕ) (r : Row) → 1 < E → IsRow c r → Contains c E u r
    → (SomeEven c r → (z : ℕ) → z < length c → Open (at c z) (at r.intervals z) → part E (at r.intervals z) (at u z) + 1 < E)
    → Tick c E u r
tick c E u r p row i below = go (waiting c r row)
  where
    near : NoneEven c r → (g : 0 < greatest r.ranks) → wait c r ≡ some (arrived c r)
        → (w : ℕ) × (w < length c) × (at r.ranks w ≡ greatest r.ranks) × Open (at c w) (at r.intervals w) → Tick c E u r
    near n g e (w, hw, top, ow) = go' (dec_lt (part E (at r.intervals w) (at u w) + 1) E)
      where
        go' : Dec (part E (at r.intervals w) (at u w) + 1 < E) → Tick c E u r
        go' (yes l) = inl (stay c E u r 1 i n (λ z hz oz.
            let b = at_greatest r.ranks z in
            let q = (i.ordered z w hz hw oz ow).0 (omega arith) in
            omega arith))
        go' (no l) =
            let b = within_open E _ _ _ (i.within w hw) ow in
            inr (arrived c r, e, arrive c r row g E u 1 w i n hw top (omega arith))

    go : Waiting c r → Tick c E u r
    go (leaves s e) = inr (left c r, e, leave c r row E u 1 i (omega arith) p (below s))
    go (arrives n g e) = near n g e (foremost c r row g)
    go (rests n o e) = inl (stay c E u r 1 i n (λ z h q. absurd (o z h q)))

-- two half ticks ---------------------------------------------------------------------------------------------------------------

abbrev double : List ℕ → List ℕ
double v = scaled 2 v

even_part : (D c j x : ℕ) → Within (2 * D) c j (2 * x) → Open c j → part (2 * D) j (2 * x) + 1 < 2 * D
even_part D c j x i o =
    let b = within_open (2 * D) c j (2 * x) i o in
    let f : j / 2 * (2 * D) ≡ 2 * (j / 2 * D) = omega arith in
    omega arith

odd_not_even : (D c j x : ℕ) → Within (2 * D) c j (2 * x + 1) → Even c j → ⊥
odd_not_even D c j x i e =
    let b = within_even (2 * D) c j (2 * x + 1) i e in
    let f : j / 2 * (2 * D) ≡ 2 * (j / 2 * D) = omega arith in
    omega arith

module _ (c : List ℕ) (D : ℕ) (v : List ℕ) (r : Row) (row : IsRow c r) where
  below : Contains c (2 * D) (double v) r → (z : ℕ) → z < length c → Open (at c z) (at r.intervals z)
      → part (2 * D) (at r.intervals z) (at (double v) z) + 1 < 2 * D
  below i z h o =
      let e = at_scaled 2 v z in
      rw e (even_part D _ _ _ (rw e at (i.within z h)) o)

  first_half : Contains c (2 * D) (double v) r → Tick c (2 * D) (double v) r
  first_half i = tick c (2 * D) (double v) r (omega (arith, i.positive)) row i (λ s. below i)

  second_half : Contains c (2 * D) (later 1 (double v)) r → Tick c (2 * D) (later 1 (double v)) r
  second_half i = tick c (2 * D) (later 1 (double v)) r (omega (arith, i.positive)) row i (λ s. absurd (none s.0 s.1 s.2))
    where
      none : NoneEven c r
      none z h q =
          let hv : z < length (double v) = omega (arith, i.sized, length_later 1 (double v)) in
          let e : at (later 1 (double v)) z ≡ 2 * at v z + 1 = at_later 1 (double v) z hv ∙ ap (λ x. x + 1) (at_scaled 2 v z) in
          odd_not_even D _ _ _ (rw e at (i.within z h)) q

two_halves : (v : List ℕ) → later 1 (later 1 (double v)) ≡ double (later 1 v)
two_halves v = later_later 1 1 (double v) ∙ sym (scaled_later 2 1 v)

later_suc : (t : ℕ) (v : List ℕ) → later t (later 1 v) ≡ later (suc t) v
later_suc t v = later_later t 1 v ∙ ap (λ n. later n v) (omega arith)

-- COVERAGE ----------------------------------------------------------------------------------------------------------------------

-- the point u is in a row that waits lead to from r
abbrev pub Waited : List ℕ → ℕ → List ℕ → Row → Type 0
Waited c D u r = (s : Row) × Waits c r s × Contains c D u s

tick_reached : (c : List ℕ) (E : ℕ) (u : List ℕ) (r : Row) → Tick c E u r → Waited c E (later 1 u) r
tick_reached c E u r (inl i) = (r, stop, i)
tick_reached c E u r (inr (s, e, i)) = (s, on e stop, i)

whole : (c : List ℕ) (D : ℕ) (v : List ℕ) (r : Row) → IsRow c r → Contains c D v r → Waited c D (later 1 v) r
whole c D v r row i =
    let (s, a, j) = tick_reached c (2 * D) (double v) r (first_half c D v r row ((scaling 2 (omega arith) c D v r).0 i)) in
    let (s', b, k) = tick_reached c (2 * D) (later 1 (double v)) s (second_half c D v s (waits_row c row a) j) in
    (s', waits_trans c a b, (scaling 2 (omega arith) c D (later 1 v) s').1 (rw (two_halves v) at k))

pub coverage : (c : List ℕ) (D : ℕ) (t : ℕ) (v : List ℕ) (r : Row) → IsRow c r → Contains c D v r → Waited c D (later t v) r
coverage c D zero v r row i = (r, stop, rw (later_zero v) i)
coverage c D (suc t) v r row i =
    let (s, a, j) = whole c D v r row i in
    let (s', b, k) = coverage c D t (later 1 v) s (waits_row c row a) j in
    (s', waits_trans c a b, rw (later_suc t v) at k)

-- PROGRESS ----------------------------------------------------------------------------------------------------------------------

pub progress : (c : List ℕ) (D : ℕ) (v : List ℕ) (r r' : Row) → IsRow c r → Contains c D v r → wait c r ≡ some r'
    → (t : ℕ) × Contains c (2 * D) (later t (scaled 2 v)) r'
progress c D v r r' row i e = go (waiting c r row)
  where
    i₂ : Contains c (2 * D) (scaled 2 v) r
    i₂ = (scaling 2 (omega arith) c D v r).0 i

    go : Waiting c r → (t : ℕ) × Contains c (2 * D) (later t (scaled 2 v)) r'
    go (leaves s q) =
        (1, rw (some_same (wait c r) r' (left c r) e q) (leave c r row (2 * D) (scaled 2 v) 1 i₂ (omega arith) (omega arith) (below c D v r row i₂)))
    go (arrives n g q) =
        let (w, hw, top, ow) = foremost c r row g in
        let b = within_open (2 * D) _ _ _ (i₂.within w hw) ow in (
          2 * D - part (2 * D) (at r.intervals w) (at (scaled 2 v) w),
          rw (some_same (wait c r) r' (arrived c r) e q) (arrive c r row g (2 * D) (scaled 2 v) _ w i₂ n hw top (omega arith)),
        )
    go (rests n o q) = absurd (not_none (wait c r) r' e q)

-- FIRST -------------------------------------------------------------------------------------------------------------------------

-- t later the point is still in r, or it has been in the next row by then
abbrev pub StillOr : List ℕ → ℕ → List ℕ → Row → ℕ → Row → Type 0
StillOr c D v r t r' =
    Contains c D (later t v) r ⊎ ((t' : ℕ) × (t' ≤ 2 * t) × Contains c (2 * D) (later t' (scaled 2 v)) r')

later_again : (t : ℕ) (v : List ℕ) → later 1 (later t v) ≡ later (suc t) v
later_again t v = later_later 1 t v ∙ ap (λ n. later n v) (omega arith)

half_later : (t : ℕ) (v : List ℕ) → later 1 (double (later t v)) ≡ later (2 * t + 1) (double v)
half_later t v = ap (later 1) (scaled_later 2 t v) ∙ later_later 1 (2 * t) (double v)

half_again : (t : ℕ) (v : List ℕ) → later 1 (later 1 (double (later t v))) ≡ later (2 * t + 2) (double v)
half_again t v =
    let e : 2 * t + 1 + 1 ≡ 2 * t + 2 = omega arith in
    ap (later 1) (half_later t v) ∙ later_later 1 (2 * t + 1) (double v) ∙ ap (λ n. later n (double v)) e

pub first : (c : List ℕ) (D : ℕ) (v : List ℕ) (r r' : Row) → IsRow c r → Contains c D v r → wait c r ≡ some r' → (t : ℕ) → StillOr c D v r t r'
first c D v r r' row i e zero = inl (rw (later_zero v) i)
first c D v r r' row i e (suc t) = go (first c D v r r' row i e t)
  where
    whole' : Tick c (2 * D) (later 1 (double (later t v))) r → StillOr c D v r (suc t) r'
    whole' (inl j) = inl (rw (later_again t v) at ((scaling 2 (omega arith) c D (later 1 (later t v)) r).1 (rw (two_halves (later t v)) at j)))
    whole' (inr (s, q, j)) =
        inr (
          2 * t + 2,
          omega arith,
          rw (some_same (wait c r) r' s e q)
              (rw (half_again t v) at j),
        )

    half : Tick c (2 * D) (double (later t v)) r → StillOr c D v r (suc t) r'
    half (inl j) = whole' (second_half c D (later t v) r row j)
    half (inr (s, q, j)) = inr (2 * t + 1, omega arith, rw (some_same (wait c r) r' s e q) (rw (half_later t v) at j))

    go : StillOr c D v r t r' → StillOr c D v r (suc t) r'
    go (inl j) = half (first_half c D (later t v) r row ((scaling 2 (omega arith) c D (later t v) r).0 j))
    go (inr (t', b, j)) = inr (t', omega arith, j)

-- REST ------------------------------------------------------------------------------------------------------------------------

-- where waiting leads nowhere, the point stays
pub rest : (c : List ℕ) (D : ℕ) (v : List ℕ) (r : Row) → IsRow c r → Contains c D v r → wait c r ≡ none → (t : ℕ) → Contains c D (later t v) r
rest c D v r row i e t = go (waiting c r row)
  where
    go : Waiting c r → Contains c D (later t v) r
    go (leaves s q) = absurd (not_none (wait c r) (left c r) q e)
    go (arrives n g q) = absurd (not_none (wait c r) (arrived c r) q e)
    go (rests n o q) = stay c D v r t i n (λ z h a. absurd (o z h a))
