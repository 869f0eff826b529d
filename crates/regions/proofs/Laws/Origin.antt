-- One clock whose update asks for one value: where that value comes from, and the interval and the part it has. Assumes nothing.
use Prim.Native.Nat.{ℕ, ◌+◌, ◌*◌, ◌-◌, ◌≤◌, ◌<◌, ◌%◌, ◌/◌, min}
use native.Mathlib.Nat.{mul-le-mul_right}
use native.Mathlib.Decide.{dec_le, ℕ_discrete}
use native.Mathlib.Omega.{arith}
use mathlib.Core.Path.{◌≡◌, refl, ap}
use mathlib.Core.Bool.{◌&&◌}
use mathlib.Core.Logic.{inl, inr}
use lib.Dec.{eqb, ltb}
use Rattle.automata.specs.Row.{Open}
use Rattle.automata.specs.Point.{Within, part}
use Rattle.regions.specs.Image.{moved_interval, moved_rank}
use Rattle.regions.specs.declared.clock_move.Move.{Move}
use Rattle.automata.proofs.Laws.Tests.{Says, fails, says, and_law, eqb_law, ltb_law}
use Rattle.automata.proofs.Laws.Sides.{Sides}

-- a clock of bound b moves by m: its new value, with down, is an old value in an old interval, with up
pub record Origin (D b : ℕ) (m : Move) : Type 0 where
  pub bound : ℕ
  pub interval : ℕ
  pub value : ℕ
  pub up : ℕ
  pub down : ℕ
  pub sides : Sides D bound interval value
  pub reach : b + down ≤ bound + up
  pub shift : m.shift ≡ 2 * down
  pub reference : m.reference ≡ interval + 2 * up
  pub top : m.top ≡ 2 * b + 1

-- the new interval is open
open_law : {D : ℕ} (b : ℕ) (m : Move) → Origin D b m → Says (ltb (moved_interval m) m.top && eqb (moved_interval m % 2) 1) (Open b (moved_interval m))
open_law b m o =
    says _ (and_law _ _ (ltb_law (moved_interval m) m.top) (eqb_law (moved_interval m % 2) 1)) (
      λ h. (omega (arith, o.top), h.1),
      λ h. (omega (arith, o.top), h.1),
    )

-- there the new part has the old clock's rank, and elsewhere none
pub open_rank : {D : ℕ} (b : ℕ) (m : Move) → Origin D b m → Open b (moved_interval m) → moved_rank m ≡ m.rank
unfolding moved_rank
open_rank b m o h = rw ((open_law b m o).1 h)

pub shut_rank : {D : ℕ} (b : ℕ) (m : Move) → Origin D b m → (Open b (moved_interval m) → ⊥) → moved_rank m ≡ 0
unfolding moved_rank
shut_rank b m o h = rw (fails _ (open_law b m o) h)

-- x is that new value
abbrev pub Comes : {D b : ℕ} {m : Move} → Origin D b m → ℕ → Type 0
Comes {D} o x = x + o.down * D ≡ o.value + o.up * D

module _ (D b : ℕ) (m : Move) (d : 0 < D) (o : Origin D b m) where
  -- there is one where the intervals say that it is not below 0
  pub some_value : m.shift ≤ m.reference → (x : ℕ) × Comes o x
  some_value h =
      let k : o.down ≤ o.interval / 2 + o.up = omega (arith, o.shift, o.reference) in
      let f = mul-le-mul_right D k in
      (o.value + o.up * D - o.down * D, omega (arith, o.sides.low))

  -- and only there
  pub no_value : (x : ℕ) → Comes o x → m.shift ≤ m.reference
  no_value x q = go (dec_le m.shift m.reference)
    where
      go : Dec (m.shift ≤ m.reference) → m.shift ≤ m.reference
      go (yes l) = l
      go (no l) =
          let k : o.interval / 2 + o.up + 1 ≤ o.down = omega (arith, o.shift, o.reference) in
          let u = o.sides.high (omega (arith, o.shift, o.reference, o.reach)) in
          absurd (omega (arith, mul-le-mul_right D k))

  module _ (x : ℕ) (q : Comes o x) where
    -- the new interval if there were no top
    free : ℕ
    free = m.reference - m.shift

    free_is : free + 2 * o.down ≡ o.interval + 2 * o.up
    unfolding free
    free_is = let h = no_value x q in omega (arith, o.shift, o.reference)

    -- where it begins
    begins_at : free / 2 * D + o.down * D ≡ o.interval / 2 * D + o.up * D
    begins_at =
        let f = free_is in
        let k : free / 2 + o.down ≡ o.interval / 2 + o.up = omega arith in
        let g : (free / 2 + o.down) * D ≡ (o.interval / 2 + o.up) * D = ap (λ (n : ℕ). n * D) k in
        omega arith

    low_within : free ≤ 2 * b → Within D b free x
    low_within l = go (ℕ_discrete (free % 2) 0)
      where
        go : Dec (free % 2 ≡ 0) → Within D b free x
        go (yes e) =
            let u = o.sides.high_even (omega (arith, free_is)) in
            inl ((l, e), omega (arith, begins_at))
        go (no e) =
            let u = o.sides.low_odd (omega (arith, free_is)) in
            let w = o.sides.high (omega (arith, free_is, o.reach)) in
            inr (inl ((omega arith, omega arith), omega (arith, begins_at), omega (arith, begins_at)))

    top_within : 2 * b < free → Within D b (2 * b + 1) x
    top_within l = inr (inr (refl, go (ℕ_discrete (free % 2) 0)))
      where
        go : Dec (free % 2 ≡ 0) → b * D < x
        go (yes e) =
            let k : b + 1 ≤ free / 2 = omega arith in
            omega (arith, begins_at, o.sides.low, mul-le-mul_right D k)
        go (no e) =
            let k : b ≤ free / 2 = omega arith in
            omega (arith, begins_at, o.sides.low_odd (omega (arith, free_is)), mul-le-mul_right D k)

    -- the new value lies in the new interval
    pub value_within : Within D b (moved_interval m) x
    unfolding moved_interval free
    value_within = go (dec_le free (2 * b))
      where
        go : Dec (free ≤ 2 * b) → Within D b (min free m.top) x
        go (yes l) = let e : min free m.top ≡ free = omega (arith, o.top) in rw e (low_within l)
        go (no l) = let e : min free m.top ≡ 2 * b + 1 = omega (arith, o.top) in rw e (top_within (omega arith))

    -- the new part is the old one
    pub value_part : Open b (moved_interval m) → part D (moved_interval m) x ≡ part D o.interval o.value
    unfolding moved_interval free
    value_part w =
        let e : min free m.top ≡ free = omega (arith, o.top) in
        rw e (omega (arith, begins_at, o.sides.low))

    -- and the old interval is open
    pub value_open : Open b (moved_interval m) → Open o.bound o.interval
    unfolding moved_interval free
    value_open w = let e : min free m.top ≡ free = omega (arith, o.top) in (omega (arith, free_is, o.reach), omega (arith, free_is))
