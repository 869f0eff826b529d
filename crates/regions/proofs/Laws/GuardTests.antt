-- The test of an edge's guards as the code makes it, guard by guard: r is the row, gs the code's guards, of which the first m count.
-- Assumes nothing.
use Prim.Native.Nat.{ℕ, min, ◌+◌, ◌*◌, ◌≤◌, ◌<◌}
use native.Mathlib.Numerals.{add-one}
use mathlib.Core.Path.{◌≡◌, ap}
use mathlib.Core.Bool.{Bool, true, false}
use mathlib.Core.List.{List, ◌∷◌, map}
use lib.ListN.{length, get_or, take, drop}
use lib.Seq.{drop-cons}
use Rattle.std.proofs.lemmas.List.{take_min}
use Rattle.automata.specs.Clocks.{at}
use Rattle.automata.specs.Comparison.{holds}
use Rattle.automata.specs.Row.{Row}
use Rattle.automata.specs.Edge.{GuardsIn}
use Rattle.automata.specs.Successors.{guardsb}
use Rattle.regions.specs.Values.{guard_of}
use Rattle.regions.specs.declared.edge.Guard.{Guard}
use Rattle.regions.proofs.Laws.Values.{get_or_mapped, length_mapped, drop_out}
use Rattle.automata.specs.Edge as spec

-- what stands past the code's guards
abbrev no_guard : Guard
no_guard = record { clock = 0; comparison = 0; constant = 0 }

-- guard i holds in the row
abbrev pub guard_at : Row → List Guard → ℕ → Bool
guard_at r gs i = holds (get_or gs i no_guard).comparison (at r.intervals (get_or gs i no_guard).clock) (2 * (get_or gs i no_guard).constant)

-- where more than eight guards are said to count, all eight do
pub as_many : (gs : List Guard) (m : ℕ) → length gs ≡ 8 → map guard_of (take (min m 8) gs) ≡ map guard_of (take m gs)
as_many gs m eight = ap (map guard_of) (rw eight at (take_min m gs))

module _ (gs : List Guard) (m : ℕ) (few : m ≤ length gs) (i : ℕ) where
  -- the guards that count, as the definitions have them
  abbrev counted : List spec.Guard
  counted = map guard_of (take m gs)

  within : i < m → i < length counted
  within h = rw (length_mapped guard_of m gs few) h

  first : i < m → drop i counted ≡ guard_of (get_or gs i no_guard) ∷ drop (i + 1) counted
  first h = rw (drop-cons counted i (guard_of no_guard) (within h), get_or_mapped guard_of m gs i no_guard (guard_of no_guard) few h, add-one)

  -- the guard's clock is one of the clocks
  pub guard_clock : (c : List ℕ) → GuardsIn c counted → i < m → (get_or gs i no_guard).clock < length c
  guard_clock c g h = rw (get_or_mapped guard_of m gs i no_guard (guard_of no_guard) few h) at (g i (within h) (guard_of no_guard)).0

  module _ (r : Row) where
    -- a guard that holds leaves it to those after it
    pub guards_on : i < m → guard_at r gs i ≡ true → guardsb r (drop i counted) ≡ guardsb r (drop (i + 1) counted)
    unfolding guardsb
    guards_on h e = rw (first h, e)

    -- a guard that does not hold decides
    pub guards_fail : i < m → guard_at r gs i ≡ false → guardsb r (drop i counted) ≡ false
    unfolding guardsb
    guards_fail h e = rw (first h, e)

    -- all have held
    pub guards_end : m ≤ i → guardsb r (drop i counted) ≡ true
    unfolding guardsb
    guards_end h = rw (drop_out i counted (rw (length_mapped guard_of m gs few) h))
