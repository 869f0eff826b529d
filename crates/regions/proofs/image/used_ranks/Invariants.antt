use Prim.Native.Nat.{ℕ, ◌-◌, ◌≤◌, ◌<◌}
use Rattle.automata.specs.Rankings.{usedb}
use Rattle.regions.specs.Image.{marked}
use lib.ListN.{length}
use mathlib.Core.Path.{◌≡◌}
use Rattle.regions.proofs.image.used_ranks.Given as goal

abbrev pub invariant-loop-z : goal.invariant-loop-z
invariant-loop-z l = (l.z ≤ l.clocks) × (length l.used ≡ 5) × ((a : ℕ) → a < 5 → marked l.used a ≡ usedb l.ranks l.z a)
