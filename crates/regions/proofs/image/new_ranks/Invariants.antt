use Prim.Native.Nat.{ℕ, ◌≤◌, ◌<◌, ◌-◌}
use Rattle.automata.specs.Clocks.{at, count}
use Rattle.regions.specs.Image.{marked}
use lib.ListN.{length}
use mathlib.Core.Path.{◌≡◌}
use Rattle.regions.proofs.image.new_ranks.Given as goal

abbrev pub invariant-loop-rank : goal.invariant-loop-rank
invariant-loop-rank l = (length l.counts ≡ 5) × (l.total ≡ count (marked l.used) (l.rank - 1)) × ((a : ℕ) → a < l.rank → at l.counts a ≡ count (marked l.used) a)
