use Prim.Native.Nat.{ℕ, ◌≤◌, ◌<◌}
use Rattle.kept_rows.specs.Births.{birth}
use Rattle.selection.specs.Chosen.{taken_at}
use lib.Dec.{ltb}
use lib.ListN.{length}
use mathlib.Core.Path.{◌≡◌}
use Rattle.next_steps.proofs.walking.mark_old.Given as goal

abbrev pub invariant-loop-i : goal.invariant-loop-i
invariant-loop-i l = (length l.old ≡ 4096) × ((j : ℕ) → l.fn.rows.start ≤ j → j < l.i → taken_at l.old j ≡ ltb (birth l.list.clocks.count l.list.bytes.now j) l.first)
