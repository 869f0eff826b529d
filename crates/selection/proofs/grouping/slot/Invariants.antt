use Prim.Native.Nat.{◌<◌}
use Rattle.selection.proofs.grouping.slot.Given as goal

abbrev pub invariant-loop-low : goal.invariant-loop-low
invariant-loop-low l = l.sum < 1024
