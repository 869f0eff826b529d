use Prim.Native.Nat.{◌≤◌}
use Rattle.inclusion.proofs.counted.is_wide.Given as goal

abbrev pub invariant-loop-asked : goal.invariant-loop-asked
invariant-loop-asked l = l.choices ≤ 1024
