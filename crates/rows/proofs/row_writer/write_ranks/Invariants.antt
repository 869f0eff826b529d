use Prim.Native.Nat.{◌≤◌}
use lib.ListN.{length, take, drop}
use mathlib.Core.List.{◌++◌}
use mathlib.Core.Path.{◌≡◌}
use Rattle.rows.proofs.row_writer.write_ranks.Given as goal

-- those before z are written, of the first n
abbrev pub invariant-loop-z : goal.invariant-loop-z
invariant-loop-z l =
    (l.z ≤ l.n → l.out ≡ take l.z l.ranks ++ drop l.z l.initial.out) ×
    (l.n ≤ l.z → l.out ≡ take l.n l.ranks ++ drop l.n l.initial.out) × (length l.out ≡ length l.initial.out)
