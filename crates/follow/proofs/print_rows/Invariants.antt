use Rattle.std.proofs.Common.{◌≡◌}
use Rattle.calls.specs.RegionFile.{row_width}
use Rattle.follow.proofs.print_rows.Given as goal

-- each part is a row record
abbrev pub invariant-loop-row : goal.invariant-loop-row
invariant-loop-row g l = l.row-iterator.iter.size ≡ row_width l.fn.n
