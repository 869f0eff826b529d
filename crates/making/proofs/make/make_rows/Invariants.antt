use Rattle.making_turns.specs.Work.{left, Loops}
use Rattle.std.proofs.Common.{length}
use Rattle.making.proofs.make.make_rows.Given as goal

-- work goes on, or has ended
abbrev pub invariant-loop-s : goal.invariant-loop-s
invariant-loop-s l = Loops l.fn.table l.fn.buffer (length l.fn.waiting) l.buffer l.waiting l.s

-- every turn leaves less to do
abbrev pub decreases-loop-s : goal.decreases-loop-s
decreases-loop-s l = left l.s
