use Rattle.regions.proofs.Laws.RegionTests.{used_run}
use mathlib.Core.Path.{sym, ◌∙◌}
use native.Mathlib.Omega.{arith}
use Rattle.regions.proofs.room.next_unused.Goals as goal

pub loop-rank-init : goal.loop-rank-init
loop-rank-init c =
    (omega arith, λ a l k. absurd (omega arith))

pub returns-then-not-is_used : goal.returns-then-not-is_used
returns-then-not-is_used c =
    c.loop-rank.invariant

pub loop-rank-preserved : goal.loop-rank-preserved
loop-rank-preserved c =
    (omega arith, used_run c.args.ranks c.args.clocks c.args.from c.loop-rank.rank c.loop-rank.invariant.1 (sym c.is_used.ensures ∙ c.if-not-is_used.false))

pub returns : goal.returns
returns c =
    (omega arith, λ a l k. c.loop-rank.invariant.1 a l (omega arith))
