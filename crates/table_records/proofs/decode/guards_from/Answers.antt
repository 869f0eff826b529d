use Rattle.table_records.proofs.Laws.Loops.{none_filled, one_filled, all_filled}
use borrow.Author.Rules.{rules}
use native.Mathlib.Omega.{arith}
use Rattle.table_records.proofs.decode.guards_from.Goals as goal

pub loop-i-init : goal.loop-i-init
loop-i-init c =
    none_filled (search rules)

pub loop-i-preserved : goal.loop-i-preserved
loop-i-preserved c =
    one_filled c.loop-i.invariant _ (omega arith) c.guard_from.ensures

pub returns : goal.returns
returns c =
    all_filled c.loop-i.invariant c.args.count (omega arith)
