use Rattle.table_records.proofs.Laws.Header.{copied_none, copied_one, copied_all}
use native.Mathlib.Omega.{arith}
use Rattle.table_records.proofs.header.bounds_of.Goals as goal

pub loop-z-init : goal.loop-z-init
loop-z-init c =
    copied_none

pub loop-z-preserved : goal.loop-z-preserved
loop-z-preserved c =
    copied_one c.loop-z.invariant (omega arith) (omega arith) (omega (arith, c.type_inv.bytes c.loop-z.z))

pub returns : goal.returns
returns c =
    copied_all c.loop-z.invariant (omega arith)
