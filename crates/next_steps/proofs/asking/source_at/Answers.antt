use Rattle.next_steps.proofs.Laws.Sources.{source_is}
use Rattle.table_records.proofs.Laws.Decode.{first_sized}
use native.Mathlib.Omega.{arith}
use Rattle.next_steps.proofs.asking.source_at.Goals as goal

pub bounds-part-2 : goal.bounds-part-2
bounds-part-2 c =
    omega (arith, first_sized c.requires c.part.ensures)

pub returns : goal.returns
returns c =
    source_is c.requires c.part.ensures
