use Rattle.table_records.proofs.Laws.Locations.{location_short, location_fails, location_read}
use Rattle.table_records.proofs.Laws.Parts.{record_fits}
use Rattle.table_records.proofs.Laws.Scan.{refusal}
use native.Mathlib.Omega.{arith}
use Rattle.table_records.proofs.location.location.Goals as goal

pub returns-then-bytes-lt3 : goal.returns-then-bytes-lt3
returns-then-bytes-lt3 c =
    refusal c.at.ensures (location_short _ _ _ c.record-bytes.ensures c.if-bytes-lt3.true)

pub returns-then-bytes-gt3 : goal.returns-then-bytes-gt3
returns-then-bytes-gt3 c =
    refusal c.at-then-bytes-gt3.ensures (location_fails _ _ _ c.record-bytes.ensures c.if-bytes-lt3.false c.if-bytes-gt3.true)

pub overflow_add-result : goal.overflow_add-result
overflow_add-result c =
    omega (arith, record_fits _ _ _ _ c.record-bytes.ensures (omega arith) c.if-bytes-lt3.false)

pub returns : goal.returns
returns c =
    ((_, location_read _ _ _ c.record-bytes.ensures c.if-bytes-lt3.false c.if-bytes-gt3.false), record_fits _ _ _ _ c.record-bytes.ensures (omega arith) c.if-bytes-lt3.false)
