use Rattle.table_records.proofs.Laws.Edges.{edge_short, ends_fail, rest_short, rest_fits, guards_fail, updates_fail, edge_read}
use Rattle.table_records.proofs.Laws.Parts.{record_fits}
use Rattle.table_records.proofs.Laws.Scan.{refusal}
use mathlib.Core.Path.{sym, ◌∙◌}
use native.Mathlib.Omega.{arith}
use Rattle.table_records.proofs.edge.edge_record.Goals as goal

pub returns-then-bytes-lt5 : goal.returns-then-bytes-lt5
returns-then-bytes-lt5 c =
    refusal c.at.ensures (edge_short _ _ _ _ _ c.record-bytes.ensures c.if-bytes-lt5.true)

pub returns-then-not-ends_pass : goal.returns-then-not-ends_pass
returns-then-not-ends_pass c =
    refusal c.at-then-not-ends_pass.ensures (ends_fail _ _ _ _ _ c.record-bytes.ensures c.if-bytes-lt5.false (sym c.ends_pass.ensures ∙ c.if-not-ends_pass.true))

pub returns-then-rest-size : goal.returns-then-rest-size
returns-then-rest-size c =
    refusal c.at-then-rest-size.ensures (rest_short _ _ _ _ _ c.record-bytes.ensures c.if-bytes-lt5.false (sym c.ends_pass.ensures ∙ c.if-not-ends_pass.false) c.size_of-size.ensures c.part-rest.ensures c.if-rest-size.true)

pub returns-then-not-guards_pass : goal.returns-then-not-guards_pass
returns-then-not-guards_pass c =
    refusal c.at-then-not-guards_pass.ensures (guards_fail _ _ _ _ _ c.record-bytes.ensures c.if-bytes-lt5.false (sym c.ends_pass.ensures ∙ c.if-not-ends_pass.false) c.size_of-size.ensures c.part-rest.ensures c.if-rest-size.false (sym c.guards_pass.ensures ∙ c.if-not-guards_pass.true))

pub returns-then-not-updates_pass : goal.returns-then-not-updates_pass
returns-then-not-updates_pass c =
    refusal c.at-then-not-updates_pass.ensures (updates_fail _ _ _ _ _ c.record-bytes.ensures c.if-bytes-lt5.false (sym c.ends_pass.ensures ∙ c.if-not-ends_pass.false) c.size_of-size.ensures c.part-rest.ensures c.if-rest-size.false (sym c.guards_pass.ensures ∙ c.if-not-guards_pass.false) (sym c.updates_pass.ensures ∙ c.if-not-updates_pass.true))

pub returns : goal.returns
returns c =
    ((_, edge_read _ _ _ _ _ c.record-bytes.ensures c.if-bytes-lt5.false (sym c.ends_pass.ensures ∙ c.if-not-ends_pass.false) c.size_of-size.ensures c.part-rest.ensures c.if-rest-size.false (sym c.guards_pass.ensures ∙ c.if-not-guards_pass.false) (sym c.updates_pass.ensures ∙ c.if-not-updates_pass.false)), rest_fits _ _ _ 0 _ c.record-bytes.ensures c.if-bytes-lt5.false (sym c.ends_pass.ensures ∙ c.if-not-ends_pass.false) c.size_of-size.ensures c.part-rest.ensures c.if-rest-size.false)

pub overflow_add-at : goal.overflow_add-at
overflow_add-at c =
    omega (arith, record_fits _ _ _ _ c.record-bytes.ensures (omega arith) c.if-bytes-lt5.false)

pub overflow_add-result : goal.overflow_add-result
overflow_add-result c =
    omega (arith, record_fits _ _ _ _ c.record-bytes.ensures (omega arith) c.if-bytes-lt5.false)

pub overflow_add-result-2 : goal.overflow_add-result-2
overflow_add-result-2 c =
    omega (arith, rest_fits _ _ _ 0 _ c.record-bytes.ensures c.if-bytes-lt5.false (sym c.ends_pass.ensures ∙ c.if-not-ends_pass.false) c.size_of-size.ensures c.part-rest.ensures c.if-rest-size.false)
