use Rattle.table_records.proofs.Laws.Header.{header_short, counts_fail, bounds_short, bounds_fail, header_read, header_due}
use Rattle.table_records.proofs.Laws.Scan.{refusal}
use mathlib.Core.Path.{sym, ◌∙◌}
use Rattle.table_records.proofs.header.header.Goals as goal

pub returns-then-bytes-lt7 : goal.returns-then-bytes-lt7
returns-then-bytes-lt7 c =
    refusal c.at.ensures (header_short _ c.record-bytes.ensures c.if-bytes-lt7.true)

pub returns-then-not-counts_pass : goal.returns-then-not-counts_pass
returns-then-not-counts_pass c =
    refusal c.at-then-not-counts_pass.ensures (counts_fail _ c.record-bytes.ensures c.if-bytes-lt7.false (sym c.counts_pass.ensures ∙ c.if-not-counts_pass.true))

pub returns-then-rest-n : goal.returns-then-rest-n
returns-then-rest-n c =
    refusal c.at-then-rest-n.ensures (bounds_short _ c.record-bytes.ensures c.if-bytes-lt7.false (sym c.counts_pass.ensures ∙ c.if-not-counts_pass.false) c.part-rest.ensures c.if-rest-n.true)

pub returns-then-not-bounds_pass : goal.returns-then-not-bounds_pass
returns-then-not-bounds_pass c =
    refusal c.at-then-not-bounds_pass.ensures (bounds_fail _ c.record-bytes.ensures c.if-bytes-lt7.false (sym c.counts_pass.ensures ∙ c.if-not-counts_pass.false) c.part-rest.ensures c.if-rest-n.false (sym c.bounds_pass.ensures ∙ c.if-not-bounds_pass.true))

pub head_of-requires-clause-bytes_value : goal.head_of-requires-clause-bytes_value
head_of-requires-clause-bytes_value c =
    (header_due _ c.record-bytes.ensures c.if-bytes-lt7.false (sym c.counts_pass.ensures ∙ c.if-not-counts_pass.false) c.part-rest.ensures c.if-rest-n.false).0

pub head_of-requires-clause-rest_len_bound : goal.head_of-requires-clause-rest_len_bound
head_of-requires-clause-rest_len_bound c =
    (header_due _ c.record-bytes.ensures c.if-bytes-lt7.false (sym c.counts_pass.ensures ∙ c.if-not-counts_pass.false) c.part-rest.ensures c.if-rest-n.false).1

pub returns : goal.returns
returns c =
    header_read _ c.record-bytes.ensures c.if-bytes-lt7.false (sym c.counts_pass.ensures ∙ c.if-not-counts_pass.false) c.part-rest.ensures c.if-rest-n.false (sym c.bounds_pass.ensures ∙ c.if-not-bounds_pass.false) c.head_of.ensures
