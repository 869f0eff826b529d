use Rattle.region_lists.proofs.Laws.ListRecords.{head_missing, head_whole, too_many, row_refused, bytes_follow, all_read}
use Rattle.std.proofs.lemmas.Result.{err_from_is_err_and}
use Rattle.table_files.specs.Admission.{table_of}
use Rattle.table_records.proofs.Laws.Scan.{refusal}
use borrow.Author.Tests.{eqb-true, eqb-false}
use mathlib.Core.Path.{sym, ◌∙◌}
use native.Mathlib.Omega.{arith}
use Rattle.region_lists.proofs.list_records.read_list.Goals as goal

pub returns-then-is_empty-clause-told : goal.returns-then-is_empty-clause-told
returns-then-is_empty-clause-told c =
    refusal c.at.ensures (head_missing (table_of c.args.table.now.file.now) c.args.list.now c.record-header.result.now c.record-header.ensures (eqb-true _ _ (sym c.is_empty.ensures ∙ c.if-is_empty.true)))

pub two_bytes-count-requires : goal.two_bytes-count-requires
two_bytes-count-requires c =
    let e = head_whole (table_of c.args.table.now.file.now) c.args.list.now c.record-header.result.now c.record-header.ensures (eqb-false _ _ (sym c.is_empty.ensures ∙ c.if-is_empty.false)) in omega arith

pub returns-then-count-gt4096-clause-told : goal.returns-then-count-gt4096-clause-told
returns-then-count-gt4096-clause-told c =
    refusal c.at-then-count-gt4096.ensures (too_many (table_of c.args.table.now.file.now) c.args.list.now c.record-header.result.now c.record-header.ensures (eqb-false _ _ (sym c.is_empty.ensures ∙ c.if-is_empty.false)) _ c.two_bytes-count.ensures c.if-count-gt4096.true)

pub returns-in_err-read_rows-clause-told : goal.returns-in_err-read_rows-clause-told
returns-in_err-read_rows-clause-told c =
    let p = err_from_is_err_and c.from_residual.result c.from_residual.ensures.1 in
    rw (p.1, p.2) (row_refused (table_of c.args.table.now.file.now) c.args.list.now c.record-header.result.now c.record-header.ensures (eqb-false _ _ (sym c.is_empty.ensures ∙ c.if-is_empty.false)) _ c.two_bytes-count.ensures c.if-count-gt4096.false c.in_err-read_rows.ensures)

pub returns-then-list_end-list-clause-told : goal.returns-then-list_end-list-clause-told
returns-then-list_end-list-clause-told c =
    refusal c.at-then-list_end-list.ensures (bytes_follow (table_of c.args.table.now.file.now) c.args.list.now c.record-header.result.now c.record-header.ensures (eqb-false _ _ (sym c.is_empty.ensures ∙ c.if-is_empty.false)) _ c.two_bytes-count.ensures c.if-count-gt4096.false c.in_ok-read_rows.ensures _ c.args.table.now.count (rw (← c.list_end.ensures) c.if-list_end-list.true))

pub returns : goal.returns
returns c =
    let read = all_read (table_of c.args.table.now.file.now) c.args.list.now c.record-header.result.now c.record-header.ensures (eqb-false _ _ (sym c.is_empty.ensures ∙ c.if-is_empty.false)) _ c.two_bytes-count.ensures c.if-count-gt4096.false c.in_ok-read_rows.ensures _ c.args.table.now.count (rw (← c.list_end.ensures) c.if-list_end-list.false) in
    record { told = read.0; counted = read.1 }
