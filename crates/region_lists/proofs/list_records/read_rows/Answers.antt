use Rattle.tables.proofs.Laws.Tables.{describes_of}
use Rattle.calls.proofs.Laws.Rows.{row_width_is}
use Rattle.calls.specs.RegionFile.{row_width}
use Rattle.region_lists.proofs.Laws.ListRecords.{told_by, rows_begin, rows_on, rows_refused, rows_all}
use Rattle.std.proofs.lemmas.Result.{err_from_is_err_and}
use Rattle.table_files.specs.Admission.{table_of}
use borrow.Author.Rules.{rules}
use Prim.Native.Nat.{◌+◌}
use mathlib.Core.Path.{ap, ◌∙◌}
use native.Mathlib.Omega.{arith}
use Rattle.region_lists.proofs.list_records.read_rows.Goals as goal

pub loop-i-init : goal.loop-i-init
loop-i-init c =
    rows_begin _ _ _

pub overflow_add-at : goal.overflow_add-at
overflow_add-at c =
    let w = row_width_is c.args.table.now.head.clocks.count in search rules

pub returns-in_err-map_err : goal.returns-in_err-map_err
returns-in_err-map_err c =
    let p = err_from_is_err_and c.from_residual.result c.from_residual.ensures.1 in
    let R = rw c.in_err-map_err.was at (told_by (table_of c.args.table.now.file.now) c.args.list.now c.loop-i.at (c.loop-i.i-counter + 1) _ _ c.read_row.ensures c.map_err.ensures.cases (λ fault e k. search rules)) in
    rw (p.1, p.2) (rows_refused (table_of c.args.table.now.file.now) c.args.list.now _ _ _ c.loop-i.invariant c.loop-i-test.true _ _ R)

pub loop-i-preserved : goal.loop-i-preserved
loop-i-preserved c =
    let R = rw c.in_ok-map_err.was at (told_by (table_of c.args.table.now.file.now) c.args.list.now c.loop-i.at (c.loop-i.i-counter + 1) _ _ c.read_row.ensures c.map_err.ensures.cases (λ fault e k. search rules)) in
    rows_on (table_of c.args.table.now.file.now) c.args.list.now _ _ _ c.loop-i.invariant c.loop-i-test.true _ _ (c.row_width-size.ensures ∙ ap row_width (describes_of c.args.table.now).count) (omega (arith, (describes_of c.args.table.now).count, (describes_of c.args.table.now).few.few)) (R _).2

pub returns : goal.returns
returns c =
    (_, _, rows_all (table_of c.args.table.now.file.now) c.args.list.now _ _ _ c.loop-i.invariant c.loop-i-test.false)
