use Rattle.tables.proofs.Laws.Tables.{opened}
use Rattle.region_lists.proofs.Laws.RegionCall.{opened_refused, rows_answer, read_refused, promises}
use Rattle.std.proofs.lemmas.Result.{err_from_is_err_and}
use Rattle.table_files.proofs.Laws.Bytes.{are_bytes}
use native.Mathlib.Omega.{arith}
use Rattle.region_lists.proofs.region_list.check_regions.Goals as goal

pub returns-in_err-opened : goal.returns-in_err-opened
returns-in_err-opened c =
    let p = err_from_is_err_and c.from_residual.result c.from_residual.ensures.1 in
    let P = promises c.args.table.now c.args.list.now _ (are_bytes c.args.list.now (λ z l. omega (arith, c.type_inv.list z))) (opened_refused c.args.table.now c.args.list.now c.in_err-opened.ensures) in
    rw (p.1, p.2) (record { answer = P.0; closed = P.1.0; empty = P.1.1.0; complete = P.1.1.1 })

pub returns-in_err-count : goal.returns-in_err-count
returns-in_err-count c =
    let p = err_from_is_err_and c.from_residual-in_err-count.result c.from_residual-in_err-count.ensures.1 in
    let P = promises c.args.table.now c.args.list.now _ (are_bytes c.args.list.now (λ z l. omega (arith, c.type_inv.list z))) (read_refused c.args.table.now c.args.list.now c.in_ok-opened.opened.head (opened c.in_ok-opened.opened c.in_ok-opened.ensures) (rw c.in_ok-opened.ensures at c.in_err-count.ensures.told)) in
    rw (p.1, p.2) (record { answer = P.0; closed = P.1.0; empty = P.1.1.0; complete = P.1.1.1 })

pub returns : goal.returns
returns c =
    let P = promises c.args.table.now c.args.list.now _ (are_bytes c.args.list.now (λ z l. omega (arith, c.type_inv.list z))) (rows_answer c.args.table.now c.args.list.now c.in_ok-opened.opened.head (opened c.in_ok-opened.opened c.in_ok-opened.ensures) _ (rw c.in_ok-opened.ensures at c.check_rows.ensures)) in
    record { answer = P.0; closed = P.1.0; empty = P.1.1.0; complete = P.1.1.1 }
