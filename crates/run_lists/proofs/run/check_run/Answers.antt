use Rattle.run_lists.proofs.Laws.RunCode.{table_refused, opened_answer, run_promises}
use Rattle.std.proofs.lemmas.Result.{err_from_is_err_and}
use Rattle.table_files.proofs.Laws.Bytes.{are_bytes}
use Prim.Native.Nat.{ℕ}
use Rattle.run_lists.specs.Run.{run_from, counted}
use Rattle.table_files.specs.Admission.{table_of}
use Rattle.tables.proofs.Laws.Tables.{opened}
use mathlib.Core.List.{List}
use mathlib.Core.Path.{sym, ap, ◌∙◌}
use native.Mathlib.Omega.{arith}
use Rattle.run_lists.proofs.run.check_run.Goals as goal

pub returns-in_err-opened : goal.returns-in_err-opened
returns-in_err-opened c =
    let p = err_from_is_err_and c.from_residual.result c.from_residual.ensures.1 in
    let P = run_promises c.args.table.now c.args.list.now _ (table_refused c.args.table.now c.args.list.now c.in_err-opened.ensures) (are_bytes c.args.list.now (λ i l. omega (arith, c.type_inv.list i))) in
    rw (p.1, p.2) (record { answer = P.0; run = P.1.0; reached = P.1.1 })

pub returns : goal.returns
returns c =
    let P = run_promises c.args.table.now c.args.list.now _ (c.check_list.ensures ∙ ap (λ (f : List ℕ). counted (run_from (table_of f) c.args.list.now)) c.in_ok-opened.ensures ∙ sym (opened_answer c.args.table.now c.args.list.now (opened c.in_ok-opened.opened c.in_ok-opened.ensures).passes)) (are_bytes c.args.list.now (λ i l. omega (arith, c.type_inv.list i))) in
    record { answer = P.0; run = P.1.0; reached = P.1.1 }
