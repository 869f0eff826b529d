use Rattle.tables.proofs.Laws.Tables.{is_accepted_by}
use Rattle.std.proofs.lemmas.Result.{err_from_is_err_and}
use Rattle.table_records.proofs.Laws.Scan.{refusal}
use Rattle.tables.proofs.Laws.Opening.{begun, not_begun, no_locations, edges_refused, edges_stand, bytes_follow, bounds_refused, describes}
use mathlib.Core.Path.{sym}
use native.Mathlib.Omega.{arith}
use Rattle.tables.proofs.admission.open.Goals as goal

pub returns-in_err-head : goal.returns-in_err-head
returns-in_err-head c =
    let p = err_from_is_err_and c.from_residual.result c.from_residual.ensures.1 in
    rw (p.1, p.2) (not_begun c.args.file.now c.in_err-head.ensures)

pub locations-requires : goal.locations-requires
locations-requires c =
    (begun c.args.file.now _ c.in_ok-head.ensures).fits

pub returns-in_err-first : goal.returns-in_err-first
returns-in_err-first c =
    let p = err_from_is_err_and c.from_residual-in_err-first.result c.from_residual-in_err-first.ensures.1 in
    rw (p.1, p.2) (no_locations c.args.file.now _ (begun c.args.file.now _ c.in_ok-head.ensures) c.in_err-first.ensures)

pub edges-requires-clause-edges_bound : goal.edges-requires-clause-edges_bound
edges-requires-clause-edges_bound c =
    (begun c.args.file.now _ c.in_ok-head.ensures).few_edges

pub returns-in_err-end : goal.returns-in_err-end
returns-in_err-end c =
    let p = err_from_is_err_and c.from_residual-in_err-end.result c.from_residual-in_err-end.ensures.1 in
    rw (p.1, p.2) (edges_refused c.args.file.now _ (begun c.args.file.now _ c.in_ok-head.ensures) _ c.in_ok-first.ensures c.in_err-end.ensures)

pub overflow_add-head-then-end-file-2 : goal.overflow_add-head-then-end-file-2
overflow_add-head-then-end-file-2 c =
    let b = begun c.args.file.now _ c.in_ok-head.ensures in
    omega (arith, b.few_locations, b.few_edges)

pub returns-then-end-file : goal.returns-then-end-file
returns-then-end-file c =
    refusal c.at.ensures (bytes_follow c.args.file.now _ (begun c.args.file.now _ c.in_ok-head.ensures) _ c.in_ok-first.ensures _ c.in_ok-end.ensures (omega arith))

pub edges_bounded-requires-clause-edges_bound : goal.edges_bounded-requires-clause-edges_bound
edges_bounded-requires-clause-edges_bound c =
    (begun c.args.file.now _ c.in_ok-head.ensures).few_edges

pub edges_bounded-requires-clause-all_stand : goal.edges_bounded-requires-clause-all_stand
edges_bounded-requires-clause-all_stand c =
    let b = begun c.args.file.now _ c.in_ok-head.ensures in
    rw b.sized at (edges_stand c.args.file.now _ b _ c.in_ok-first.ensures _ c.in_ok-end.ensures)

pub returns-in_err-edges_bounded : goal.returns-in_err-edges_bounded
returns-in_err-edges_bounded c =
    let p = err_from_is_err_and c.from_residual-in_err-edges_bounded.result c.from_residual-in_err-edges_bounded.ensures.1 in
    let b = begun c.args.file.now _ c.in_ok-head.ensures in
    rw (p.1, p.2) (bounds_refused c.args.file.now _ b _ c.in_ok-first.ensures _ c.in_ok-end.ensures (omega arith) (rw (sym b.sized) at c.in_err-edges_bounded.ensures))

pub invariant_of-result : goal.invariant_of-result
invariant_of-result c =
    let b = begun c.args.file.now _ c.in_ok-head.ensures in
    let D = describes c.args.file.now _ b _ c.in_ok-first.ensures _ c.in_ok-end.ensures (omega arith) (rw (sym b.sized) at c.in_ok-edges_bounded.ensures) in
    record { admitted = is_accepted_by c.args.file.now D.passes; bounds = D.bounds; count = D.count; locations = D.locations; initial = D.initial; edges = D.edges }
