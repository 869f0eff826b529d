use Rattle.table_files.specs.TableFile.{edge_record}
use Rattle.table_records.proofs.Laws.Scan.{all_left, none_left, one_refused, one_read}
use Rattle.std.proofs.lemmas.Result.{err_from_is_err_and}
use native.Mathlib.Omega.{arith}
use Rattle.table_records.proofs.edge.edges.Goals as goal

pub loop-place-init : goal.loop-place-init
loop-place-init c =
    all_left (edge_record _ _) _ _ _ _ _ (omega arith) (omega arith)

pub returns-in_err-here : goal.returns-in_err-here
returns-in_err-here c =
    let p = err_from_is_err_and c.from_residual.result c.from_residual.ensures.1 in
    rw (p.1, p.2) (one_refused (edge_record _ _) _ _ _ _ c.loop-place.invariant (omega arith) _ c.in_err-here.ensures)

pub loop-place-preserved : goal.loop-place-preserved
loop-place-preserved c =
    one_read (edge_record _ _) _ _ _ _ c.loop-place.invariant (omega arith) _ c.in_ok-here.ensures

pub returns : goal.returns
returns c =
    none_left (edge_record _ _) _ _ _ _ c.loop-place.invariant (omega arith)
