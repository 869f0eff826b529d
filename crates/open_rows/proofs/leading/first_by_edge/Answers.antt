use Rattle.open_rows.proofs.Laws.Leading.{source_after_in, source_here_in, source_before_in}
use native.Mathlib.Omega.{arith}
use Rattle.open_rows.proofs.leading.first_by_edge.Goals as goal

pub returns-then-end-source : goal.returns-then-end-source
returns-then-end-source c =
    source_after_in c.args.edge.now _ _ c.rows_in-source.ensures c.args.end c.requires c.if-end-source.true

pub returns-then-end-source-2 : goal.returns-then-end-source-2
returns-then-end-source-2 c =
    source_here_in c.args.edge.now _ _ c.rows_in-source.ensures c.args.end c.requires (omega (arith, c.if-end-source.false)) c.if-end-source-2.true _ c.first_in_source.ensures

pub returns-then-first-source : goal.returns-then-first-source
returns-then-first-source c =
    (source_before_in c.args.edge.now _ _ c.rows_in-source.ensures c.args.end c.requires (omega (arith, c.if-end-source-2.false)) _ c.first_in_source-first.ensures).0 c.if-first-source.true

pub returns-else-first-source : goal.returns-else-first-source
returns-else-first-source c =
    (source_before_in c.args.edge.now _ _ c.rows_in-source.ensures c.args.end c.requires (omega (arith, c.if-end-source-2.false)) _ c.first_in_source-first.ensures).1 c.if-first-source.false
