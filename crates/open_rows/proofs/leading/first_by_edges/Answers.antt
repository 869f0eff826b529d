use Rattle.tables.proofs.Laws.Tables.{describes_of}
use Prim.Native.Nat.{ℕ}
use Rattle.open_rows.proofs.Laws.Leading.{edges_begin, edges_on, edges_all, edge_bounded, edge_rule}
use Rattle.table_files.specs.Admission.{table_of}
use Rattle.table_records.proofs.Laws.Skips.{skip_none, skip_one}
use Rattle.tables.proofs.Laws.Described.{edge_stands, edge_says}
use Rattle.walked_rows.specs.Open.{FirstOpen}
use mathlib.Core.Path.{subst, ◌∙◌}
use native.Mathlib.Omega.{arith}
use Rattle.open_rows.proofs.leading.first_by_edges.Goals as goal

pub loop-init : goal.loop-init
loop-init c =
    (edges_begin (table_of c.args.table.now.file.now) _ _ _ c.args.end, c.first_edge-at.ensures ∙ skip_none _ _)

pub edge_from-requires-clause-stands : goal.edge_from-requires-clause-stands
edge_from-requires-clause-stands c =
    edge_stands c.args.table.now.file.now c.args.table.now.head (describes_of c.args.table.now) c.loop.counter c.loop-test.true c.loop.invariant.1

pub left_by-edge-requires : goal.left_by-edge-requires
left_by-edge-requires c =
    let s = c.edge_from.ensures.means ∙ edge_says c.args.table.now.file.now c.args.table.now.head (describes_of c.args.table.now) c.loop.counter c.loop-test.true c.loop.invariant.1 in record { bounded = edge_bounded c.args.table.now.file.now c.args.table.now.head (describes_of c.args.table.now) c.loop.counter c.loop-test.true c.args.list.now c.requires.clocks c.edge_from.result s }

pub after_edge-at-requires : goal.after_edge-at-requires
after_edge-at-requires c =
    edge_stands c.args.table.now.file.now c.args.table.now.head (describes_of c.args.table.now) c.loop.counter c.loop-test.true c.loop.invariant.1

pub loop-preserved : goal.loop-preserved
loop-preserved c =
    let s = c.edge_from.ensures.means ∙ edge_says c.args.table.now.file.now c.args.table.now.head (describes_of c.args.table.now) c.loop.counter c.loop-test.true c.loop.invariant.1 in
    let rule = edge_rule c.args.table.now.file.now c.args.table.now.head (describes_of c.args.table.now) c.loop.counter c.loop-test.true c.args.list.now c.requires.clocks c.edge_from.result s c.left_by-edge.result c.left_by-edge.ensures.list c.left_by-edge.ensures.e in
    (edges_on (table_of c.args.table.now.file.now) _ _ _ c.args.end c.loop.counter c.loop.first c.loop.invariant.0 _ (subst (λ (P : ℕ → Type 0). FirstOpen P 0 c.loop.first c.first_by_edge-first.result) rule c.first_by_edge-first.ensures), skip_one _ _ _ c.loop.invariant.1 c.after_edge-at.ensures)

pub returns : goal.returns
returns c =
    edges_all (table_of c.args.table.now.file.now) _ _ _ c.args.end c.loop.counter c.loop.first c.loop.invariant.0 (omega (arith, c.args.table.now.edges)) (omega (arith, c.args.table.now.edges))
