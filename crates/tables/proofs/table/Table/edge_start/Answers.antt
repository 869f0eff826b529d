use Rattle.tables.proofs.Laws.Tables.{describes_of}
use Rattle.table_records.proofs.Laws.Skips.{skip_none, skip_one}
use Rattle.tables.proofs.Laws.Described.{edge_stands}
use mathlib.Core.Path.{◌≡◌}
use native.Mathlib.Omega.{arith}
use Rattle.tables.proofs.table.Table.edge_start.Goals as goal

pub loop-edge-init : goal.loop-edge-init
loop-edge-init c =
    skip_none _ _

pub after_edge-at-requires : goal.after_edge-at-requires
after_edge-at-requires c =
    edge_stands c.args.self.now.file.now _ (describes_of c.args.self.now) c.loop-edge._edge (omega (arith, c.requires.number_lt_edges)) (rw c.first_edge-at.ensures at c.loop-edge.invariant)

pub loop-edge-preserved : goal.loop-edge-preserved
loop-edge-preserved c =
    skip_one _ _ _ c.loop-edge.invariant c.after_edge-at.ensures

pub returns : goal.returns
returns c =
    let e : c.loop-edge._edge ≡ c.args.number = omega arith in
    rw (e, c.first_edge-at.ensures) at c.loop-edge.invariant
