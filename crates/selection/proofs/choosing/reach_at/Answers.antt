use Rattle.automata.specs.Row.{Row}
use Rattle.automata.specs.Successors.{guardsb}
use Rattle.listed_rows.proofs.Laws.Listed.{listed_again}
use Rattle.regions.specs.Values.{edge_of}
use mathlib.Core.Path.{sym, ap, ◌∙◌}
use Rattle.selection.proofs.choosing.reach_at.Goals as goal

pub returns-then-guards_hold : goal.returns-then-guards_hold
returns-then-guards_hold c =
    let again = listed_again c.args.edge.now.clocks.count c.args.edge.now.bytes.now _ _ c.row-row.ensures in
    (ap (λ (r : Row). guardsb r (edge_of c.args.edge.now.clocks.count c.args.edge.now.e).guards) (sym again) ∙ sym c.guards_hold.ensures ∙ c.if-guards_hold.true, rw again at c.reach_of.ensures)

pub returns-else-guards_hold : goal.returns-else-guards_hold
returns-else-guards_hold c =
    let again = listed_again c.args.edge.now.clocks.count c.args.edge.now.bytes.now _ _ c.row-row.ensures in
    ap (λ (r : Row). guardsb r (edge_of c.args.edge.now.clocks.count c.args.edge.now.e).guards) (sym again) ∙ sym c.guards_hold.ensures ∙ c.if-guards_hold.false
