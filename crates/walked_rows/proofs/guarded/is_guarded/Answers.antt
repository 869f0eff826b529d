use Rattle.listed_rows.specs.EdgesInLists.{edge_in}
use Rattle.automata.specs.Row.{Row}
use Rattle.automata.specs.Successors.{guardsb}
use Rattle.listed_rows.proofs.Laws.Listed.{listed_again}
use Rattle.regions.specs.Values.{edge_of}
use mathlib.Core.Path.{ap, ◌∙◌}
use Rattle.walked_rows.proofs.guarded.is_guarded.Goals as goal

pub returns : goal.returns
returns c =
    c.guards_hold.ensures ∙ ap (λ (r : Row). guardsb r (edge_in c.args.edge.now).guards) (listed_again _ _ _ _ c.row.ensures)
