use Rattle.listed_rows.proofs.Laws.RegionLists.{listed_of}
use Rattle.listed_rows.specs.RegionLists.{all_rows}
use Rattle.listed_rows.specs.EdgesInLists.{edge_in, led_in}
use Rattle.automata.specs.Checks.{every, has}
use Rattle.automata.specs.Row.{Row}
use Rattle.automata.specs.Successors.{guardsb}
use Rattle.listed_rows.proofs.Laws.Listed.{listed_again}
use Rattle.listed_rows.specs.Listed.{listed_rows}
use Rattle.regions.specs.Values.{bounds_of, edge_of}
use mathlib.Core.Path.{ap, ◌∙◌}
use Rattle.walked_rows.proofs.walking.leads_from.Goals as goal

pub leads_inside-requires-clause-row : goal.leads_inside-requires-clause-row
leads_inside-requires-clause-row c =
    rw (listed_again c.args.edge.now.list.clocks.count c.args.edge.now.list.bytes.now _ _ c.row.ensures) ((listed_of c.args.edge.now.list).are_rows _ c.requires.offered.to)

pub leads_inside-requires-clause-e_value : goal.leads_inside-requires-clause-e_value
leads_inside-requires-clause-e_value c =
    ap (λ (r : Row). guardsb r (edge_in c.args.edge.now).guards) (listed_again _ _ _ _ c.row.ensures) ∙ c.requires.offered.guarded

pub returns : goal.returns
returns c =
    c.leads_inside.ensures ∙ ap (λ (r : Row). every (has (all_rows c.args.edge.now.list)) (led_in c.args.edge.now r)) (listed_again _ _ _ _ c.row.ensures)
