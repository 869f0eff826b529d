use Rattle.listed_rows.specs.EdgesInLists.{edge_in}
use Rattle.regions.specs.Values.{row_of}
use Rattle.skylines.proofs.Laws.NoNext.{edge_blocked}
use mathlib.Core.Path.{sym, ◌∙◌}
use Rattle.open_rows.proofs.imaging.leads_to_one.Goals as goal

pub returns-then-not-guards_hold : goal.returns-then-not-guards_hold
returns-then-not-guards_hold c =
    edge_blocked _ (edge_in c.args.edge.now) (row_of c.args.edge.now.list.clocks.count c.args.from) _ (sym c.guards_hold.ensures ∙ c.if-not-guards_hold.true)
