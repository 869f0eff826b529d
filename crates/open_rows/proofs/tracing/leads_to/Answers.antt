use Rattle.automata.specs.Closed.{Mem}
use Rattle.automata.specs.Row.{Row}
use Rattle.listed_rows.proofs.Laws.Listed.{listed_again}
use Rattle.listed_rows.proofs.Laws.RegionLists.{listed_of}
use Rattle.listed_rows.specs.EdgesInLists.{led_in}
use Rattle.open_rows.proofs.Laws.Tracing.{leads_on}
use Rattle.regions.specs.Values.{row_of}
use borrow.Author.Rules.{rules}
use mathlib.Core.List.{List}
use mathlib.Core.Path.{sym, ap, subst, ◌∙◌}
use Rattle.open_rows.proofs.tracing.leads_to.Goals as goal

pub open_way-requires-clause-row : goal.open_way-requires-clause-row
open_way-requires-clause-row c =
    rw (listed_again _ _ _ _ c.row-row.ensures) ((listed_of c.args.edge.now.list).are_rows _ c.requires.i_lt_count)

pub returns-in-Some : goal.returns-in-Some
returns-in-Some c =
    let k = c.args.edge.now.list.clocks in
    let same = listed_again k.count c.args.edge.now.list.bytes.now _ _ c.row-row.ensures in
    let rows = rw c.in-Some.is at (c.open_way.ensures.rows (ap (λ (r : Row). r.location) same ∙ c.requires.i_value) (sym c.guards_hold.ensures ∙ search rules)) in
    let clocks = rw c.in-Some.is at c.open_way.ensures.clocks in
    let target = rw c.in-Some.is at c.open_way.ensures.target in
    λ t. subst (λ (r : Row). Mem (row_of k.count c.args.region) (led_in c.args.edge.now r)) same (subst (λ (rs : List Row). Mem (row_of k.count c.args.region) rs) rows (leads_on c.in-Some.way k clocks c.args.region c.requires.lacked.is_row (c.requires.lacked.located ∙ sym target) (sym c.allows.ensures ∙ t)))
