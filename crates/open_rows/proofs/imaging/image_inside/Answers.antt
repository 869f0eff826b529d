use borrow.Author.Rules.{rules}
use Rattle.automata.specs.Checks.{every, has}
use Rattle.automata.specs.Row.{Row}
use Rattle.automata.specs.Successors.{guardsb}
use Rattle.listed_rows.proofs.Laws.Listed.{listed_again}
use Rattle.listed_rows.proofs.Laws.RegionLists.{listed_of}
use Rattle.listed_rows.specs.EdgesInLists.{bounds_in, edge_in, led_in}
use Rattle.listed_rows.specs.RegionLists.{all_rows}
use Rattle.open_rows.proofs.Laws.Known.{known_covers_in, known_kept}
use Rattle.skylines.proofs.Laws.NoNext.{edge_blocked}
use mathlib.Core.Path.{sym, ap, ◌∙◌}
use Rattle.open_rows.proofs.imaging.image_inside.Goals as goal

pub returns-then-not-guards_hold-clause-listed : goal.returns-then-not-guards_hold-clause-listed
returns-then-not-guards_hold-clause-listed c =
    let k = c.args.edge.now in
    let same = listed_again k.list.clocks.count k.list.bytes.now _ _ c.row-row.ensures in
    edge_blocked (bounds_in k) (edge_in k) _ _ (ap (λ (r : Row). guardsb r (edge_in k).guards) (sym same) ∙ sym c.guards_hold.ensures ∙ c.if-not-guards_hold.true)

pub returns-then-is_within-clause-listed : goal.returns-then-is_within-clause-listed
returns-then-is_within-clause-listed c =
    let k = c.args.edge.now in
    let same = listed_again k.list.clocks.count k.list.bytes.now _ _ c.row-row.ensures in
    known_covers_in k _ _ c.requires.known_2 c.args.i c.requires.i_lt_count c.requires.i_value (ap (λ (r : Row). guardsb r (edge_in k).guards) (sym same) ∙ sym c.guards_hold.ensures ∙ c.if-not-guards_hold.false) _ (rw same at c.reach_of-own.ensures) _ c.slot-k.ensures c.if-known-k.true (sym c.is_within.ensures ∙ c.if-is_within.true)

pub leads_to_one-found-requires-clause-row : goal.leads_to_one-found-requires-clause-row
leads_to_one-found-requires-clause-row c =
    rw (listed_again _ _ _ _ c.row-row.ensures) ((listed_of c.args.edge.now.list).are_rows _ c.requires.i_lt_count)

pub returns-clause-known : goal.returns-clause-known
returns-clause-known c =
    let k = c.args.edge.now in
    let same = listed_again k.list.clocks.count k.list.bytes.now _ _ c.row-row.ensures in
    let q = c.is_ok.ensures.value ∙ c.leads_to_one-found.ensures ∙ ap (λ (r : Row). every (has (all_rows k.list)) (led_in k r)) same in
    known_kept k _ _ c.requires.known_2 c.args.i c.requires.i_lt_count c.requires.i_value (ap (λ (r : Row). guardsb r (edge_in k).guards) (sym same) ∙ sym c.guards_hold.ensures ∙ c.if-not-guards_hold.false) _ (rw same at c.reach_of-own.ensures) _ c.slot-k.ensures (search rules) (search rules) _ q

pub returns-clause-listed : goal.returns-clause-listed
returns-clause-listed c =
    let k = c.args.edge.now in
    c.leads_to_one-found.ensures ∙ ap (λ (r : Row). every (has (all_rows k.list)) (led_in k r)) (listed_again _ _ _ _ c.row-row.ensures)
