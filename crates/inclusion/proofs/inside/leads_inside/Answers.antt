use Rattle.edge_walk.proofs.Laws.Ready.{ready_of}
use Prim.Native.Nat.{ℕ, ◌-◌}
use Rattle.automata.specs.Checks.{every, has}
use Rattle.edge_walk.proofs.Laws.Along.{starts}
use Rattle.edge_walk.proofs.Laws.Visit.{visited}
use Rattle.edge_walk.specs.Choice.{allowsb}
use Rattle.inclusion.proofs.Laws.Counted.{all_counted_on}
use Rattle.inclusion.specs.Counted.{passing}
use Rattle.listed_rows.specs.Listed.{listed_row}
use Rattle.listed_rows.specs.RegionLists.{all_rows}
use Rattle.listed_rows.proofs.Laws.RegionLists.{listed_of, ascends_of}
use Rattle.listed_rows.specs.Located.{RowsIn}
use borrow.Author.Tests.{eq-eqb, ne_eqb}
use mathlib.Core.Path.{sym, ap, subst, ◌∙◌}
use Rattle.inclusion.proofs.inside.leads_inside.Goals as goal

pub returns-then-met-way_count : goal.returns-then-met-way_count
returns-then-met-way_count c =
    let r = subst (λ (l : ℕ). RowsIn c.args.edge.now.list.clocks.count c.args.edge.now.list.bytes.now c.args.edge.now.list.count l c.args.edge.now.into.start c.args.edge.now.into.end) (sym c.in-Some.ensures.target) c.args.edge.now.rows_in in sym (eq-eqb _ _ c.if-met-way_count.true) ∙ all_counted_on c.args.edge.now.list.clocks c.args.edge.now.list.bytes.now c.args.edge.now.list.count (listed_of c.args.edge.now.list) (ascends_of c.args.edge.now.list) c.in-Some.way c.in-Some.ensures.clocks c.args.edge.now.into.start c.args.edge.now.into.end r.starts r.together _ _ (c.allowed_rows-met.ensures ∙ (λ i. passing (allowsb c.in-Some.way.search) (listed_row (c.in-Some.ensures.clocks i).count c.args.edge.now.list.bytes.now) c.args.edge.now.into.start (c.args.edge.now.into.end - c.args.edge.now.into.start))) c.way_count.ensures ∙ ap (every (has (all_rows c.args.edge.now.list))) (c.in-Some.ensures.rows c.requires.location_value c.requires.e_value)

pub returns-else-met-way_count : goal.returns-else-met-way_count
returns-else-met-way_count c =
    let r = subst (λ (l : ℕ). RowsIn c.args.edge.now.list.clocks.count c.args.edge.now.list.bytes.now c.args.edge.now.list.count l c.args.edge.now.into.start c.args.edge.now.into.end) (sym c.in-Some.ensures.target) c.args.edge.now.rows_in in sym (ne_eqb _ _ c.if-met-way_count.false) ∙ all_counted_on c.args.edge.now.list.clocks c.args.edge.now.list.bytes.now c.args.edge.now.list.count (listed_of c.args.edge.now.list) (ascends_of c.args.edge.now.list) c.in-Some.way c.in-Some.ensures.clocks c.args.edge.now.into.start c.args.edge.now.into.end r.starts r.together _ _ (c.allowed_rows-met.ensures ∙ (λ i. passing (allowsb c.in-Some.way.search) (listed_row (c.in-Some.ensures.clocks i).count c.args.edge.now.list.bytes.now) c.args.edge.now.into.start (c.args.edge.now.into.end - c.args.edge.now.into.start))) c.way_count.ensures ∙ ap (every (has (all_rows c.args.edge.now.list))) (c.in-Some.ensures.rows c.requires.location_value c.requires.e_value)

pub all_inside-requires-clause-standing : goal.all_inside-requires-clause-standing
all_inside-requires-clause-standing c =
    rw c.start_in.ensures (starts c.in-Some.way (ready_of c.in-Some.way.search))

pub returns : goal.returns
returns c =
    visited c.in-Some.way (ready_of c.in-Some.way.search) (has (all_rows c.args.edge.now.list)) _ (rw c.start_in.ensures at c.all_inside.ensures) ∙ ap (every (has (all_rows c.args.edge.now.list))) (c.in-Some.ensures.rows c.requires.location_value c.requires.e_value)
