use Prim.Native.Nat.{ℕ}
use Rattle.automata.specs.Edge.{Edge}
use Rattle.automata.specs.Successors.{edge_rows}
use Rattle.listed_rows.proofs.Laws.RegionLists.{listed_of}
use Rattle.listed_rows.specs.EdgesInLists.{bounds_in, edge_in, InSource}
use Rattle.listed_rows.specs.Located.{Stretch}
use Rattle.listed_rows.specs.declared.region_list.RegionList.{RegionList}
use Rattle.walked_rows.proofs.Laws.Open.{first_some, some_none}
use Rattle.walked_rows.proofs.Laws.Sides.{side_leads, sides_begin, sides_on, sides_pass, sides_all, side_taken, side_found}
use Rattle.walked_rows.specs.Leading.{TakenInside}
use Rattle.walked_rows.specs.Open.{Inside, SomeOpen}
use mathlib.Core.Path.{sym, subst, ◌∙◌}
use native.Mathlib.Omega.{arith}
use Rattle.walked_rows.proofs.sides.open_by_sides.Goals.{then-is_choice+else-open-rows, else-is_choice}
use Rattle.walked_rows.proofs.sides.open_by_sides.Goals as goal

pub loop-k-init : goal.loop-k-init
loop-k-init c =
    sides_begin _ _ _ _ _ _ _ c.requires.in_source.from

pub open_among-open-requires-clause-in_source : goal.open_among-open-requires-clause-in_source
open_among-open-requires-clause-in_source c =
    rw (c.by_sides.ensures.list, c.by_sides.ensures.source) c.requires.in_source

pub open_among-open-requires-clause-taken_inside : goal.open_among-open-requires-clause-taken_inside
open_among-open-requires-clause-taken_inside c =
    let inside = side_taken _ _ _ _ _ _ _ c.args.edge.now.list.sized c.args.edge.now.list.clocks.few c.args.edge.now.bounded (listed_of c.args.edge.now.list).are_rows c.requires.in_source.within c.loop-k.k (omega (arith, c.loop-k-test.true)) (sym c.is_choice.ensures ∙ c.if-is_choice.true) c.args.old.now c.requires.taken_inside in
    λ i h g t. subst (λ (P : ℕ → Type 0). P i) (sym (side_leads c.args.edge.now c.by_sides.result c.loop-k.k c.by_sides.ensures.list c.by_sides.ensures.means)) (inside i h g (sym (c.take_old.ensures i h g) ∙ t))

pub returns-then-open-rows : goal.returns-then-open-rows
returns-then-open-rows c =
    side_found _ _ _ _ _ _ _ c.args.edge.now.list.sized c.args.edge.now.list.clocks.few c.args.edge.now.bounded (listed_of c.args.edge.now.list).are_rows c.requires.in_source.within c.loop-k.k (omega (arith, c.loop-k-test.true)) (sym c.is_choice.ensures ∙ c.if-is_choice.true) _ (subst (λ (P : ℕ → Type 0). SomeOpen P c.args.rows.start c.args.rows.end c.open_among-open.result) (side_leads c.args.edge.now c.by_sides.result c.loop-k.k c.by_sides.ensures.list c.by_sides.ensures.means) c.open_among-open.ensures) c.if-open-rows.true

pub loop-k-preserved : goal.loop-k-preserved
loop-k-preserved c =
    elim c.if-is_choice.branch [
      | then-is_choice+else-open-rows w ↦ sides_on _ _ _ _ _ _ _ c.loop-k.k c.args.rows.end c.loop-k.invariant c.args.rows.end (sym c.is_choice.ensures ∙ w.if-is_choice.true) (some_none _ _ _ _ (subst (λ (P : ℕ → Type 0). SomeOpen P c.args.rows.start c.args.rows.end w.open_among-open.result) (side_leads c.args.edge.now w.by_sides.result c.loop-k.k w.by_sides.ensures.list w.by_sides.ensures.means) w.open_among-open.ensures) w.if-open-rows.false)
      | else-is_choice w ↦ sides_pass _ _ _ _ _ _ _ c.loop-k.k c.args.rows.end c.loop-k.invariant (sym c.is_choice.ensures ∙ w.if-is_choice.false)
    ]

pub returns : goal.returns
returns c =
    first_some _ _ _ _ (sides_all _ _ _ _ _ _ _ c.args.edge.now.list.sized c.args.edge.now.list.clocks.few c.args.edge.now.bounded (listed_of c.args.edge.now.list).are_rows c.requires.in_source.within _ _ c.loop-k.invariant (omega (arith, c.loop-k-test.false)) (omega arith))
