use Prim.Native.Nat.{ℕ}
use Rattle.listed_rows.proofs.Laws.RegionLists.{listed_of}
use Rattle.walked_rows.proofs.Laws.Sides.{side_leads, sides_on, sides_pass, sides_all}
use Rattle.walked_rows.specs.Open.{FirstOpen}
use mathlib.Core.Path.{sym, subst, ◌∙◌}
use native.Mathlib.Omega.{arith}
use Rattle.open_rows.proofs.leading.first_by_sides.Goals.{then-is_choice, else-is_choice}
use Rattle.open_rows.proofs.leading.first_by_sides.Goals as goal

pub first_by_walks-first-requires : goal.first_by_walks-first-requires
first_by_walks-first-requires c =
    let v = c.loop-k.invariant in
    let l = c.requires.in_source in
    record { in_source = rw (c.by_sides.ensures.list, c.by_sides.ensures.source) (record { from = v.from; within = omega (arith, v.to, l.within); all = λ i h g. l.all i h (omega (arith, v.to)) }) }

pub loop-k-preserved : goal.loop-k-preserved
loop-k-preserved c =
    elim c.if-is_choice.branch [
      | then-is_choice w ↦ rw w.first-is (sides_on _ _ _ _ _ _ _ c.loop-k.k _ c.loop-k.invariant _ (sym c.is_choice.ensures ∙ w.if-is_choice.true) (subst (λ (P : ℕ → Type 0). FirstOpen P c.args.rows.start c.loop-k.first w.first_by_walks-first.result) (side_leads c.args.edge.now w.by_sides.result c.loop-k.k w.by_sides.ensures.list w.by_sides.ensures.means) w.first_by_walks-first.ensures))
      | else-is_choice w ↦ rw w.first-is (sides_pass _ _ _ _ _ _ _ c.loop-k.k _ c.loop-k.invariant (sym c.is_choice.ensures ∙ w.if-is_choice.false))
    ]

pub returns : goal.returns
returns c =
    sides_all _ _ _ _ _ _ _ c.args.edge.now.list.sized c.args.edge.now.list.clocks.few c.args.edge.now.bounded (listed_of c.args.edge.now.list).are_rows c.requires.in_source.within _ _ c.loop-k.invariant (omega arith) (omega arith)
