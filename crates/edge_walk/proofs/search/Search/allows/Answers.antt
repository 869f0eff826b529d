use Rattle.edge_walk.proofs.Laws.Allowing.{allows_begins, allows_parts, allows_on, allows_free, allows_not, placed_first}
use Prim.Native.Nat.{ℕ, ◌<◌}
use Rattle.regions.specs.Placing.{placed_at}
use mathlib.Core.Bool.{not}
use mathlib.Core.Path.{sym, ap, ◌∙◌}
use native.Mathlib.Omega.{arith}
use Rattle.edge_walk.proofs.search.Search.allows.Goals.{then-is_by_parts, else-is_by_parts}
use Rattle.edge_walk.proofs.search.Search.allows.Goals as goal

pub loop-z-init : goal.loop-z-init
loop-z-init c =
    allows_begins c.args.self.moves.each c.args.self.moves.ranks c.args.self.clocks.count c.args.region.intervals c.args.region.ranks

pub returns-then-not-permits : goal.returns-then-not-permits
returns-then-not-permits c =
    allows_not c.args.self.moves.each c.args.self.moves.ranks c.args.self.clocks.count c.args.region.intervals c.args.region.ranks c.loop-z.z (omega (arith, c.loop-z-test.true, c.from-n.ensures)) (sym c.permits.ensures ∙ c.if-not-permits.true)

pub loop-z-preserved : goal.loop-z-preserved
loop-z-preserved c =
    let l : c.loop-z.z < c.args.self.clocks.count = omega (arith, c.loop-z-test.true, c.from-n.ensures) in
    let q = sym c.permits.ensures ∙ c.if-not-permits.false in
    elim c.if-is_by_parts.branch [
      | then-is_by_parts w ↦ rw w.by_parts-is (allows_parts c.args.self.moves.each c.args.self.moves.ranks c.args.self.clocks.count c.args.region.intervals c.args.region.ranks _ _ c.loop-z.invariant l q)
      | else-is_by_parts w ↦ rw w.by_parts-is (allows_on c.args.self.moves.each c.args.self.moves.ranks c.args.self.clocks.count c.args.region.intervals c.args.region.ranks _ _ c.loop-z.invariant l q (sym c.is_by_parts.ensures ∙ w.if-is_by_parts.false))
    ]

pub returns-then-not-by_parts : goal.returns-then-not-by_parts
returns-then-not-by_parts c =
    ap not c.if-not-by_parts.true ∙ allows_free c.args.self.moves.each c.args.self.moves.ranks c.args.self.clocks.count c.args.region.intervals c.args.region.ranks _ (rw c.if-not-by_parts.true at c.loop-z.invariant) (omega (arith, c.loop-z-test.false, c.from-n.ensures))

pub returns-else-not-by_parts : goal.returns-else-not-by_parts
returns-else-not-by_parts c =
    c.are_placed.ensures ∙ ap (λ (n : ℕ). placed_at c.args.self.moves.each c.args.self.moves.ranks n c.args.region.intervals c.args.region.ranks) c.from-n.ensures ∙ placed_first _ _ _ _ _
