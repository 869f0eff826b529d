use Prim.Native.Nat.{◌<◌}
use native.Mathlib.Omega.{arith}
use mathlib.Core.Path.{sym, ◌∙◌}
use Rattle.listed_rows.proofs.Laws.Located.{up_to}
use Rattle.listed_rows.proofs.Laws.RegionLists.{ascends_of}
use Rattle.listed_rows.proofs.region_list.RegionList.rows_end.Goals as goal

pub loop-low-preserved-then-location : goal.loop-low-preserved-then-location
loop-low-preserved-then-location c =
    let (from, _, within, _, next) = c.loop-low.invariant in
    let inside : c.guess-middle.result < c.args.self.now.count = omega (arith, within, c.guess-middle.ensures.1) in (
      omega (arith, from, c.guess-middle.ensures.0),
      omega (arith, c.guess-middle.ensures.1),
      within,
      (λ i h k. up_to _ _ _ _ _ c.requires (ascends_of c.args.self.now) _ inside (sym c.location.ensures ∙ c.if-location.true) i h (omega arith)),
      next,
    )
