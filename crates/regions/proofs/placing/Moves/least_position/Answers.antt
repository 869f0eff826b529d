use Rattle.regions.proofs.Laws.Placing.{greedy_more, greedy_bound}
use Rattle.regions.specs.Placing.{rank_fits_at, greedy_at}
use mathlib.Core.Path.{◌≡◌, refl, ◌∙◌}
use native.Mathlib.Omega.{arith}
use Rattle.regions.proofs.placing.Moves.least_position.Goals as goal

pub loop-placed-init : goal.loop-placed-init
unfolding greedy_at
loop-placed-init c =
    (omega arith, refl)

pub overflow_add-position : goal.overflow_add-position
overflow_add-position c =
    omega (arith, greedy_bound (rank_fits_at c.args.self.each c.args.count c.args.part.intervals c.args.part.ranks) c.args.self.ranks c.loop-placed.placed)

pub loop-placed-preserved : goal.loop-placed-preserved
loop-placed-preserved c =
    (omega arith, c.next_position-position.ensures ∙ greedy_more (rank_fits_at c.args.self.each c.args.count c.args.part.intervals c.args.part.ranks) c.args.self.ranks _ _ c.loop-placed.invariant.1)

pub returns : goal.returns
returns c =
    let e : c.loop-placed.placed ≡ c.args.rank = omega arith in rw e at c.loop-placed.invariant.1
