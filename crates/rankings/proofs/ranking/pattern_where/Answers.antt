use Rattle.rankings.proofs.Laws.Ranking.{weight_few, sum_low, pattern_more}
use Rattle.rankings.specs.Ranking.{pattern}
use Prim.Native.Nat.{◌+◌}
use mathlib.Core.Path.{◌≡◌, refl}
use native.Mathlib.Omega.{arith}
use Rattle.rankings.proofs.ranking.pattern_where.Goals as goal

pub loop-z-init : goal.loop-z-init
unfolding pattern
loop-z-init g c = (omega arith, λ test h. refl)

pub overflow_add-sum : goal.overflow_add-sum
overflow_add-sum g c = omega (arith, sum_low _ _ _ _ c.loop-z.invariant.0 c.weight_if-sum.ensures, weight_few (c.loop-z.z + 1) (omega (arith, c.requires.n_bound)))

pub loop-z-preserved : goal.loop-z-preserved
loop-z-preserved g c =
    (sum_low _ _ _ _ c.loop-z.invariant.0 c.weight_if-sum.ensures, λ test h. pattern_more test _ _ _ _ (c.loop-z.invariant.1 test h) (h _ _ c.loop-z-test.true c.passes.ensures) c.weight_if-sum.ensures)

pub returns : goal.returns
returns g c = λ test h. let e : c.loop-z.z ≡ c.args.n = omega arith in rw e at (c.loop-z.invariant.1 test h)
