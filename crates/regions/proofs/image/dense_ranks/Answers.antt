use Rattle.regions.proofs.Laws.ImageTests.{counted_dense, dense_next, dense_is}
use mathlib.Core.Path.{refl}
use native.Mathlib.Omega.{arith}
use Rattle.regions.proofs.image.dense_ranks.Goals as goal

pub loop-z-init : goal.loop-z-init
loop-z-init c =
    (omega arith, refl)

pub loop-z-preserved : goal.loop-z-preserved
loop-z-preserved c =
    let low = c.requires.by_index _ c.loop-z-test.true in
    (omega arith, dense_next c.args.ranks c.args.clocks c.loop-z.z _ c.loop-z.dense (omega arith) c.loop-z.invariant.1 (counted_dense c.args.ranks c.args.clocks c.used_ranks.result c.new_ranks-counts.result c.used_ranks.ensures c.new_ranks-counts.ensures _ low))

pub returns : goal.returns
returns c =
    dense_is c.args.ranks c.args.clocks c.loop-z.z c.loop-z.dense (omega arith) c.loop-z.invariant.1
