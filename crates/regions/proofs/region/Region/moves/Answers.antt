use Rattle.regions.proofs.Laws.Moves.{bounded_at, moved_more}
use Rattle.regions.proofs.Laws.Values.{length_under, length_first}
use borrow.Author.Rules.{rules}
use lib.ListN.{length}
use lib.ListN.{length-set}
use mathlib.Core.Path.{refl, ◌∙◌}
use mathlib.Core.Path.{◌≡◌}
use native.Mathlib.Omega.{arith}
use Rattle.regions.proofs.region.Region.moves.Goals as goal

pub loop-z-init : goal.loop-z-init
loop-z-init c =
    (omega arith, refl, λ w h. absurd (omega arith))

pub clock_move-requires-clause-bounded_by : goal.clock_move-requires-clause-bounded_by
clock_move-requires-clause-bounded_by c =
    let four : length c.args.e.updates ≡ 4 = search (rules, length_under) in
    bounded_at c.args.clocks c.args.self c.args.e c.args.clocks.few four _ c.loop-z-test.true (search rules) c.requires.bounded

pub loop-z-preserved : goal.loop-z-preserved
loop-z-preserved c =
    let four : length c.args.e.updates ≡ 4 = search (rules, length_under) in
    (omega arith, length-set c.loop-z.each c.loop-z.z c.clock_move.result ∙ c.loop-z.invariant.1, moved_more c.args.clocks c.args.self c.args.e c.args.clocks.few four c.loop-z.z c.loop-z-test.true c.loop-z.each c.clock_move.result c.loop-z.invariant.1 c.loop-z.invariant.2 c.clock_move.ensures)

pub returns : goal.returns
returns c =
    let n = length_first c.args.clocks.count c.args.clocks.bounds c.args.clocks.few (search rules) in
    record { ranks = c.greatest_rank_of.ensures; each = λ z h. c.loop-z.invariant.2 z (omega arith) }
