use Rattle.automata.proofs.Laws.Ranks.{rank_room_few}
use Rattle.automata.specs.Rankings.{rank_room}
use Rattle.regions.proofs.Laws.RegionTests.{room_more}
use Rattle.regions.specs.Values.{bounds_of, row_of}
use mathlib.Core.Bool.{true, false}
use mathlib.Core.Path.{◌≡◌, refl, sym, ◌∙◌}
use native.Mathlib.Omega.{arith}
use Rattle.regions.proofs.region.Region.rank_room.Goals as goal
use Rattle.regions.proofs.region.Region.rank_room.Goals.{then-adds_rank, else-adds_rank}

pub loop-z-init : goal.loop-z-init
unfolding rank_room
loop-z-init c =
    (omega arith, refl)

pub overflow_add-total : goal.overflow_add-total
overflow_add-total c =
    omega (arith, rank_room_few (bounds_of c.args.clocks) (row_of c.args.clocks.count c.args.self).intervals c.args.self.ranks c.args.chosen c.loop-z.z, c.args.clocks.few)

pub loop-z-preserved : goal.loop-z-preserved
loop-z-preserved c =
    let more = room_more c.args.clocks c.args.self c.loop-z.z c.loop-z-test.true c.args.chosen c.loop-z.total c.if-adds_rank.total in (
      omega arith,
      elim c.if-adds_rank.branch [ then-adds_rank w ↦ more true c.loop-z.invariant.1 (sym w.if-adds_rank.true ∙ c.adds_rank.ensures) (omega arith) | else-adds_rank w ↦ more false c.loop-z.invariant.1 (sym w.if-adds_rank.false ∙ c.adds_rank.ensures) (omega arith) ],
    )

pub returns : goal.returns
returns c =
    let e : c.loop-z.z ≡ c.args.clocks.count = omega arith in rw e at c.loop-z.invariant.1
