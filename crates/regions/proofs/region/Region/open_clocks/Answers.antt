use Rattle.automata.proofs.Laws.Ranks.{open_clocks_le}
use Rattle.automata.specs.Rankings.{open_clocks}
use Rattle.regions.proofs.Laws.RegionTests.{open_more}
use Rattle.regions.specs.Values.{bounds_of, row_of}
use borrow.Author.Rules.{rules}
use mathlib.Core.Bool.{true, false}
use mathlib.Core.Path.{◌≡◌, refl, sym, ◌∙◌}
use native.Mathlib.Omega.{arith}
use Rattle.regions.proofs.region.Region.open_clocks.Goals as goal
use Rattle.regions.proofs.region.Region.open_clocks.Goals.{then-is_open, else-is_open}

pub loop-z-init : goal.loop-z-init
unfolding open_clocks
loop-z-init c =
    (search rules, refl)

pub overflow_add-total : goal.overflow_add-total
overflow_add-total c =
    omega (arith, open_clocks_le (bounds_of c.args.clocks) (row_of c.args.clocks.count c.args.self).intervals c.loop-z.z, c.args.clocks.few)

pub loop-z-preserved : goal.loop-z-preserved
loop-z-preserved c =
    let more = open_more c.args.clocks c.args.self c.loop-z.z c.loop-z-test.true c.loop-z.total c.if-is_open.total in (
      omega arith,
      elim c.if-is_open.branch [ then-is_open w ↦ more true c.loop-z.invariant.1 (sym w.if-is_open.true ∙ c.is_open.ensures) (omega arith) | else-is_open w ↦ more false c.loop-z.invariant.1 (sym w.if-is_open.false ∙ c.is_open.ensures) (omega arith) ],
    )

pub returns : goal.returns
returns c =
    let e : c.loop-z.z ≡ c.args.clocks.count = omega arith in rw e at c.loop-z.invariant.1
