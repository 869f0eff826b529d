use Prim.Native.Nat.{min}
use Rattle.automata.specs.Edge.{GuardsIn}
use Rattle.automata.specs.Successors.{guardsb}
use Rattle.regions.proofs.Laws.GuardTests.{as_many, guards_on, guards_fail, guards_end, guard_clock}
use Rattle.regions.proofs.Laws.Values.{length_under, length_first}
use Rattle.regions.specs.Values.{bounds_of, guard_of, row_of}
use borrow.Author.Rules.{rules}
use lib.ListN.{length, take}
use mathlib.Core.List.{map}
use mathlib.Core.Path.{◌≡◌, sym, ap, ◌∙◌}
use native.Mathlib.Omega.{arith}
use Rattle.regions.proofs.region.Region.guards_hold.Goals as goal

pub loop-i-init : goal.loop-i-init
loop-i-init c =
    let all : length c.args.e.guards ≡ 8 = search (rules, length_under) in
    (search rules, ap (guardsb (row_of c.args.clocks.count c.args.self)) (sym (as_many c.args.e.guards c.args.e.guard_count all)))

pub guard_holds-requires : goal.guard_holds-requires
guard_holds-requires c =
    let all : length c.args.e.guards ≡ 8 = search (rules, length_under) in
    let in_clocks : GuardsIn (bounds_of c.args.clocks) (map guard_of (take (min c.args.e.guard_count 8) c.args.e.guards)) = rw (as_many c.args.e.guards c.args.e.guard_count all) c.requires.guards_in in
    let h = guard_clock c.args.e.guards (min c.args.e.guard_count 8) (omega arith) c.loop-i.i (bounds_of c.args.clocks) in_clocks (omega arith) in
    record { clock_lt_count = rw (length_first c.args.clocks.count c.args.clocks.bounds (search rules) (search rules)) at h }

pub returns-then-not-guard_holds : goal.returns-then-not-guard_holds
returns-then-not-guard_holds c =
    let all : length c.args.e.guards ≡ 8 = search (rules, length_under) in
    sym (c.loop-i.invariant.1
    ∙ guards_fail c.args.e.guards (min c.args.e.guard_count 8) (omega arith) _ _ (omega arith) (sym c.guard_holds.ensures ∙ c.if-not-guard_holds.true))

pub loop-i-preserved : goal.loop-i-preserved
loop-i-preserved c =
    let all : length c.args.e.guards ≡ 8 = search (rules, length_under) in (
      omega arith,
      c.loop-i.invariant.1
          ∙ guards_on c.args.e.guards (min c.args.e.guard_count 8) (omega arith) _ _ (omega arith) (sym c.guard_holds.ensures ∙ c.if-not-guard_holds.false),
    )

pub returns : goal.returns
returns c =
    let all : length c.args.e.guards ≡ 8 = search (rules, length_under) in
    sym (c.loop-i.invariant.1 ∙ guards_end c.args.e.guards (min c.args.e.guard_count 8) (omega arith) _ _ (omega arith))
