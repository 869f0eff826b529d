use Prim.Native.Nat.{◌<◌}
use Rattle.listed_rows.proofs.Laws.Listed.{listed_rise, searched_up, searched_down, searched_all, met_splits, found_here, found_nowhere}
use Rattle.listed_rows.proofs.Laws.ListedNumbers.{listed_same}
use Rattle.listed_rows.proofs.Laws.RegionLists.{ascends_of}
use Rattle.regions.specs.Values.{row_of}
use borrow.Author.Rules.{rules}
use borrow.Author.Tests.{eq-eqb, ne_eqb}
use mathlib.Core.Path.{sym, ◌∙◌}
use native.Mathlib.Omega.{arith}
use Rattle.listed_rows.proofs.region_list.RegionList.look_up.Goals as goal

pub returns-then-same-n : goal.returns-then-same-n
returns-then-same-n c =
    let w = row_of c.args.self.now.clocks.count c.args.wanted in
    let inside : c.guess-middle.result < c.args.self.now.count = omega (arith, c.loop-low.invariant.0.within) in
    let met = sym (listed_same c.args.self.now.clocks.count c.args.self.now.bytes.now c.guess-middle.result c.args.wanted c.args.self.now.clocks.few (search rules, search rules)) ∙ eq-eqb _ _ (sym c.shared_with-same.ensures ∙ c.if-same-n.true) in
    record { listed = found_here c.args.self.now.clocks.count c.args.self.now.bytes.now c.args.self.now.count w c.guess-middle.result inside met; splits = met_splits _ _ w (listed_rise c.args.self.now.clocks.count c.args.self.now.bytes.now c.args.self.now.count (ascends_of c.args.self.now)) c.guess-middle.result inside met }

pub loop-low-preserved-then-comes_below : goal.loop-low-preserved-then-comes_below
loop-low-preserved-then-comes_below c =
    (searched_up _ _ _ _ _ c.loop-low.invariant.0 (listed_rise c.args.self.now.clocks.count c.args.self.now.bytes.now c.args.self.now.count (ascends_of c.args.self.now)) _ c.guess-middle.ensures.0 c.guess-middle.ensures.1 (sym c.comes_below.ensures ∙ c.if-comes_below.true), c.loop-low.invariant.1)

pub loop-low-preserved : goal.loop-low-preserved
loop-low-preserved c =
    (searched_down _ _ _ _ _ c.loop-low.invariant.0 (listed_rise c.args.self.now.clocks.count c.args.self.now.bytes.now c.args.self.now.count (ascends_of c.args.self.now)) _ c.guess-middle.ensures.0 c.guess-middle.ensures.1 (sym c.comes_below.ensures ∙ c.if-comes_below.false), λ h. sym (listed_same c.args.self.now.clocks.count c.args.self.now.bytes.now c.guess-middle.result c.args.wanted c.args.self.now.clocks.few (search rules, search rules)) ∙ ne_eqb _ _ (λ q. c.if-same-n.false (c.shared_with-same.ensures ∙ q)))

pub returns : goal.returns
returns c = record {
  listed = found_nowhere c.args.self.now.clocks.count c.args.self.now.bytes.now c.args.self.now.count (row_of c.args.self.now.clocks.count c.args.wanted) _ _ c.loop-low.invariant.0 (ascends_of c.args.self.now) (omega (arith, c.loop-low-test.false)) c.loop-low.invariant.1;
  splits = searched_all _ _ _ _ _ c.loop-low.invariant.0 c.loop-low-test.false;
}
