use Rattle.std.proofs.lemmas.Iterator.{first_from_Range}
use Rattle.region_lists.proofs.Laws.ListOrder.{above, all_above, first_below}
use Rattle.std.proofs.Common.{None, Some}
use borrow.Author.Rules.{rules}
use borrow.Author.Tests.{tests}
use mathlib.Core.Bool.{true, false}
use mathlib.Core.Path.{◌≡◌}
use native.Mathlib.Omega.{arith}
use Rattle.region_lists.proofs.list_order.ascending.Goals as goal

pub overflow_add-i : goal.overflow_add-i
overflow_add-i c =
    let (_, inside, _, _) = first_from_Range (record { start = 1; end = c.args.count }) _ _ (Some c.in-Some.i) (λ k. Unit {0}) (λ k. Unit {0}) c.in-Some.ensures.ran (λ x q k. tt) (λ x q k. (search rules, tt)) in omega arith

pub overflow_cast-i : goal.overflow_cast-i
overflow_cast-i c =
    let (_, inside, _, _) = first_from_Range (record { start = 1; end = c.args.count }) _ _ (Some c.in-Some.i) (λ k. Unit {0}) (λ k. Unit {0}) c.in-Some.ensures.ran (λ x q k. tt) (λ x q k. (search rules, tt)) in omega (arith, c.requires.short)

pub returns-in-Some : goal.returns-in-Some
returns-in-Some c =
    let up = above c.args.clocks.count c.args.list.now c.args.count in
    let (from, inside, here, before) = first_from_Range (record { start = 1; end = c.args.count }) _ _ (Some c.in-Some.i) (λ k. up k ≡ false) (λ k. up k ≡ true) c.in-Some.ensures.ran (λ x q k. search (rules, tests)) (λ x q k. search (rules, tests)) in
    rw c.at.ensures (first_below c.args.clocks.count c.args.list.now c.args.count _ from inside here before)

pub returns-in-None : goal.returns-in-None
returns-in-None c =
    let up = above c.args.clocks.count c.args.list.now c.args.count in
    all_above c.args.clocks.count c.args.list.now c.args.count (first_from_Range (record { start = 1; end = c.args.count }) _ _ None (λ k. up k ≡ false) (λ k. up k ≡ true) c.in-None.ensures.ran (λ x q k. search (rules, tests)) (λ x q k. search (rules, tests)))
