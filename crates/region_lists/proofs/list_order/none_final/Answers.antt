use Rattle.std.proofs.lemmas.Iterator.{first_from_Range}
use Rattle.region_lists.proofs.Laws.ListOrder.{none_are_final, first_is_final}
use Rattle.std.proofs.Common.{None, Some}
use Prim.Native.Nat.{ℕ}
use borrow.Author.Rules.{rules}
use borrow.Author.Tests.{tests}
use mathlib.Core.Bool.{true, false}
use mathlib.Core.Path.{◌≡◌}
use native.Mathlib.Omega.{arith}
use Rattle.region_lists.proofs.list_order.none_final.Goals as goal
use Rattle.automata.specs.Automaton.{final}
use Rattle.listed_rows.specs.Listed.{listed_row}
use Rattle.table_files.specs.Admission.{table_of}

pub overflow_add-i : goal.overflow_add-i
overflow_add-i c =
    let (_, inside, _, _) = first_from_Range (record { start = 0; end = c.args.count }) _ _ (Some c.in-Some.i) (λ k. Unit {0}) (λ k. Unit {0}) c.in-Some.ensures.ran (λ x q k. tt) (λ x q k. (search rules, tt)) in omega arith

pub overflow_cast-i : goal.overflow_cast-i
overflow_cast-i c =
    let (_, inside, _, _) = first_from_Range (record { start = 0; end = c.args.count }) _ _ (Some c.in-Some.i) (λ k. Unit {0}) (λ k. Unit {0}) c.in-Some.ensures.ran (λ x q k. tt) (λ x q k. (search rules, tt)) in omega (arith, c.requires.listed.short)

pub returns-in-Some : goal.returns-in-Some
returns-in-Some c =
    let ends = λ (k : ℕ). final (table_of c.args.table.now.file.now) (listed_row c.args.table.now.head.clocks.count c.args.list.now k).location in
    let (_, inside, here, before) = first_from_Range (record { start = 0; end = c.args.count }) _ _ (Some c.in-Some.i) (λ k. ends k ≡ true) (λ k. ends k ≡ false) c.in-Some.ensures.ran (λ x q k. search (rules, tests)) (λ x q k. search (rules, tests)) in
    rw c.at.ensures (first_is_final c.args.table.now.head.clocks.count c.args.list.now c.args.count _ _ inside here before)

pub returns-in-None : goal.returns-in-None
returns-in-None c =
    let ends = λ (k : ℕ). final (table_of c.args.table.now.file.now) (listed_row c.args.table.now.head.clocks.count c.args.list.now k).location in
    none_are_final c.args.table.now.head.clocks.count c.args.list.now c.args.count _ (first_from_Range (record { start = 0; end = c.args.count }) _ _ None (λ k. ends k ≡ true) (λ k. ends k ≡ false) c.in-None.ensures.ran (λ x q k. search (rules, tests)) (λ x q k. search (rules, tests)))
