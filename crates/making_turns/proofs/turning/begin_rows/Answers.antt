use Rattle.tables.proofs.Laws.Tables.{opened}
use Prim.Native.Nat.{ℕ, ◌+◌, ◌≤◌, ◌<◌}
use Rattle.calls.proofs.Laws.Making.{make_refused}
use Rattle.calls.proofs.Laws.Rows.{row_width_is}
use Rattle.making_turns.proofs.Laws.Beginning.{begins_short, begins_headless, begins_final, begins_full, initial_in, initial_is, first_region, first_is_row, none_listed, begins}
use Rattle.std.proofs.lemmas.Result.{err_from_is_err_and}
use lib.ListN.{length}
use mathlib.Core.Path.{refl, subst}
use native.Mathlib.Omega.{arith}
use Rattle.making_turns.proofs.turning.begin_rows.Goals as goal

pub returns-in_err-opened : goal.returns-in_err-opened
returns-in_err-opened c =
    let p = err_from_is_err_and c.from_residual.result c.from_residual.ensures.1 in
    λ ws sized. rw (p.1, p.2) (make_refused c.args.table.now _ _ c.in_err-opened.ensures, refl)

pub returns-then-records-lt4096 : goal.returns-then-records-lt4096
returns-then-records-lt4096 c =
    λ ws sized. (rw c.at.ensures (begins_short (opened c.in_ok-opened.opened c.in_ok-opened.ensures) _ _ c.if-records-lt4096.true), refl)

pub returns-then-out-lt4 : goal.returns-then-out-lt4
returns-then-out-lt4 c =
    λ ws sized. (rw c.at-then-out-lt4.ensures (begins_headless (opened c.in_ok-opened.opened c.in_ok-opened.ensures) _ _ c.if-out-lt4.true), refl)

pub is_final-requires : goal.is_final-requires
is_final-requires c =
    record { location_lt_locations = initial_in c.args.table.now c.in_ok-opened.opened.head (opened c.in_ok-opened.opened c.in_ok-opened.ensures) c.args.out.now }

pub returns-then-is_final : goal.returns-then-is_final
returns-then-is_final c =
    let o = initial_is c.args.table.now c.in_ok-opened.opened.head (opened c.in_ok-opened.opened c.in_ok-opened.ensures) c.args.out.now _ _ (rw c.in_ok-opened.ensures at c.is_final.ensures) c.if-is_final.true in
    λ ws sized. (rw c.at-then-is_final.ensures (begins_final (opened c.in_ok-opened.opened c.in_ok-opened.ensures) _ _ c.if-out-lt4.false c.if-records-lt4096.false o), refl)

pub overflow_add-row_width : goal.overflow_add-row_width
overflow_add-row_width c =
    omega (arith, c.row_width.ensures, row_width_is c.in_ok-opened.opened.head.clocks.count, c.in_ok-opened.opened.head.clocks.few)

pub returns-then-out-row_width : goal.returns-then-out-row_width
returns-then-out-row_width c =
    let o = initial_is c.args.table.now c.in_ok-opened.opened.head (opened c.in_ok-opened.opened c.in_ok-opened.ensures) c.args.out.now _ _ (rw c.in_ok-opened.ensures at c.is_final.ensures) c.if-is_final.false in
    let short = subst (λ (t : ℕ). length c.args.out.now < 4 + t) c.row_width.ensures c.if-out-row_width.true in
    λ ws sized. (rw c.at-then-out-row_width.ensures (begins_full (opened c.in_ok-opened.opened c.in_ok-opened.ensures) _ _ o short), refl)

pub insert-requires-clause-listed : goal.insert-requires-clause-listed
insert-requires-clause-listed c =
    let room = subst (λ (t : ℕ). 4 + t ≤ length c.args.out.now) c.row_width.ensures c.if-out-row_width.false in
    none_listed c.args.table.now c.in_ok-opened.opened.head (opened c.in_ok-opened.opened c.in_ok-opened.ensures) c.args.out.now (omega (arith, room))

pub insert-requires-clause-row : goal.insert-requires-clause-row
insert-requires-clause-row c =
    let D = (opened c.in_ok-opened.opened c.in_ok-opened.ensures) in
    let e = c.initial_row-first.ensures c.args.table.now c.in_ok-opened.opened.head D refl in
    let o = initial_is c.args.table.now c.in_ok-opened.opened.head D c.args.out.now _ _ (rw c.in_ok-opened.ensures at c.is_final.ensures) c.if-is_final.false in
    first_is_row c.args.table.now c.in_ok-opened.opened.head D c.args.out.now c.initial_row-first.result (first_region c.args.table.now c.in_ok-opened.opened.head D c.args.out.now c.initial_row-first.result e) o

pub returns : goal.returns
returns c =
    let D = (opened c.in_ok-opened.opened c.in_ok-opened.ensures) in
    let e = c.initial_row-first.ensures c.args.table.now c.in_ok-opened.opened.head D refl in
    let o = initial_is c.args.table.now c.in_ok-opened.opened.head D c.args.out.now _ _ (rw c.in_ok-opened.ensures at c.is_final.ensures) c.if-is_final.false in
    let room = subst (λ (t : ℕ). 4 + t ≤ length c.args.out.now) c.row_width.ensures c.if-out-row_width.false in
    λ ws sized. rw c.starting.ensures (begins c.args.table.now c.in_ok-opened.opened.head D c.args.out.now room c.initial_row-first.result (first_region c.args.table.now c.in_ok-opened.opened.head D c.args.out.now c.initial_row-first.result e) o _ c.insert.ensures c.args.records c.if-records-lt4096.false ws sized)
