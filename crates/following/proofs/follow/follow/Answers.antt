use Rattle.std.proofs.lemmas.Result.{err_from_is_err_and}
use Rattle.following.proofs.Laws.FollowWays.{same_table, not_admitted, told_by, row_refused, bytes_follow, neither, stands, by_waiting, leaves, by_edge}
use Rattle.tables.proofs.Laws.Tables.{describes_of}
use borrow.Author.Rules.{rules}
use mathlib.Core.Path.{◌≡◌}
use native.Mathlib.Omega.{arith}
use Rattle.following.proofs.follow.follow.Goals as goal

pub returns-in_err-opened : goal.returns-in_err-opened
returns-in_err-opened c =
    let p = err_from_is_err_and c.from_residual.result c.from_residual.ensures.1 in
    rw (p.1, p.2) (not_admitted _ _ c.in_err-opened.ensures c.args.row.now c.args.number c.args.buffer.now)

pub returns-in_err-from : goal.returns-in_err-from
returns-in_err-from c =
    let p = err_from_is_err_and c.from_residual-in_err-from.result c.from_residual-in_err-from.ensures.1 in
    let q = rw c.in_err-from.was at (told_by _ _ _ _ _ c.read_row.ensures c.map_err.ensures.cases) in
    let e : c.in_err-from.field-0.0 ≡ record { fault = q.0; place = 0 } = search rules in
    rw (p.1, p.2, e) (same_table c.in_ok-opened.ensures (row_refused (describes_of c.in_ok-opened.opened) c.args.row.now c.args.number c.args.buffer.now q.0 q.1))

pub returns-then-width_of-row : goal.returns-then-width_of-row
returns-then-width_of-row c =
    let R = rw c.in_ok-from.was at (told_by _ _ _ _ _ c.read_row.ensures c.map_err.ensures.cases) in
    rw c.at.ensures (same_table c.in_ok-opened.ensures (bytes_follow (describes_of c.in_ok-opened.opened) c.args.row.now c.in_ok-from.from R c.args.number c.args.buffer.now (omega (arith, c.width_of.ensures))))

pub follow_wait-requires : goal.follow_wait-requires
follow_wait-requires c =
    let R = rw c.in_ok-from.was at (told_by _ _ _ _ _ c.read_row.ensures c.map_err.ensures.cases) in
    stands (describes_of c.in_ok-opened.opened) c.args.row.now c.in_ok-from.from R

pub returns-then-number-eq65535 : goal.returns-then-number-eq65535
returns-then-number-eq65535 c =
    let R = rw c.in_ok-from.was at (told_by _ _ _ _ _ c.read_row.ensures c.map_err.ensures.cases) in
    same_table c.in_ok-opened.ensures (by_waiting (describes_of c.in_ok-opened.opened) c.args.row.now c.in_ok-from.from R c.args.number c.args.buffer.now (omega (arith, c.width_of.ensures)) _ _ c.if-number-eq65535.true c.follow_wait.ensures)

pub returns-then-opened-number : goal.returns-then-opened-number
returns-then-opened-number c =
    let R = rw c.in_ok-from.was at (told_by _ _ _ _ _ c.read_row.ensures c.map_err.ensures.cases) in
    rw c.at-then-opened-number.ensures (same_table c.in_ok-opened.ensures (neither (describes_of c.in_ok-opened.opened) c.args.row.now c.in_ok-from.from R c.args.number c.args.buffer.now (omega (arith, c.width_of.ensures)) c.if-opened-number.true c.if-number-eq65535.false))

pub follow_edge-requires-clause-stands : goal.follow_edge-requires-clause-stands
follow_edge-requires-clause-stands c =
    let R = rw c.in_ok-from.was at (told_by _ _ _ _ _ c.read_row.ensures c.map_err.ensures.cases) in
    stands (describes_of c.in_ok-opened.opened) c.args.row.now c.in_ok-from.from R

pub follow_edge-requires-clause-leaves : goal.follow_edge-requires-clause-leaves
follow_edge-requires-clause-leaves c =
    leaves (describes_of c.in_ok-opened.opened) c.edge_at.result c.if-opened-number.false c.edge_at.ensures.means c.edge_at.ensures.few

pub returns : goal.returns
returns c =
    let R = rw c.in_ok-from.was at (told_by _ _ _ _ _ c.read_row.ensures c.map_err.ensures.cases) in
    same_table c.in_ok-opened.ensures (by_edge (describes_of c.in_ok-opened.opened) c.args.row.now c.in_ok-from.from R c.args.number c.args.buffer.now (omega (arith, c.width_of.ensures)) c.edge_at.result c.if-opened-number.false c.edge_at.ensures.means _ _ c.follow_edge.ensures)
