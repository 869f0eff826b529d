use Rattle.making_turns.proofs.Laws.Rooms.{room_fits}
use native.Mathlib.Omega.{arith}
use Rattle.making_turns.proofs.turning.has_room.Goals as goal

pub overflow_mul-result : goal.overflow_mul-result
overflow_mul-result c =
    omega (arith, (room_fits c.args.n c.args.count c.row_width.result c.requires.n_bound c.if-count-lt4096.true c.row_width.ensures).0)

pub overflow_add-result-then-count-lt4096 : goal.overflow_add-result-then-count-lt4096
overflow_add-result-then-count-lt4096 c =
    omega (arith, (room_fits c.args.n c.args.count c.row_width.result c.requires.n_bound c.if-count-lt4096.true c.row_width.ensures).1)
