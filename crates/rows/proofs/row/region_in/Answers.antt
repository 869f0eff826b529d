use Rattle.calls.proofs.Laws.Rows.{row_width_is}
use borrow.Author.Rules.{rules}
use Rattle.rows.proofs.row.region_in.Goals as goal

pub intervals_in-requires : goal.intervals_in-requires
intervals_in-requires c =
    let w = row_width_is c.args.n in search rules

pub overflow_add-n : goal.overflow_add-n
overflow_add-n c =
    let w = row_width_is c.args.n in search rules

pub ranks_in-requires : goal.ranks_in-requires
ranks_in-requires c =
    let w = row_width_is c.args.n in search rules

pub bounds-bytes-2 : goal.bounds-bytes-2
bounds-bytes-2 c =
    let w = row_width_is c.args.n in search rules

pub returns : goal.returns
returns c =
    rw (c.intervals_in.ensures, c.ranks_in.ensures)
