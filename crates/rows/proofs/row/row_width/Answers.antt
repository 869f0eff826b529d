use Rattle.calls.proofs.Laws.Rows.{row_width_is}
use mathlib.Core.Path.{sym}
use Rattle.rows.proofs.row.row_width.Goals as goal

pub returns : goal.returns
returns c =
    sym (row_width_is c.args.n)
