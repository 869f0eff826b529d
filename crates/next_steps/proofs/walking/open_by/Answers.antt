use Rattle.next_steps.proofs.Laws.Walking.{open_none, open_one}
use Rattle.next_steps.proofs.walking.open_by.Goals as goal

pub returns-then-rows-open : goal.returns-then-rows-open
returns-then-rows-open c =
    open_none c.args.edge.now c.rows_in-rows.result.start c.rows_in-rows.result.end c.rows_in-rows.ensures _ c.some_open-open.ensures c.if-rows-open.true

pub returns : goal.returns
returns c =
    open_one c.args.edge.now c.rows_in-rows.result.start c.rows_in-rows.result.end c.rows_in-rows.ensures _ c.some_open-open.ensures c.if-rows-open.false c.row.result c.row.ensures
