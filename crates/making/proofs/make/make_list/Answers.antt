use Rattle.calls.proofs.Laws.Making.{promises_list, promises_empty, promises_reached}
use Rattle.making.proofs.make.make_list.Goals as goal

-- what is promised of the list follows from what the answer and the buffer are
pub returns-clause-list : goal.returns-clause-list
returns-clause-list c =
    let e = c.make_rows-answer.ensures in
    promises_list _ _ _ _ _ e.answer e.buffer

pub returns-clause-empty : goal.returns-clause-empty
returns-clause-empty c =
    let e = c.make_rows-answer.ensures in
    promises_empty _ _ _ _ _ e.answer e.buffer

pub returns-clause-reached : goal.returns-clause-reached
returns-clause-reached c =
    let e = c.make_rows-answer.ensures in
    promises_reached _ _ _ _ _ e.answer e.buffer
