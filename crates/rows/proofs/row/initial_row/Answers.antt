use Rattle.rows.proofs.Laws.RowRecords.{initial_is}
use Rattle.rows.proofs.row.initial_row.Goals as goal

pub returns : goal.returns
returns c =
    λ file head D e. rw e (initial_is file head D)
