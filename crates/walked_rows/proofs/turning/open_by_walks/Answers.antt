use Rattle.walked_rows.proofs.Laws.Turning.{none_inside}
use Rattle.walked_rows.proofs.turning.open_by_walks.Goals as goal

pub open_among-requires-clause-taken_inside : goal.open_among-requires-clause-taken_inside
open_among-requires-clause-taken_inside c =
    none_inside _ _ _ _ _ _ _ 4096
