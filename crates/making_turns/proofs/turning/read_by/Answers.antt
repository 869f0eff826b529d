use Rattle.tables.proofs.Laws.Tables.{is_accepted_by}
use Rattle.making_turns.proofs.turning.read_by.Goals as goal

pub invariant_of-result : goal.invariant_of-result
invariant_of-result c =
    let (_, _, _, _, S) = c.requires in
    let D = S.describes in
    record { admitted = is_accepted_by c.args.table.now D.passes; bounds = D.bounds; count = D.count; locations = D.locations; initial = D.initial; edges = D.edges }
