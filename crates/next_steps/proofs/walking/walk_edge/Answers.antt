use Rattle.next_steps.proofs.Laws.Walking.{row_listed}
use Rattle.next_steps.proofs.walking.walk_edge.Goals as goal

pub new_from-requires : goal.new_from-requires
new_from-requires c =
    record { row = row_listed c.args.edge.now _ (c.requires.mem c.in-Some.from c.in-Some.is) }

pub new_from-requires-2 : goal.new_from-requires-2
new_from-requires-2 c =
    record { row = row_listed c.args.edge.now _ c.in_ok-from.ensures.0 }
