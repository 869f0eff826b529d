use Rattle.edge_walk.proofs.Laws.Ready.{ready_of}
use Rattle.edge_walk.proofs.Laws.Along.{starts}
use Rattle.inclusion.proofs.gaps.first_gap.Goals as goal

pub interval_gap-gap-requires-clause-standing : goal.interval_gap-gap-requires-clause-standing
interval_gap-gap-requires-clause-standing c =
    (rw c.start_in.ensures (starts c.in-Some.way (ready_of c.in-Some.way.search)))

pub all_inside-requires-clause-standing : goal.all_inside-requires-clause-standing
all_inside-requires-clause-standing c =
    (rw c.start_in-2.ensures (starts c.in-Some.way (ready_of c.in-Some.way.search)))
