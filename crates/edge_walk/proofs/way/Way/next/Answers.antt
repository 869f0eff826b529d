use Rattle.edge_walk.proofs.Laws.Along.{starts, from_start, from_start_above, all_below, from_floor}
use Rattle.edge_walk.proofs.Laws.Ready.{ready_of}
use borrow.Author.Rules.{rules}
use native.Mathlib.Omega.{arith}
use Rattle.edge_walk.proofs.way.Way.next.Goals as goal
use Rattle.edge_walk.proofs.way.Way.next.Goals.{in-Some+else-self-region+else-region-self, in_default}

pub returns-then-self-region : goal.returns-then-self-region
returns-then-self-region c =
    rw c.in-Some.is (all_below c.args.self (ready_of c.args.self.search) c.in-Some.region c.if-self-region.true)

pub returns-then-region-self : goal.returns-then-region-self
returns-then-region-self c =
    rw c.in-Some.is
    (from_floor c.args.self (ready_of c.args.self.search) c.in-Some.region (record { intervals = search rules; ranks = search rules }) c.if-region-self.true (search rules) _ (rw (c.after.ensures, c.from-n.ensures) at c.meet.ensures))

pub meet-requires-2 : goal.meet-requires-2
meet-requires-2 c = record {
  standing = rw c.start_in.ensures (starts c.args.self (ready_of c.args.self.search));
}

pub returns : goal.returns
returns c =
    let met = rw c.start_in.ensures at c.meet-2.ensures in elim c.match-floor.branch [
      | in-Some+else-self-region+else-region-self w ↦ rw w.in-Some.is (from_start_above c.args.self (ready_of c.args.self.search) w.in-Some.region (omega arith) _ met)
      | in_default w ↦ rw w.in_default.is (from_start c.args.self (ready_of c.args.self.search) _ met)
    ]
