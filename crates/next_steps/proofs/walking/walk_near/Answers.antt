use Rattle.next_steps.proofs.Laws.Walking.{row_listed, near_listed, walked_further}
use native.Mathlib.Omega.{arith}
use Rattle.next_steps.proofs.walking.walk_near.Goals as goal

pub new_from-requires : goal.new_from-requires
new_from-requires c =
    record { row = row_listed c.args.edge.now _ (near_listed c.args.edge.now _ (omega (arith, c.loop-i-test.true)) _ c.row-from.ensures) }

pub returns-in-Some : goal.returns-in-Some
returns-in-Some c =
    walked_further c.args.edge.now _ _ (near_listed c.args.edge.now _ (omega (arith, c.loop-i-test.true)) _ c.row-from.ensures) c.in-Some.ensures
