use Rattle.following.proofs.Laws.FollowRows.{short_done}
use borrow.Author.Rules.{rules}
use native.Mathlib.Omega.{arith}
use Rattle.following.proofs.follow.write_one.Goals as goal

pub returns-then-buffer-width_of : goal.returns-then-buffer-width_of
returns-then-buffer-width_of c =
    rw (c.in-Some.is, c.at.ensures) (short_done c.args.clocks.count c.args.clocks.few c.in-Some.region (search rules) (search rules) _ (omega (arith, c.width_of.ensures)))
