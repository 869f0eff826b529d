use Rattle.following.proofs.Laws.FollowRows.{narrow_row, waited_is, waited_sized}
use borrow.Author.Rules.{rules}
use Rattle.following.proofs.follow.follow_wait.Goals as goal

pub write_one-requires : goal.write_one-requires
write_one-requires c =
    narrow_row c.args.clocks.count c.wait.result (waited_sized c.args.clocks (search rules) c.args.from c.requires c.wait.result c.wait.ensures)

pub returns : goal.returns
returns c =
    rw (waited_is c.args.clocks (search rules) c.args.from c.requires c.wait.result c.wait.ensures) c.write_one.ensures
