use Rattle.calls.proofs.Laws.Rows.{row_width_is}
use Rattle.following.proofs.Laws.FollowRows.{fit_count}
use native.Mathlib.Omega.{arith}
use Rattle.following.proofs.follow.all_fit.Goals as goal

pub nonzero_div-result : goal.nonzero_div-result
nonzero_div-result c =
    omega (arith, c.width_of.ensures, row_width_is c.args.clocks.count)

pub returns : goal.returns
returns c =
    fit_count c.args.clocks.count c.args.clocks.few c.args.count c.args.room c.width_of.result c.width_of.ensures
