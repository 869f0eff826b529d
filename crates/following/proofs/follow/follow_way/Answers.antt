use Rattle.edge_walk.proofs.Laws.Ready.{ready_of}
use Rattle.following.proofs.Laws.FollowRows.{way_fits, not_fitted}
use borrow.Author.Rules.{rules}
use borrow.Author.Tests.{leb-true}
use mathlib.Core.Path.{sym, ◌∙◌}
use Rattle.following.proofs.follow.follow_way.Goals as goal

pub returns-then-not-all_fit : goal.returns-then-not-all_fit
returns-then-not-all_fit c =
    rw c.at.ensures (not_fitted _ _ (sym c.if-not-all_fit.true ∙ way_fits c.args.way (ready_of c.args.way.search) (search rules) c.requires.low _ _ _ c.way_count-count.ensures c.all_fit.ensures))

pub write_all-requires-clause-way_in_bounds : goal.write_all-requires-clause-way_in_bounds
write_all-requires-clause-way_in_bounds c =
    leb-true _ _ (sym (way_fits c.args.way (ready_of c.args.way.search) (search rules) c.requires.low _ _ _ c.way_count-count.ensures c.all_fit.ensures) ∙ c.if-not-all_fit.false)
