use Rattle.following.proofs.Laws.FollowRows.{no_image}
use borrow.Author.Rules.{rules}
use lib.ListN.{length}
use mathlib.Core.Path.{◌≡◌, sym, ◌∙◌}
use Rattle.following.proofs.follow.image_by.Goals as goal

pub returns-then-not-is_enabled : goal.returns-then-not-is_enabled
returns-then-not-is_enabled c =
    let four : length c.args.clocks.bounds ≡ 4 = search rules in
    no_image c.args.clocks four c.args.from c.requires.stands c.args.e c.requires.leaves (sym c.is_enabled.ensures ∙ c.if-not-is_enabled.true)
