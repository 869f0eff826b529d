use Rattle.automata.specs.Closed.{Mem}
use Rattle.automata.specs.Row.{Row}
use Rattle.following.proofs.Laws.FollowRows.{narrow_row, led_sized}
use borrow.Author.Rules.{rules}
use lib.ListN.{length}
use mathlib.Core.List.{List}
use mathlib.Core.Path.{◌≡◌, sym, subst}
use Rattle.following.proofs.follow.follow_edge.Goals as goal

pub write_one-requires : goal.write_one-requires
write_one-requires c =
    let four : length c.args.clocks.bounds ≡ 4 = search rules in
    narrow_row c.args.clocks.count c.image_by.result (λ r m. led_sized c.args.clocks four c.args.from c.requires.stands c.args.e c.requires.leaves r (subst (λ (rows : List Row). Mem r rows) (sym c.image_by.ensures) m))
