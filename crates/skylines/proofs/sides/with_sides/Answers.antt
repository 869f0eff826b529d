use Rattle.regions.proofs.Laws.Values.{length_under}
use Rattle.regions.proofs.Laws.Moves.{no_update}
use Rattle.regions.specs.Values.{update_of, edge_of}
use Rattle.skylines.proofs.Laws.SideTests.{none_sided, one_sided, all_sided}
use Rattle.skylines.specs.Sides.{sided, sided_update}
use borrow.Author.Rules.{rules}
use lib.ListN.{length, get_or}
use mathlib.Core.Path.{◌≡◌, ap, ◌∙◌}
use Rattle.skylines.proofs.sides.with_sides.Goals as goal

pub loop-z-init : goal.loop-z-init
loop-z-init c =
    let four : length c.args.e.updates ≡ 4 = search (rules, length_under) in
    none_sided c.args.n c.args.e c.args.k c.requires four

pub loop-z-preserved : goal.loop-z-preserved
loop-z-preserved c =
    let four : length c.args.e.updates ≡ 4 = search (rules, length_under) in
    one_sided c.args.n c.args.e c.args.k c.requires four _ _ c.loop-z.invariant c.loop-z-test.true _ (c.sided_update.ensures ∙ ap (sided_update (update_of (get_or c.args.e.updates c.loop-z.z no_update))) c.is_above.ensures)

pub returns-clause-means : goal.returns-clause-means
unfolding sided
returns-clause-means c =
    let four : length c.args.e.updates ≡ 4 = search (rules, length_under) in
    let w = all_sided c.args.n c.args.e c.args.k c.requires four _ _ c.loop-z.invariant c.loop-z-test.false in
    λ i. record { source = c.args.e.source; target = c.args.e.target; guards = (edge_of c.args.n c.args.e).guards; updates = w i }
