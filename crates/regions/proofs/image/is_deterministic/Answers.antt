use Rattle.automata.proofs.Laws.Chains.{allb_from_all, allb_same}
use Rattle.regions.proofs.Laws.ImageTests.{settled_here}
use Rattle.regions.proofs.Laws.Moves.{no_update}
use Rattle.regions.proofs.Laws.Values.{length_under}
use Rattle.regions.specs.Image.{deterministic, settledb, settled_at}
use Rattle.regions.specs.Values.{edge_of, update_of}
use borrow.Author.Rules.{rules}
use borrow.Author.Tests.{tests}
use lib.ListN.{length, get_or}
use mathlib.Core.Path.{◌≡◌, ◌∙◌}
use Rattle.regions.proofs.image.is_deterministic.Goals as goal

pub returns : goal.returns
unfolding deterministic
returns c =
    let four : length c.args.e.updates ≡ 4 = search (rules, length_under) in
    allb_from_all (λ z. settledb (update_of (get_or c.args.e.updates z no_update))) _ _ _ c.all.ensures.ran (λ x b q k. search (rules, tests))
    ∙ allb_same _ _ _ (settled_here c.args.n c.args.e c.requires four)
