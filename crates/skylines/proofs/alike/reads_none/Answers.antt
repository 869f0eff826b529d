use Rattle.automata.proofs.Laws.Chains.{every_from_all}
use Rattle.regions.proofs.Laws.Values.{length_under}
use Rattle.skylines.proofs.Laws.Alike.{constant_update, reads_all}
use borrow.Author.Rules.{rules}
use borrow.Author.Tests.{tests}
use Rattle.automata.specs.Checks.{every}
use Rattle.std.specs.Slice.Iter.{iter_rest}
use lib.ListN.{length, take}
use mathlib.Core.Path.{◌≡◌, sym, ap, ◌∙◌}
use Rattle.skylines.proofs.alike.reads_none.Goals as goal

pub returns : goal.returns
returns c =
    λ h. let four : length c.args.e.updates ≡ 4 = search (rules, length_under) in
    let here : iter_rest c.iter.result ≡ take c.args.n c.args.e.updates = search rules in
    reads_all c.args.n c.args.e c.requires four (ap (every constant_update) (sym here) ∙ sym (every_from_all constant_update _ _ _ c.all.ensures.ran (λ x b q k. search (rules, tests))) ∙ h)
