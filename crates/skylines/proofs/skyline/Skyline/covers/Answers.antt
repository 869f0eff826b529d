use Rattle.automata.proofs.Laws.Chains.{some_from_any}
use Rattle.skylines.proofs.Laws.Covered.{covered_any}
use Rattle.skylines.specs.Reach.{withinb}
use borrow.Author.Rules.{rules}
use borrow.Author.Tests.{tests}
use Rattle.automata.specs.Checks.{any}
use Rattle.std.specs.Slice.Iter.{iter_rest}
use lib.ListN.{take}
use mathlib.Core.Path.{◌≡◌, ap, ◌∙◌}
use Rattle.skylines.proofs.skyline.Skyline.covers.Goals as goal

pub returns : goal.returns
returns c =
    let here : iter_rest c.iter.result ≡ take c.args.self.now.size c.args.self.now.members = search rules in
    some_from_any (withinb c.args.n c.args.own) _ _ _ c.any.ensures.ran (λ x b q k. search (rules, tests)) ∙ ap (any (withinb c.args.n c.args.own)) here ∙ covered_any c.args.n c.args.self.now.members c.args.own c.args.self.now.size (search rules)
