use Rattle.regions.proofs.Laws.Least.{least_found}
use Rattle.regions.specs.Placing.{rank_fits_at}
use Rattle.std.proofs.lemmas.Iterator.{first_from_Range}
use Rattle.std.specs.Option.{unwrap_or}
use borrow.Author.Rules.{rules}
use borrow.Author.Tests.{tests}
use mathlib.Core.Bool.{true, false}
use mathlib.Core.Path.{◌≡◌, ◌∙◌, ap}
use Rattle.regions.proofs.placing.Moves.next_position.Goals as goal

pub returns : goal.returns
returns c =
    let fits = rank_fits_at c.args.self.each c.args.count c.args.part.intervals c.args.part.ranks c.args.rank in
    c.unwrap_or.ensures ∙ ap (unwrap_or c.find.result) c.max.ensures ∙ least_found fits _ _ _ (first_from_Range _ _ _ _ (λ k. fits k ≡ true) (λ k. fits k ≡ false) c.find.ensures.ran (λ x q k. search (rules, tests)) (λ x q k. search (rules, tests)))
