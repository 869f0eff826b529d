use Rattle.automata.specs.Clocks.{greatest}
use Rattle.regions.proofs.Laws.WaitTests.{greatest_last}
use Rattle.std.proofs.lemmas.Fn.{fold_over, slice_gives, fronts}
use borrow.Author.Rules.{rules}
use mathlib.Core.Path.{◌≡◌, refl, sym, subst}
use Rattle.regions.proofs.region.Region.greatest_rank_of.Goals as goal

pub returns : goal.returns
returns c =
    subst (λ l. c.fold.result ≡ greatest l) c.iter.ensures.rest
    (fold_over fronts (λ y. y.now) _ (λ ys g. g ≡ greatest ys) _ (λ ys a x b f' j k. let more = greatest_last ys x.now in search rules)
    _ _ _ _ (slice_gives c.iter.result) refl c.fold.ensures.ran)
