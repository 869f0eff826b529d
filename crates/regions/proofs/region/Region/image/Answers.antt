use Rattle.regions.proofs.Laws.Moved.{ranks_few, image_missing, image_found}
use borrow.Author.Rules.{rules}
use mathlib.Core.Path.{sym, ◌∙◌}
use Rattle.regions.proofs.region.Region.image.Goals as goal

pub returns-in_err-landed : goal.returns-in_err-landed
returns-in_err-landed c =
    let none = image_missing c.args.clocks c.args.self c.args.e c.args.clocks.few (search rules) (search rules) c.requires.row c.requires.bounded c.requires.e_value c.requires.location_value c.requires.e_value_2 (sym (c.in_err-landed.was) ∙ c.moved.ensures) in
    search rules

pub returns : goal.returns
returns c =
    image_found c.args.clocks c.args.self c.args.e c.args.clocks.few (search rules) (search rules) c.requires.row c.requires.bounded c.requires.e_value c.requires.location_value c.requires.e_value_2 _ (sym c.in_ok-landed.was ∙ c.moved.ensures) _ c.dense_ranks-ranks.ensures

pub dense_ranks-ranks-requires-clause-by_index : goal.dense_ranks-ranks-requires-clause-by_index
dense_ranks-ranks-requires-clause-by_index c =
    ranks_few c.args.clocks c.args.self c.args.e c.args.clocks.few (search rules) (search rules) c.requires.row _ (sym c.in_ok-landed.was ∙ c.moved.ensures)
