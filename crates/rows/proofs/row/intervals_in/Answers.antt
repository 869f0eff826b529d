use Rattle.regions.proofs.Laws.Filling.{four_filled}
use mathlib.Core.Path.{◌∙◌}
use Rattle.rows.proofs.row.intervals_in.Goals as goal

pub returns : goal.returns
returns c =
    four_filled _ _ c.requires.0 _ _ _ _ (c.wide.ensures ∙ c.byte_of.ensures) (c.wide-2.ensures ∙ c.byte_of-2.ensures) (c.wide-3.ensures ∙ c.byte_of-3.ensures) (c.wide-4.ensures ∙ c.byte_of-4.ensures)
