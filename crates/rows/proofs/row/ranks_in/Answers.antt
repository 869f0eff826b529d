use Rattle.regions.proofs.Laws.Filling.{four_filled}
use Rattle.rows.proofs.row.ranks_in.Goals as goal

pub returns : goal.returns
returns c =
    four_filled _ _ c.requires.0 _ _ _ _ c.byte_of.ensures c.byte_of-2.ensures c.byte_of-3.ensures c.byte_of-4.ensures
