use Rattle.listed_rows.specs.RegionLists.{all_rows}
use Rattle.new_rows.proofs.Laws.New.{new_same}
use Rattle.new_rows.proofs.Laws.NextRows.{waited}
use Rattle.regions.specs.Values.{bounds_of, row_of}
use Rattle.new_rows.proofs.waiting.new_by_waiting.Goals as goal

pub returns : goal.returns
returns c =
    let n = c.args.list.now.clocks.count in
    new_same n _ (all_rows c.args.list.now) _ _ (waited (bounds_of c.args.list.now.clocks) n c.args.list.now.sized (row_of n c.args.from) c.requires.row c.wait.result c.wait.ensures) c.unless_listed.ensures
