use Rattle.edge_walk.specs.Walk.{above}
use Rattle.edge_walk.specs.Way.{rows_on}
use Rattle.listed_rows.specs.RegionLists.{all_rows}
use Rattle.new_rows.proofs.Laws.New.{new_same, new_among, above_none}
use Rattle.regions.specs.Values.{found_of}
use mathlib.Core.Path.{sym, ◌∙◌}
use Rattle.new_rows.proofs.walking.new_by_walk.Goals as goal

pub returns-then-is_some-2 : goal.returns-then-is_some-2
returns-then-is_some-2 c =
    let n = c.args.edge.now.list.clocks.count in
    let rows = all_rows c.args.edge.now.list in
    new_same n (rows_on c.in_ok-way.way) rows _ _ (c.in_ok-way.ensures.rows c.requires.location_value c.requires.e_value) (new_among n _ rows (above (found_of n c.args.floor)) _ (sym c.if-is_some-2.ensures) c.first_new-further.ensures)

pub returns : goal.returns
returns c =
    new_same c.args.edge.now.list.clocks.count _ (all_rows c.args.edge.now.list) _ _ (above_none (rows_on c.in_ok-way.way) ∙ (c.in_ok-way.ensures.rows c.requires.location_value c.requires.e_value)) c.first_new.ensures
