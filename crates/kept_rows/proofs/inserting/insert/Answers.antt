use Rattle.kept_rows.proofs.Laws.Inserting.{insert_room, byte_intervals, inserted_by}
use Rattle.regions.specs.Values.{row_of}
use lib.ListN.{length}
use mathlib.Core.Path.{refl, ◌∙◌}
use Rattle.kept_rows.proofs.inserting.insert.Goals as goal

pub write_row-requires-clause-by_index : goal.write_row-requires-clause-by_index
write_row-requires-clause-by_index c =
    byte_intervals c.args.clocks c.args.region c.requires.listed.sized c.requires.listed.low c.requires.row

pub returns : goal.returns
returns c =
    let r = insert_room c.args.clocks.count c.args.count c.args.at (length c.args.out.now) _ c.row_width-size.ensures c.requires.at_le_count.0 c.requires.count_in_bounds in
    inserted_by c.args.clocks.count c.args.out.now c.args.count c.args.at (row_of c.args.clocks.count c.args.region) c.requires.at_le_count.0 r.2 (c.requires.row.intervals_length ∙ c.requires.listed.sized) (c.requires.row.ranks_length ∙ c.requires.listed.sized) _ c.row_width-size.ensures _ _ _ _ c.copy_within.ensures.after c.write_row.ensures refl c.write_two.ensures
