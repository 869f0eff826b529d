use Rattle.following.proofs.Laws.Put.{room_one, wrote_one}
use borrow.Author.Rules.{rules}
use Rattle.following.proofs.writing.write_if.Goals as goal

pub write_row-requires-clause-n_in_bounds : goal.write_row-requires-clause-n_in_bounds
write_row-requires-clause-n_in_bounds c =
    room_one c.args.n c.requires.n_bound c.args.region (search rules) (search rules) c.args.wanted _ c.if-not-wanted.false c.requires.region_in_bounds

pub returns : goal.returns
returns c =
    wrote_one c.args.n c.requires.n_bound c.args.region (search rules) (search rules) c.args.wanted _ _ _ c.if-not-wanted.false c.row_width.ensures c.write_row.ensures
