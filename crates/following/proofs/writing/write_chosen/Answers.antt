use Rattle.ranked_ways.proofs.Laws.Chosen.{chosen_none, chosen_all}
use mathlib.Core.Path.{refl}
use Rattle.following.proofs.writing.write_chosen.Goals as goal

pub returns-then-stand-search : goal.returns-then-stand-search
returns-then-stand-search c =
    rw (chosen_none c.args.search c.args.stand c.if-stand-search.true) (record { bytes = refl; rows = refl; memo = c.requires.kept })

pub write_ranked-requires-clause-part_in_bounds : goal.write_ranked-requires-clause-part_in_bounds
write_ranked-requires-clause-part_in_bounds c =
    rw (← chosen_all c.args.search c.args.stand c.if-stand-search.false) c.requires.stand_in_bounds

pub returns : goal.returns
returns c =
    rw (chosen_all c.args.search c.args.stand c.if-stand-search.false) c.write_ranked.ensures
