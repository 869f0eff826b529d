use Rattle.edge_walk.proofs.Laws.Way.{tops, ranks_few, way_shut}
use Rattle.regions.proofs.Laws.Values.{few_of}
use borrow.Author.Rules.{rules}
use mathlib.Core.Path.{sym, ◌∙◌}
use Rattle.edge_walk.proofs.way.open_way.Goals as goal

pub invariant_of-result : goal.invariant_of-result
invariant_of-result c = record {
  few_ranks = ranks_few c.args.clocks (few_of c.args.clocks) (search rules) c.args.from c.requires.row c.args.e c.requires.bounded _ c.moves-moves.ensures;
  tops = tops c.args.clocks (few_of c.args.clocks) (search rules) c.args.from c.requires.row c.args.e c.requires.bounded _ c.moves-moves.ensures;
}

pub returns-then-not-all_permit-clause-rows : goal.returns-then-not-all_permit-clause-rows
returns-then-not-all_permit-clause-rows c =
    let k = c.args.clocks in
    let few = few_of k in
    let tops_are = tops k few (search rules) c.args.from c.requires.row c.args.e c.requires.bounded _ c.moves-moves.ensures in
    let low_ranks = ranks_few k few (search rules) c.args.from c.requires.row c.args.e c.requires.bounded _ c.moves-moves.ensures in
    λ leaves guarded. way_shut k few (search rules) c.args.from c.requires.row c.args.e c.requires.bounded _ c.moves-moves.ensures low_ranks tops_are leaves guarded (rw c.from.ensures at (sym c.all_permit.ensures ∙ c.if-not-all_permit.true))
