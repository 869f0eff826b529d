use Rattle.walked_rows.proofs.Laws.Sides.{side_source, side_bounded, side_rows_in}
use Rattle.walked_rows.proofs.sides.by_sides.Goals as goal

pub invariant_of-result : goal.invariant_of-result
invariant_of-result c = record {
  bounded = side_bounded c.args.edge.now c.with_sides.result c.args.k c.with_sides.ensures.means;
  rows_in = side_rows_in c.args.edge.now c.with_sides.result c.args.k c.with_sides.ensures.means;
}

pub returns-clause-source : goal.returns-clause-source
returns-clause-source c =
    side_source c.args.edge.now c.with_sides.result c.args.k c.with_sides.ensures.means
