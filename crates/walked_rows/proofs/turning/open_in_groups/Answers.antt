use Rattle.listed_rows.specs.EdgesInLists.{bounds_in, edge_in}
use Rattle.regions.specs.Values.{bounds_of, edge_of}
use Rattle.selection.proofs.Laws.Grouping.{none_held, groups_wider}
use native.Mathlib.Omega.{arith}
use Rattle.walked_rows.proofs.turning.open_in_groups.Goals as goal

pub lodge_all-requires-clause-all_held : goal.lodge_all-requires-clause-all_held
lodge_all-requires-clause-all_held c =
    none_held _ _ _ _ _ 1024

pub least_held-requires : goal.least_held-requires
least_held-requires c =
    record { all_held = groups_wider (bounds_in c.args.edge.now) (edge_in c.args.edge.now) c.args.edge.now.list.clocks.count c.args.edge.now.list.bytes.now c.args.rows.start c.args.rows.end 0 c.args.edge.now.list.count _ _ _ _ (omega arith) c.requires.in_source.within (rw (c.over_rows-over.ensures.clocks, c.over_rows-over.ensures.bytes, c.over_rows-over.ensures.e) at c.lodge_all-2.ensures) }
