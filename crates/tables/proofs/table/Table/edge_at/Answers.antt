use Rattle.tables.proofs.Laws.Tables.{describes_of}
use Rattle.tables.proofs.Laws.Described.{edge_stands, edge_says}
use mathlib.Core.Path.{◌∙◌}
use Rattle.tables.proofs.table.Table.edge_at.Goals as goal

pub edge_from-requires-clause-stands : goal.edge_from-requires-clause-stands
edge_from-requires-clause-stands c =
    edge_stands c.args.self.now.file.now _ (describes_of c.args.self.now) c.args.number c.requires.number_lt_edges c.edge_start.ensures

pub edge_from-requires-clause-clocks_bound : goal.edge_from-requires-clause-clocks_bound
edge_from-requires-clause-clocks_bound c =
    c.args.self.now.head.clocks.few

pub returns-clause-means : goal.returns-clause-means
returns-clause-means c =
    c.edge_from.ensures.means ∙ edge_says c.args.self.now.file.now _ (describes_of c.args.self.now) c.args.number c.requires.number_lt_edges c.edge_start.ensures
