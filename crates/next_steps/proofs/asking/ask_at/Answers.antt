use Rattle.tables.proofs.Laws.Tables.{describes_of}
use Rattle.listed_rows.specs.RegionLists.{all_rows}
use Rattle.next_steps.proofs.Laws.Sources.{asks_far}
use Rattle.regions.specs.Values.{row_of}
use Rattle.tables.proofs.Laws.Described.{edge_stands, edge_says}
use mathlib.Core.Path.{sym, ◌∙◌}
use Rattle.next_steps.proofs.asking.ask_at.Goals as goal

pub source_at-requires : goal.source_at-requires
source_at-requires c =
    let D = (describes_of c.args.table.now) in
    let (j, l, m) = c.requires.by_index in
    edge_stands c.args.table.now.file.now c.args.table.now.head D j l m

pub returns-then-source_at-from : goal.returns-then-source_at-from
returns-then-source_at-from c =
    let D = (describes_of c.args.table.now) in
    let rows = all_rows c.args.list.now in
    let r = row_of c.args.list.now.clocks.count c.args.from in
    λ j l m. asks_far c.args.table.now.file.now c.args.table.now.head D j l c.args.at m rows r (λ q. c.if-source_at-from.true (c.source_at.ensures ∙ sym q)) c.args.entered

pub edge_from-requires-clause-stands : goal.edge_from-requires-clause-stands
edge_from-requires-clause-stands c =
    let D = (describes_of c.args.table.now) in
    let (j, l, m) = c.requires.by_index in
    edge_stands c.args.table.now.file.now c.args.table.now.head D j l m

pub ask-requires-clause-by_index : goal.ask-requires-clause-by_index
ask-requires-clause-by_index c =
    let D = (describes_of c.args.table.now) in
    let (j, l, m) = c.requires.by_index in
    (j, l, c.edge_from.ensures.means ∙ edge_says c.args.table.now.file.now c.args.table.now.head D j l m)

pub returns : goal.returns
returns c =
    let D = (describes_of c.args.table.now) in
    λ j l m. c.ask.ensures j l (c.edge_from.ensures.means ∙ edge_says c.args.table.now.file.now c.args.table.now.head D j l m)
