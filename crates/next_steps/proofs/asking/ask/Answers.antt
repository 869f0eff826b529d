use Rattle.tables.proofs.Laws.Tables.{describes_of}
use Rattle.next_steps.proofs.Laws.Asking.{edge_bounded, target_in, asks_final, asks_image}
use mathlib.Core.Path.{sym, ◌∙◌}
use Rattle.next_steps.proofs.asking.ask.Goals as goal

pub is_final-requires : goal.is_final-requires
is_final-requires c =
    let (j, l, m) = c.requires.by_index in
    record { location_lt_locations = target_in c.args.table.now.file.now c.args.table.now.head (describes_of c.args.table.now) j l c.args.e m }

pub leads_anywhere-requires-clause-bounded : goal.leads_anywhere-requires-clause-bounded
leads_anywhere-requires-clause-bounded c =
    let (j, l, m) = c.requires.by_index in
    edge_bounded c.args.table.now.file.now c.args.table.now.head (describes_of c.args.table.now) c.args.list.now.clocks c.requires.clocks j l c.args.e m

pub returns-else-entered : goal.returns-else-entered
returns-else-entered c =
    λ j l m. asks_final c.args.table.now.file.now c.args.table.now.head (describes_of c.args.table.now) c.args.list.now.clocks c.requires.clocks j l c.args.e m (sym c.is_final.ensures ∙ c.if-is_final.true) _ c.if-entered.false _ c.leads_anywhere.ensures.some c.leads_anywhere.ensures.none

pub new_by_image-requires-clause-bounded : goal.new_by_image-requires-clause-bounded
new_by_image-requires-clause-bounded c =
    let (j, l, m) = c.requires.by_index in
    edge_bounded c.args.table.now.file.now c.args.table.now.head (describes_of c.args.table.now) c.args.list.now.clocks c.requires.clocks j l c.args.e m

pub returns-then-is_deterministic : goal.returns-then-is_deterministic
returns-then-is_deterministic c =
    λ j l m. asks_image c.args.table.now.file.now c.args.table.now.head (describes_of c.args.table.now) c.args.list.now.clocks c.requires.clocks j l c.args.e m (sym c.is_final.ensures ∙ c.if-is_final.false) _ _ c.new_by_image.ensures
