use Rattle.tables.proofs.Laws.Tables.{describes_of}
use Prim.Native.Nat.{ℕ}
use Rattle.listed_rows.specs.RegionLists.{all_rows}
use Rattle.next_steps.proofs.Laws.Following.{step_above, waits_new, waits_on}
use Rattle.next_steps.specs.Steps.{Follows}
use Rattle.regions.specs.Values.{row_of}
use Rattle.table_files.specs.Admission.{table_of}
use Rattle.table_records.proofs.Laws.Skips.{skip_none}
use Rattle.std.specs.Prelude.{None}
use mathlib.Core.Path.{refl, sym, subst, ◌∙◌}
use Rattle.next_steps.proofs.following.follow_row.Goals as goal

pub follow_edges-requires-clause-by_index : goal.follow_edges-requires-clause-by_index
follow_edges-requires-clause-by_index c =
    let (j, q) = step_above c.args.last.step c.if-last-ne0.true in
    (j, q, c.requires.by_index j q)

pub returns-then-is_some-clause-follows : goal.returns-then-is_some-clause-follows
returns-then-is_some-clause-follows c =
    let D = (describes_of c.args.table.now) in
    let rows = all_rows c.args.list.now in
    let r = row_of c.args.list.now.clocks.count c.args.row in
    let T = table_of c.args.table.now.file.now in
    subst (λ (t : ℕ). Follows T rows c.args.list.now.clocks.count t r c.args.last.entered (record { next = c.new_by_waiting-next.result; step = t; here = c.args.last.here; entered = c.args.last.entered; «from» = None })) (sym c.if-last-ne0.false) (waits_new c.args.table.now.file.now c.args.table.now.head D c.args.list.now.clocks c.requires.clocks rows r c.args.last.entered c.new_by_waiting-next.result c.new_by_waiting-next.ensures (sym c.if-is_some.ensures) c.args.last.here)

pub follow_edges-requires-2-clause-by_index : goal.follow_edges-requires-2-clause-by_index
follow_edges-requires-2-clause-by_index c =
    (0, refl, c.first_edge.ensures ∙ skip_none _ _)

pub returns-clause-follows : goal.returns-clause-follows
returns-clause-follows c =
    let D = (describes_of c.args.table.now) in
    let rows = all_rows c.args.list.now in
    let r = row_of c.args.list.now.clocks.count c.args.row in
    let T = table_of c.args.table.now.file.now in
    subst (λ (t : ℕ). Follows T rows c.args.list.now.clocks.count t r c.args.last.entered c.follow_edges-2.result) (sym c.if-last-ne0.false) (waits_on c.args.table.now.file.now c.args.table.now.head D c.args.list.now.clocks c.requires.clocks rows r c.args.last.entered c.new_by_waiting-next.result c.new_by_waiting-next.ensures (sym c.if-is_some.ensures) c.follow_edges-2.result c.follow_edges-2.ensures.follows)
