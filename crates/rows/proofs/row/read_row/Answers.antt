use Rattle.tables.proofs.Laws.Tables.{describes_of}
use Rattle.rows.proofs.Laws.RowRecords.{read_missing, whole_record, read_elsewhere, read_ill, read_good}
use borrow.Author.Tests.{eqb-true, eqb-false}
use mathlib.Core.Path.{sym, ◌∙◌}
use native.Mathlib.Omega.{arith}
use Rattle.rows.proofs.row.read_row.Goals as goal

pub returns-then-is_empty : goal.returns-then-is_empty
returns-then-is_empty c =
    read_missing c.args.table.now.file.now c.args.file.now c.args.at c.args.table.now.head (describes_of c.args.table.now) c.row_width.result c.row_width.ensures c.record-bytes.result.now c.record-bytes.ensures (eqb-true _ _ (sym c.is_empty.ensures ∙ c.if-is_empty.true))

pub region_in-region-requires : goal.region_in-region-requires
region_in-region-requires c =
    (omega (arith, c.args.table.now.head.clocks.few), omega (arith, whole_record c.args.table.now.file.now c.args.file.now c.args.at c.args.table.now.head (describes_of c.args.table.now) c.row_width.result c.row_width.ensures c.record-bytes.result.now c.record-bytes.ensures (eqb-false _ _ (sym c.is_empty.ensures ∙ c.if-is_empty.false))))

pub returns-then-head-region : goal.returns-then-head-region
returns-then-head-region c =
    read_elsewhere c.args.table.now.file.now c.args.file.now c.args.at c.args.table.now.head (describes_of c.args.table.now) c.row_width.result c.row_width.ensures c.record-bytes.result.now c.record-bytes.ensures (eqb-false _ _ (sym c.is_empty.ensures ∙ c.if-is_empty.false)) c.region_in-region.result c.region_in-region.ensures c.if-head-region.true

pub returns-then-is_region : goal.returns-then-is_region
returns-then-is_region c =
    read_good c.args.table.now.file.now c.args.file.now c.args.at c.args.table.now.head (describes_of c.args.table.now) c.row_width.result c.row_width.ensures c.record-bytes.result.now c.record-bytes.ensures (eqb-false _ _ (sym c.is_empty.ensures ∙ c.if-is_empty.false)) c.region_in-region.result c.region_in-region.ensures c.if-head-region.false (sym c.if-is_region.true ∙ c.is_region.ensures)

pub returns-else-is_region : goal.returns-else-is_region
returns-else-is_region c =
    read_ill c.args.table.now.file.now c.args.file.now c.args.at c.args.table.now.head (describes_of c.args.table.now) c.row_width.result c.row_width.ensures c.record-bytes.result.now c.record-bytes.ensures (eqb-false _ _ (sym c.is_empty.ensures ∙ c.if-is_empty.false)) c.region_in-region.result c.region_in-region.ensures c.if-head-region.false (sym c.if-is_region.false ∙ c.is_region.ensures)
