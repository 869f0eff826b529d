use Rattle.run_lists.proofs.Laws.RunCode.{refused_at, header_length, header_missing, header_out, header_on}
use Rattle.table_files.specs.Admission.{table_of}
use borrow.Author.Tests.{eqb-true, eqb-false}
use mathlib.Core.Path.{sym, ◌∙◌}
use native.Mathlib.Omega.{arith}
use Rattle.run_lists.proofs.run.check_list.Goals as goal

pub returns-then-is_empty : goal.returns-then-is_empty
returns-then-is_empty c =
    refused_at c.at.ensures (header_missing (table_of c.args.table.now.file.now) c.args.list.now c.record-header.result.now c.record-header.ensures (eqb-true _ _ (sym c.is_empty.ensures ∙ c.if-is_empty.true)))

pub two_bytes-scale-requires : goal.two_bytes-scale-requires
two_bytes-scale-requires c =
    omega (arith, header_length (table_of c.args.table.now.file.now) c.args.list.now c.record-header.result.now c.record-header.ensures (eqb-false _ _ (sym c.is_empty.ensures ∙ c.if-is_empty.false)))

pub two_bytes-steps-requires : goal.two_bytes-steps-requires
two_bytes-steps-requires c =
    omega (arith, header_length (table_of c.args.table.now.file.now) c.args.list.now c.record-header.result.now c.record-header.ensures (eqb-false _ _ (sym c.is_empty.ensures ∙ c.if-is_empty.false)))

pub returns-then-scale-lt1 : goal.returns-then-scale-lt1
returns-then-scale-lt1 c =
    refused_at c.at-then-scale-lt1.ensures (header_out (table_of c.args.table.now.file.now) c.args.list.now c.record-header.result.now c.record-header.ensures (eqb-false _ _ (sym c.is_empty.ensures ∙ c.if-is_empty.false))
    (λ l h s. grind (arith, c.then-scale-lt1.either, c.two_bytes-scale.ensures, c.two_bytes-steps.ensures)))

pub returns : goal.returns
returns c =
    rw (c.two_bytes-scale.ensures, c.two_bytes-steps.ensures) at c.check_steps.ensures ∙ header_on (table_of c.args.table.now.file.now) c.args.list.now c.record-header.result.now c.record-header.ensures (eqb-false _ _ (sym c.is_empty.ensures ∙ c.if-is_empty.false)) (rw c.two_bytes-scale.ensures at c.if-scale-lt1.false) (rw c.two_bytes-scale.ensures at c.if-scale-gt10000.false) (rw c.two_bytes-steps.ensures at c.if-steps-gt2048.false)
