use Prim.Native.Nat.{ℕ, ◌+◌, ◌*◌}
use Rattle.calls.specs.RegionFile.{row_width}
use Rattle.made_lists.proofs.Laws.Length.{few_bytes, not_both}
use Rattle.tables.proofs.Laws.Refusals.{opens_refused}
use Rattle.tables.proofs.Laws.Tables.{opened}
use borrow.Author.Rules.{rules}
use mathlib.Core.Path.{ap, ◌∙◌}
use native.Mathlib.Omega.{arith}
use Rattle.made_lists.proofs.file.list_length.Goals as goal

pub returns-in_default : goal.returns-in_default
returns-in_default c =
    not_both c.args.table.now (opens_refused c.args.table.now c.in_default.ensures)

pub overflow_mul-result : goal.overflow_mul-result
overflow_mul-result c =
    let few = few_bytes c.args.rows c.in-Ok.opened.head.clocks.count (search rules) c.in-Ok.opened.head.clocks.few in
    let m = ap (λ (w : ℕ). c.args.rows * w) c.row_width.ensures in
    omega arith

pub overflow_add-result : goal.overflow_add-result
overflow_add-result c =
    let few = few_bytes c.args.rows c.in-Ok.opened.head.clocks.count (search rules) c.in-Ok.opened.head.clocks.few in
    let m = ap (λ (w : ℕ). c.args.rows * w) c.row_width.ensures in
    omega arith

pub returns : goal.returns
returns c =
    λ _. ap (λ (w : ℕ). 4 + c.args.rows * w) (c.row_width.ensures ∙ ap row_width (opened c.in-Ok.opened c.in-Ok.ensures).count)
