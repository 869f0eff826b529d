use Prim.Native.Nat.{ℕ, ◌*◌}
use Rattle.region_lists.proofs.Laws.ListRecords.{few_bytes}
use mathlib.Core.Path.{ap}
use native.Mathlib.Omega.{arith}
use Rattle.region_lists.proofs.list_records.list_end.Goals as goal

pub overflow_mul-result : goal.overflow_mul-result
overflow_mul-result c =
    let few = few_bytes c.args.count c.args.n c.requires.0 c.requires.1 in
    let m = ap (λ (w : ℕ). c.args.count * w) c.row_width.ensures in omega arith

pub overflow_add-result : goal.overflow_add-result
overflow_add-result c =
    let few = few_bytes c.args.count c.args.n c.requires.0 c.requires.1 in
    let m = ap (λ (w : ℕ). c.args.count * w) c.row_width.ensures in omega arith
