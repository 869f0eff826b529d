use Prim.Native.Nat.{ℕ, ◌*◌}
use Rattle.calls.proofs.Laws.Rows.{row_width_is}
use Rattle.kept_rows.proofs.Laws.RowBytes.{birth_read}
use mathlib.Core.Path.{ap, ◌∙◌}
use native.Mathlib.Omega.{arith}
use Rattle.kept_rows.proofs.births.birth_at.Goals as goal

pub two_bytes-requires : goal.two_bytes-requires
two_bytes-requires c =
    let m = ap (λ (w : ℕ). c.args.i * w) c.row_width.ensures in
    omega (arith, m, row_width_is c.args.n)

pub returns : goal.returns
returns c =
    c.two_bytes.ensures ∙ birth_read c.args.n c.args.list.now c.args.i _ c.row_width.ensures
