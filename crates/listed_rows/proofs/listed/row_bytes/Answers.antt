use Prim.Native.Nat.{ℕ, ◌+◌, ◌*◌}
use Rattle.table_files.proofs.Laws.Records.{span}
use Rattle.listed_rows.proofs.Laws.ListedNumbers.{bytes_long}
use lib.ListN.{length, take, drop}
use mathlib.Core.Path.{ap, ◌∙◌}
use Rattle.listed_rows.proofs.listed.row_bytes.Goals as goal

pub returns : goal.returns
returns c =
    let e = span c.args.list.now (4 + c.args.i * c.row_width-size.result) c.row_width-size.result ∙ ap (λ (w : ℕ). take w (drop (4 + c.args.i * w) c.args.list.now)) c.row_width-size.ensures in
    record { bytes = e; all = ap length e ∙ bytes_long c.args.n c.args.list.now c.args.i c.requires.has_row }
