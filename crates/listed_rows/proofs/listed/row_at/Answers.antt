use Prim.Native.Nat.{ℕ}
use Rattle.calls.specs.RegionFile.{row_in}
use Rattle.listed_rows.specs.Listed.{listed_row}
use Rattle.regions.specs.Values.{region_of}
use mathlib.Core.List.{List}
use mathlib.Core.Path.{ap, ◌∙◌}
use Rattle.listed_rows.proofs.listed.row_at.Goals as goal

pub returns : goal.returns
unfolding listed_row
returns c =
    c.region_in.ensures ∙ ap (λ (b : List ℕ). region_of (row_in c.args.n b)) c.row_bytes.ensures.bytes
