use Rattle.automata.specs.Clocks.{at}
use Rattle.listed_rows.proofs.Laws.ListedNumbers.{listed_location}
use mathlib.Core.List.{List}
use mathlib.Core.Path.{ap, ◌∙◌}
use Rattle.listed_rows.proofs.listed.location_at.Goals as goal

pub returns : goal.returns
returns c =
    ap (λ (b : List _). at b 2) c.row_bytes.ensures.bytes ∙ listed_location c.args.n c.args.list.now c.args.i
