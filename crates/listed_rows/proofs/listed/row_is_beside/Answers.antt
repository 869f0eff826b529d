use Rattle.listed_rows.proofs.Laws.Ranked.{listed_beside}
use borrow.Author.Rules.{rules}
use lib.Dec.{ltb}
use mathlib.Core.Path.{ap, ◌∙◌}
use Rattle.listed_rows.proofs.listed.row_is_beside.Goals as goal

pub returns : goal.returns
returns c =
    ap (ltb c.args.n) c.shared_with.ensures ∙ listed_beside c.args.n c.args.list.now c.args.i c.args.wanted (search rules) (search rules)
