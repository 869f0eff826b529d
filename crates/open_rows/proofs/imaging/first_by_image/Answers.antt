use Rattle.open_rows.proofs.Laws.Known.{known_none}
use Rattle.walked_rows.proofs.Laws.Open.{holds_none}
use Rattle.walked_rows.specs.Leading.{LeadsIn}
use borrow.Author.Rules.{rules}
use Rattle.open_rows.proofs.imaging.first_by_image.Goals as goal

pub loop-i-init : goal.loop-i-init
loop-i-init c =
    (holds_none (LeadsIn c.args.edge.now) _ _ c.requires.in_source.from, (search rules, (search rules, known_none c.args.edge.now _ 64)))
