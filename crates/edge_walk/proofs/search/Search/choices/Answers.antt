use Rattle.edge_walk.proofs.Laws.Ready.{ready_of}
use Rattle.edge_walk.proofs.Laws.Choice.{rank_skips}
use borrow.Author.Rules.{rules}
use mathlib.Core.Path.{sym, ◌∙◌}
use native.Mathlib.Omega.{arith}
use Rattle.edge_walk.proofs.search.Search.choices.Goals as goal

pub returns-clause-least : goal.returns-clause-least
returns-clause-least c =
    let inside = sym (rw c.from-n.ensures at c.is_open.ensures) ∙ c.if-not-is_open.false in
    rank_skips c.args.self (ready_of c.args.self) (search rules) c.args.part (search rules) c.args.i (omega arith) (omega arith) _ _ _ inside c.max.ensures (rw (c.rank_room-last.ensures, c.from-n.ensures) at c.next_rank.ensures)
