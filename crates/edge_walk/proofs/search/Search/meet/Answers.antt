use Rattle.edge_walk.proofs.Laws.Ready.{ready_of}
use Rattle.edge_walk.proofs.Laws.Meet.{unmet_on}
use borrow.Author.Rules.{rules}
use mathlib.Core.Path.{refl, sym, ◌∙◌}
use Rattle.edge_walk.proofs.search.Search.meet.Goals as goal

pub loop-at-preserved : goal.loop-at-preserved
loop-at-preserved c =
    unmet_on c.args.self (ready_of c.args.self) (search rules) _ _ c.loop-at.invariant _ (rw c.from.ensures refl) (sym c.is_met.ensures ∙ c.if-is_met.false) _ c.step-at.ensures
