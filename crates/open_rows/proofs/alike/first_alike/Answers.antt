use Rattle.automata.proofs.Laws.Tests.{never}
use Rattle.listed_rows.proofs.Laws.RegionLists.{listed_of}
use Rattle.walked_rows.proofs.Laws.Alike.{blocked_all, blocked_found, alike_all}
use borrow.Author.Tests.{le-leb}
use mathlib.Core.Path.{sym, ◌∙◌}
use Rattle.open_rows.proofs.alike.first_alike.Goals as goal
use Rattle.open_rows.proofs.alike.first_alike.Goals.{then-rows-i, else-rows-i}

pub returns-then-is_ok : goal.returns-then-is_ok
returns-then-is_ok c =
    let F = c.first_guarded-i.ensures in
    elim c.if-rows-i.branch [
      | then-rows-i w ↦ blocked_all _ _ _ _ _ _ _ _ F w.if-rows-i.true
      | else-rows-i w ↦ alike_all _ _ _ _ _ _ _ _ F c.args.edge.now.list.sized c.args.edge.now.list.clocks.few (listed_of c.args.edge.now.list).are_rows c.requires.in_source.within c.requires.reads_none c.requires.in_source.all w.if-rows-i.false
          (sym w.leads_from.ensures ∙ sym w.is_ok.ensures.value ∙ sym w.value-is ∙ c.if-is_ok.true)
    ]

pub returns-else-is_ok : goal.returns-else-is_ok
returns-else-is_ok c =
    elim c.if-rows-i.branch [
      | then-rows-i w ↦ never (sym c.if-is_ok.false ∙ w.value-is ∙ le-leb _ _ w.if-rows-i.true)
      | else-rows-i w ↦ blocked_found _ _ _ _ _ _ _ _ c.first_guarded-i.ensures (λ t. never (sym c.if-is_ok.false ∙ w.value-is ∙ w.is_ok.ensures.value ∙ w.leads_from.ensures ∙ t))
    ]
