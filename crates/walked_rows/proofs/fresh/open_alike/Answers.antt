use Rattle.listed_rows.proofs.Laws.RegionLists.{listed_of}
use Rattle.walked_rows.proofs.Laws.Alike.{blocked_all, alike_all}
use Rattle.walked_rows.proofs.Laws.Open.{first_some}
use mathlib.Core.Path.{sym, ◌∙◌}
use Rattle.walked_rows.proofs.fresh.open_alike.Goals as goal
use Rattle.walked_rows.proofs.fresh.open_alike.Goals.{then-rows-i, else-rows-i, then-old-i, else-old-i}

pub returns-then-is_ok : goal.returns-then-is_ok
returns-then-is_ok c =
    let F = c.first_guarded-i.ensures in
    first_some _ _ _ _
    (elim c.if-rows-i.branch [
      | then-rows-i w ↦ blocked_all _ _ _ _ _ _ _ _ F w.if-rows-i.true
      | else-rows-i w ↦ alike_all _ _ _ _ _ _ _ _ F c.args.edge.now.list.sized c.args.edge.now.list.clocks.few (listed_of c.args.edge.now.list).are_rows c.requires.in_source.within c.requires.reads_none c.requires.in_source.all w.if-rows-i.false
          (elim c.if-old-i.branch [
            | then-old-i v ↦ c.requires.taken_inside _ F.from w.if-rows-i.false (sym w.value-is ∙ v.if-old-i.true)
            | else-old-i v ↦ sym v.leads_from.ensures ∙ sym v.is_ok.ensures.value ∙ sym v.value-is ∙ c.if-is_ok.true
          ])
    ])
