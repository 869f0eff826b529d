use Rattle.automata.specs.Checks.{has}
use Rattle.listed_rows.specs.RegionLists.{all_rows}
use Rattle.open_rows.proofs.Laws.Waiting.{wait_found, wait_missing}
use mathlib.Core.Path.{sym, ◌∙◌}
use Rattle.open_rows.proofs.waiting.waits_inside.Goals as goal

pub returns-in-Some : goal.returns-in-Some
returns-in-Some c =
    wait_found _ _ c.args.list.now.sized (has (all_rows c.args.list.now)) _ c.requires.row c.in-Some.next (sym c.in-Some.is ∙ c.wait.ensures) _ (c.is_ok.ensures.value ∙ c.find.ensures)

pub returns-in-None : goal.returns-in-None
returns-in-None c =
    wait_missing _ _ c.args.list.now.sized (has (all_rows c.args.list.now)) _ c.requires.row (sym c.in-None.is ∙ c.wait.ensures)
