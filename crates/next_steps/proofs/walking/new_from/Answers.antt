use Rattle.new_rows.proofs.Laws.NextRows.{none_led}
use mathlib.Core.Path.{refl, sym, ◌∙◌}
use Rattle.next_steps.proofs.walking.new_from.Goals as goal

pub returns-then-not-is_enabled : goal.returns-then-not-is_enabled
returns-then-not-is_enabled c =
    rw (none_led c.args.edge.now.list.clocks c.args.from c.args.edge.now.e (sym c.is_enabled.ensures ∙ c.if-not-is_enabled.true)) refl
