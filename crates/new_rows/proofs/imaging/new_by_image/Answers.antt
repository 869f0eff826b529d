use Rattle.new_rows.proofs.Laws.NextRows.{none_led}
use mathlib.Core.Path.{refl, sym, ◌∙◌}
use Rattle.new_rows.proofs.imaging.new_by_image.Goals as goal

pub returns-then-not-is_enabled : goal.returns-then-not-is_enabled
returns-then-not-is_enabled c =
    rw (none_led c.args.list.now.clocks c.args.from c.args.e (sym c.is_enabled.ensures ∙ c.if-not-is_enabled.true)) refl
