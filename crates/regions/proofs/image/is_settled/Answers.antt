use Rattle.regions.proofs.Laws.ImageTests.{settled_keep, settled_constant, settled_clock}
use mathlib.Core.Path.{◌∙◌}
use Rattle.regions.proofs.image.is_settled.Goals as goal

pub returns-in-Keep : goal.returns-in-Keep
returns-in-Keep c =
    settled_keep c.args.update c.in-Keep.is

pub returns-in-Constant : goal.returns-in-Constant
returns-in-Constant c =
    c.is_at_alone.ensures ∙ settled_constant c.args.update _ c.in-Constant.is

pub returns-in-Clock : goal.returns-in-Clock
returns-in-Clock c =
    c.is_at_alone-in-Clock.ensures ∙ settled_clock c.args.update _ _ _ c.in-Clock.is
