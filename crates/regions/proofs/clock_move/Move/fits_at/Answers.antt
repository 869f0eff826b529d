use Rattle.automata.proofs.Laws.Comparison.{some_answer_law}
use Rattle.regions.proofs.Laws.Move.{fits_free, fits_parts, fits_fixed}
use mathlib.Core.Path.{sym, ◌∙◌}
use Rattle.regions.proofs.clock_move.Move.fits_at.Goals as goal

pub returns-then-is_free : goal.returns-then-is_free
returns-then-is_free c =
    c.is_comparison.ensures ∙ some_answer_law _ ∙ fits_free _ _ _ (sym c.is_free.ensures ∙ c.if-is_free.true)

pub returns-then-is_by_parts : goal.returns-then-is_by_parts
returns-then-is_by_parts c =
    c.holds.ensures ∙ fits_parts _ _ _ (sym c.is_free.ensures ∙ c.if-is_free.false) (sym c.is_by_parts.ensures ∙ c.if-is_by_parts.true)

pub returns : goal.returns
returns c =
    c.holds-2.ensures ∙ fits_fixed _ _ _ (sym c.is_free.ensures ∙ c.if-is_free.false) (sym c.is_by_parts.ensures ∙ c.if-is_by_parts.false)
