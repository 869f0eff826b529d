use Rattle.automata.proofs.Laws.Comparison.{some_answer_law}
use Rattle.regions.proofs.Laws.Move.{permits_free, permits_parts, permits_fixed}
use mathlib.Core.Path.{sym, ◌∙◌}
use Rattle.regions.proofs.clock_move.Move.permits.Goals as goal
use Rattle.regions.proofs.clock_move.Move.permits.Goals.{then-is_free-via-then-is_free, then-is_free-via-else-is_free+then-is_by_parts}

pub returns-then-is_free : goal.returns-then-is_free
returns-then-is_free c =
    c.is_comparison.ensures ∙ some_answer_law _ ∙ elim c.then-is_free.branch [
      | then-is_free-via-then-is_free w ↦ permits_free _ _ (sym c.is_free.ensures ∙ w.if-is_free.true)
      | then-is_free-via-else-is_free+then-is_by_parts w ↦ permits_parts _ _ (sym c.is_free.ensures ∙ w.if-is_free.false) (sym w.is_by_parts.ensures ∙ w.if-is_by_parts.true)
    ]

pub returns : goal.returns
returns c =
    c.holds.ensures ∙ permits_fixed _ _ (sym c.is_free.ensures ∙ c.if-is_free.false) (sym c.is_by_parts.ensures ∙ c.if-is_by_parts.false)
