use Rattle.automata.proofs.Laws.Rows.{isrowb_law}
use Rattle.automata.proofs.Laws.Tests.{never}
use borrow.Author.Tests.{ne_eqb}
use mathlib.Core.Bool.{not}
use mathlib.Core.Path.{sym, ap, ◌∙◌}
use Rattle.open_rows.proofs.tracing.is_lacked.Goals as goal
use Rattle.open_rows.proofs.tracing.is_lacked.Goals.{then-guess-edge, else-guess-edge}

pub returns-then-is_region : goal.returns-then-is_region
returns-then-is_region c =
    λ t. elim c.if-guess-edge.branch [
      | then-guess-edge w ↦ record {
        is_row = (isrowb_law _ _).0 (sym w.is_region.ensures ∙ sym w.value-is ∙ c.if-is_region.true);
        located = w.if-guess-edge.true;
        missing = sym c.find.ensures ∙ c.is_err.ensures.negation ∙ ap not t;
      }
      | else-guess-edge w ↦ never (sym (w.value-is ∙ ne_eqb _ _ w.if-guess-edge.false) ∙ c.if-is_region.true)
    ]
