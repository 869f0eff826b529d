use Rattle.regions.proofs.Laws.Move.{stretch_below, stretch_above}
use native.Mathlib.Omega.{arith}
use Rattle.regions.proofs.clock_move.Move.next_stretch.Goals as goal

pub returns-then-reference-moved : goal.returns-then-reference-moved
returns-then-reference-moved c =
    stretch_above _ _ (omega arith) (omega arith) (omega arith)

pub returns : goal.returns
returns c =
    stretch_below _ _ (omega arith) _ (omega arith) (omega arith) (omega arith)
