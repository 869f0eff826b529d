use Rattle.making_turns.proofs.Laws.Standing.{goes_on, rows_stand}
use Rattle.making_turns.proofs.Laws.Turning.{rows_left}
use native.Mathlib.Omega.{arith}
use Rattle.making_turns.proofs.turning.walk_next.Goals as goal

pub returns-then-s-clause-loops : goal.returns-then-s-clause-loops
returns-then-s-clause-loops c =
    λ table before records ws S. rw c.to_rows.ensures (goes_on (rows_stand S c.requires.walking_value.0 c.requires.walking_value.1 c.if-s.true))

pub returns-then-s-clause-falls : goal.returns-then-s-clause-falls
returns-then-s-clause-falls c =
    let (_, _, _, _, S₀) = c.requires.by_index in
    rw c.to_rows.ensures (rows_left c.args.s (S₀.grown.walks c.requires.walking_value.0) (omega (arith, S₀.grown.high, S₀.grown.listed.short)) c.requires.walking_value.0)
