use Rattle.making_turns.proofs.Laws.Standing.{goes_on, next_stands, walks_stand}
use Rattle.making_turns.proofs.Laws.Turning.{next_left, walks_left}
use Rattle.table_records.proofs.Laws.Skips.{skip_none}
use mathlib.Core.Path.{◌∙◌}
use native.Mathlib.Omega.{arith}
use Rattle.making_turns.proofs.turning.follow_next.Goals as goal

pub returns-then-s-clause-loops : goal.returns-then-s-clause-loops
returns-then-s-clause-loops c =
    λ table before records out ws S. rw c.next_row.ensures (goes_on (next_stands S c.requires.walking_value.0 c.requires.walking_value.1 c.if-s.true))

pub returns-then-s-clause-falls : goal.returns-then-s-clause-falls
returns-then-s-clause-falls c =
    let (_, _, _, _, _, S₀) = c.requires.by_index in
    rw c.next_row.ensures (next_left c.args.s (omega (arith, c.if-s.true, S₀.grown.listed.short)))

pub returns-clause-loops : goal.returns-clause-loops
returns-clause-loops c =
    λ table before records out ws S. rw c.to_walks.ensures (goes_on (walks_stand S c.requires.walking_value.0 c.requires.walking_value.1 c.if-s.false _ (c.first_edge.ensures ∙ skip_none _ _)))

pub returns-clause-falls : goal.returns-clause-falls
returns-clause-falls c =
    let (_, _, _, _, _, S₀) = c.requires.by_index in
    rw c.to_walks.ensures (walks_left c.args.s _ (omega (arith, S₀.grown.follows c.requires.walking_value.0, S₀.grown.listed.short)) c.requires.walking_value.0)
