use Rattle.making_turns.proofs.Laws.Ending.{final_entered, list_ends, refused_loops, ended_loops}
use Rattle.making_turns.proofs.Laws.Turning.{refusing_left, ending_left}
use Rattle.making_turns.specs.declared.work.Work as work_code
use Rattle.table_records.specs.declared.head.Head.{Head}
use mathlib.Core.Path.{ap}
use Rattle.making_turns.proofs.turning.conclude.Goals as goal

pub returns-then-s-clause-loops : goal.returns-then-s-clause-loops
returns-then-s-clause-loops c =
    λ table before records ws S. refused_loops c.args.s c.args.out.now c.refusing.ensures (rw c.at.ensures (final_entered S c.requires.walking_value.0 c.requires.walking_value.1 c.requires.walking_value.2 c.if-s.true)) S.grown.same_length c.clear.ensures

pub returns-then-s-clause-falls : goal.returns-then-s-clause-falls
returns-then-s-clause-falls c =
    let (_, _, _, _, S₀) = c.requires.by_index in
    rw c.refusing.ensures (refusing_left c.args.s c.at.result S₀.on)

pub returns-clause-loops : goal.returns-clause-loops
returns-clause-loops c =
    λ table before records ws S. ended_loops _ (ap (λ (w : work_code.Work Head). w.ended) c.ending.ensures) (list_ends S c.requires.walking_value.0 c.requires.walking_value.1 c.requires.walking_value.2 c.if-s.false _ c.finish.ensures)

pub returns-clause-falls : goal.returns-clause-falls
returns-clause-falls c =
    let (_, _, _, _, S₀) = c.requires.by_index in
    rw c.ending.ensures (ending_left c.args.s S₀.on)
