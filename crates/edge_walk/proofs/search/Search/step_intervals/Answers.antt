use Rattle.edge_walk.proofs.Laws.Ready.{ready_of}
use Prim.Native.Nat.{◌+◌}
use Rattle.edge_walk.proofs.Laws.Choice.{interval_ends, interval_skips, not_yet}
use Rattle.edge_walk.proofs.Laws.Intervals.{chosen_on}
use Rattle.edge_walk.proofs.Laws.Stand.{step_back, step_none, step_last, step_on}
use borrow.Author.Rules.{rules}
use mathlib.Core.Path.{sym}
use native.Mathlib.Omega.{arith}
use Rattle.edge_walk.proofs.search.Search.step_intervals.Goals as goal

pub returns-then-depth-n-clause-step : goal.returns-then-depth-n-clause-step
returns-then-depth-n-clause-step c =
    step_back c.args.self (ready_of c.args.self) (search rules) c.args.«at» c.requires.standing c.requires.depth_nonzero _ (λ x q h. (rw c.from-n.ensures at c.if-depth-n.true, h)) (λ x d. d.1) _ (rw c.from-n.ensures at c.step_back.ensures)

pub returns-then-at-gt32767-clause-step : goal.returns-then-at-gt32767-clause-step
returns-then-at-gt32767-clause-step c =
    step_none c.args.self (ready_of c.args.self) (search rules) c.args.«at» c.requires.standing c.requires.depth_nonzero _ (λ x d. (rw c.from-n.ensures at c.if-depth-n.false) d.0) (omega (arith, c.requires.chosen_2.within, c.if-depth-n.false)) c.if-at-gt32767.true _ (rw c.from-n.ensures at c.step_back-then-at-gt32767.ensures)

pub returns-then-asked-choice-clause-step : goal.returns-then-asked-choice-clause-step
returns-then-asked-choice-clause-step c =
    step_last c.args.self (ready_of c.args.self) (search rules) c.args.«at» c.requires.standing c.requires.depth_nonzero _ (λ x d. (rw c.from-n.ensures at c.if-depth-n.false) d.0) (omega (arith, c.requires.chosen_2.within, c.if-depth-n.false)) _ _ (interval_ends c.args.self (ready_of c.args.self) (search rules) c.args.«at».part (search rules) c.args.«at».depth c.requires.depth_nonzero (omega (arith, c.requires.chosen_2.within, c.if-depth-n.false))) (interval_skips c.args.self (ready_of c.args.self) (search rules) c.args.«at».part (search rules) c.args.«at».depth c.requires.depth_nonzero (omega (arith, c.requires.chosen_2.within, c.if-depth-n.false)) _ _ c.next_permitted-choice.ensures) c.if-asked-choice.true _ (rw c.from-n.ensures at c.step_back-then-asked-choice.ensures)

pub returns-clause-step : goal.returns-clause-step
returns-clause-step c =
    step_on c.args.self (ready_of c.args.self) (search rules) c.args.«at» c.requires.standing c.requires.depth_nonzero _ (λ x d. (rw c.from-n.ensures at c.if-depth-n.false) d.0) (omega (arith, c.requires.chosen_2.within, c.if-depth-n.false)) _ _ (interval_ends c.args.self (ready_of c.args.self) (search rules) c.args.«at».part (search rules) c.args.«at».depth c.requires.depth_nonzero (omega (arith, c.requires.chosen_2.within, c.if-depth-n.false))) (interval_skips c.args.self (ready_of c.args.self) (search rules) c.args.«at».part (search rules) c.args.«at».depth c.requires.depth_nonzero (omega (arith, c.requires.chosen_2.within, c.if-depth-n.false)) _ _ c.next_permitted-choice.ensures) (omega (arith, c.if-asked-choice.false)) _ (rw c.from-n.ensures at c.with_number.ensures) (sym (not_yet c.args.self _ (c.args.«at».depth + 1) (omega (arith, c.requires.chosen_2.within, c.if-depth-n.false))))

pub returns-clause-chosen : goal.returns-clause-chosen
returns-clause-chosen c =
    chosen_on c.args.self c.args.«at» c.requires.chosen_2 (ready_of c.args.self) (search rules) c.requires.depth_nonzero (omega (arith, c.requires.chosen_2.within, c.if-depth-n.false)) _ c.next_permitted-choice.ensures (omega (arith, c.if-asked-choice.false)) _ (rw c.from-n.ensures at c.with_number.ensures)
