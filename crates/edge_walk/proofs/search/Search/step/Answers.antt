use Rattle.edge_walk.proofs.Laws.Ready.{ready_of}
use Rattle.automata.proofs.Laws.Tests.{never}
use Rattle.edge_walk.proofs.Laws.Stand.{step_back, step_none, step_last, step_on, step_past}
use borrow.Author.Rules.{rules}
use mathlib.Core.Path.{sym, ◌∙◌}
use native.Mathlib.Omega.{arith}
use Rattle.edge_walk.proofs.search.Search.step.Goals as goal

pub returns-then-done : goal.returns-then-done
returns-then-done c =
    step_back c.args.self (ready_of c.args.self) (search rules) c.args.«at» c.requires.standing c.requires.depth_nonzero _ (λ x q h. (c.if-done.true, h)) (λ x d. d.1) _ (rw c.from-n.ensures at c.step_back.ensures)

pub returns-then-at-gt32767 : goal.returns-then-at-gt32767
returns-then-at-gt32767 c =
    step_none c.args.self (ready_of c.args.self) (search rules) c.args.«at» c.requires.standing c.requires.depth_nonzero _ (λ x d. never (sym c.if-done.false ∙ d.0)) (c.requires.depth_bound c.if-done.false) c.if-at-gt32767.true _ (rw c.from-n.ensures at c.step_back-then-at-gt32767.ensures)

pub returns-then-choices-choice : goal.returns-then-choices-choice
returns-then-choices-choice c =
    step_last c.args.self (ready_of c.args.self) (search rules) c.args.«at» c.requires.standing c.requires.depth_nonzero _ (λ x d. never (sym c.if-done.false ∙ d.0)) (c.requires.depth_bound c.if-done.false) _ _ c.choices-choices.ensures.last c.choices-choices.ensures.least c.if-choices-choice.true _ (rw c.from-n.ensures at c.step_back-then-choices-choice.ensures)

pub returns-then-is_stuck : goal.returns-then-is_stuck
returns-then-is_stuck c =
    rw c.from.ensures (step_past c.args.self (ready_of c.args.self) (search rules) c.args.«at» c.requires.standing c.requires.depth_nonzero _ (λ x d. never (sym c.if-done.false ∙ d.0)) (c.requires.depth_bound c.if-done.false) _ _ c.choices-choices.ensures.last c.choices-choices.ensures.least (omega (arith, c.if-choices-choice.false)) _ (rw c.from-n.ensures at c.with_number-further.ensures) (sym c.is_stuck.ensures ∙ c.if-is_stuck.true))

pub returns : goal.returns
returns c =
    step_on c.args.self (ready_of c.args.self) (search rules) c.args.«at» c.requires.standing c.requires.depth_nonzero _ (λ x d. never (sym c.if-done.false ∙ d.0)) (c.requires.depth_bound c.if-done.false) _ _ c.choices-choices.ensures.last c.choices-choices.ensures.least (omega (arith, c.if-choices-choice.false)) _ (rw c.from-n.ensures at c.with_number-further.ensures) (sym c.is_stuck.ensures ∙ c.if-is_stuck.false)
