use Rattle.edge_walk.proofs.Laws.Ready.{ready_of}
use Rattle.edge_walk.proofs.Laws.Stand.{sets_out}
use Rattle.edge_walk.proofs.Laws.Visit.{visit_ends}
use Rattle.ranked_ways.proofs.Laws.Memo.{kept_none}
use Rattle.ranked_ways.proofs.Laws.Visit.{chosen_fails, chosen_on}
use borrow.Author.Rules.{rules}
use Rattle.std.proofs.lemmas.Result.{err_from_is_err_and}
use mathlib.Core.Path.{refl}
use native.Mathlib.Omega.{arith}
use Rattle.inclusion.proofs.inside.all_inside.Goals as goal

pub loop-stand-init : goal.loop-stand-init
loop-stand-init c =
    (sets_out _ _ _ c.requires.standing, c.requires.chosen, kept_none _)

pub returns-in_err-last : goal.returns-in_err-last
returns-in_err-last c =
    rw (err_from_is_err_and c.from_residual.result c.from_residual.ensures.1).1 (chosen_fails _ (ready_of c.args.search) (search rules) _ _ _ c.loop-stand.invariant.0 c.loop-stand.invariant.1 _ c.in_err-last.ensures.listed refl)

pub loop-stand-preserved : goal.loop-stand-preserved
loop-stand-preserved c =
    (chosen_on _ (ready_of c.args.search) (search rules) _ _ _ c.loop-stand.invariant.0 c.loop-stand.invariant.1 _ c.in_ok-last.ensures.listed refl _ c.step_intervals-stand.ensures.step, c.step_intervals-stand.ensures.chosen, c.look.ensures.memo)

pub returns : goal.returns
returns c =
    visit_ends _ _ _ _ c.loop-stand.invariant.0 (ready_of c.args.search) (search rules) (omega (arith, c.loop-stand-test.false))
