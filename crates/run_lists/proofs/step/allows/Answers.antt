use Prim.Native.Nat.{◌<◌}
use Rattle.run_lists.proofs.Laws.OneStep.{keep_answer, clock_answer}
use borrow.Author.Rules.{rules}
use lib.ListN.{length}
use mathlib.Core.Path.{◌≡◌}
use native.Mathlib.Omega.{arith}
use Rattle.run_lists.proofs.step.allows.Goals as goal

pub waited-requires-in-Clock : goal.waited-requires-in-Clock
waited-requires-in-Clock c =
    rw c.in-Clock.is at c.requires.action_in

pub returns-in-Keep : goal.returns-in-Keep
returns-in-Keep c =
    rw (c.in-Keep.is, c.waited.ensures.value) (keep_answer c.args.scale c.args.delay c.args.values c.args.z c.args.value c.args.u.comparison (search rules))

pub returns-in-Constant : goal.returns-in-Constant
returns-in-Constant c =
    rw (c.in-Constant.is, c.holds.ensures, c.counts.ensures.value)

pub returns-in-Clock : goal.returns-in-Clock
returns-in-Clock c =
    let y : c.in-Clock.y < 4 = rw c.in-Clock.is at c.requires.action_in in
    let long : length c.args.values ≡ 4 = search rules in
    rw (c.in-Clock.is, c.holds-in-Clock.ensures, c.counts-in-Clock-2.ensures.value, c.waited-in-Clock.ensures.value, c.counts-in-Clock.ensures.value)
    (clock_answer c.args.scale c.args.delay c.args.values c.args.z c.args.value c.args.u.comparison _ _ _ (omega arith))
