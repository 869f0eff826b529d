use Prim.Native.Nat.{◌<◌}
use Rattle.regions.proofs.Laws.Moves.{bounded_at}
use Rattle.regions.proofs.Laws.Values.{length_under}
use Rattle.std.proofs.lemmas.Iterator.{serves_from_Range}
use borrow.Author.Rules.{rules}
use borrow.Author.Tests.{tests}
use lib.ListN.{length}
use mathlib.Core.Path.{◌≡◌}
use native.Mathlib.Omega.{arith}
use Rattle.open_rows.proofs.tracing.intervals_fit.Goals as goal

pub all-requires-clause-callable : goal.all-requires-clause-callable
all-requires-clause-callable c =
    let updates : length c.args.e.updates ≡ 4 = search (rules, length_under) in
    let bounds : length c.args.clocks.bounds ≡ 4 = search rules in
    serves_from_Range (λ x q k. search (rules, tests)) (λ x a h. let few : x < 4 = omega (arith, c.args.clocks.few) in let bounded = bounded_at c.args.clocks c.args.from c.args.e c.args.clocks.few updates x h bounds c.requires.bounded in search rules)
