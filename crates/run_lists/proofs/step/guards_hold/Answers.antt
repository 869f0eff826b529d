use Prim.Native.Nat.{ℕ, ◌+◌, ◌*◌}
use Rattle.automata.proofs.Laws.Chains.{allb_from_all}
use Rattle.automata.specs.Clocks.{at}
use Rattle.automata.specs.Comparison.{holds}
use Rattle.regions.specs.declared.edge.Guard.{Guard}
use Rattle.run_lists.proofs.Laws.OneStep.{guards_each}
use borrow.Author.Rules.{rules}
use borrow.Author.Tests.{tests}
use lib.ListN.{length, get_or}
use mathlib.Core.Path.{◌≡◌, ◌∙◌}
use native.Mathlib.Omega.{arith}
use Rattle.run_lists.proofs.step.guards_hold.Goals as goal

pub returns : goal.returns
returns c =
    let long : length c.args.values ≡ 4 = search rules in
    let d : Guard = record { clock = 0; comparison = 0; constant = 0 } in
    let test = λ (i : ℕ). holds (get_or c.args.e.guards i d).comparison (at c.args.values (get_or c.args.e.guards i d).clock + c.args.delay) ((get_or c.args.e.guards i d).constant * c.args.scale) in
    allb_from_all test _ _ _ c.all.ensures.ran (λ x b q k. search (rules, tests)) ∙ guards_each c.args.scale c.args.n c.args.delay c.args.values c.args.e (omega arith) c.requires.names d
