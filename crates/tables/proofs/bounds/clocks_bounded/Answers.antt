use Prim.Native.Nat.{ℕ}
use Rattle.automata.proofs.Laws.Chains.{allb_from_all}
use Rattle.regions.specs.Values.{action_of}
use Rattle.table_files.specs.Admission.{clock_bounded}
use Rattle.tables.proofs.Laws.Bounds.{no_update, updates_along}
use borrow.Author.Rules.{rules}
use borrow.Author.Tests.{tests}
use lib.ListN.{get_or}
use mathlib.Core.Path.{◌∙◌}
use Rattle.tables.proofs.bounds.clocks_bounded.Goals as goal

pub returns : goal.returns
returns c =
    let test = λ (z : ℕ). clock_bounded c.args.bounds.now z (action_of (get_or c.args.e.now.updates z no_update).action) in
    allb_from_all test _ _ _ c.all.ensures.ran (λ x b q k. search (rules, tests)) ∙ updates_along c.args.bounds.now c.args.e.now clock_bounded
