use Prim.Native.Nat.{ℕ, ◌*◌}
use Rattle.automata.proofs.Laws.Chains.{allb_from_all}
use Rattle.table_files.specs.TableFile.{guard, guard_in_range}
use Rattle.table_records.proofs.Laws.Loops.{mapped_allb}
use borrow.Author.Rules.{rules}
use borrow.Author.Tests.{tests}
use mathlib.Core.Path.{◌∙◌}
use Rattle.table_records.proofs.edge.guards_pass.Goals as goal

pub returns : goal.returns
returns c =
    allb_from_all (λ (i : ℕ). guard_in_range c.args.clocks (guard c.args.bytes.now (3 * i))) _ _ _ c.all.ensures.ran (λ x b q k. search (rules, tests))
    ∙ mapped_allb (guard_in_range c.args.clocks) (λ (i : ℕ). guard c.args.bytes.now (3 * i)) _
