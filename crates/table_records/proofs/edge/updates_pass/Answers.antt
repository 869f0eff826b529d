use Prim.Native.Nat.{ℕ, ◌+◌, ◌*◌}
use Rattle.automata.proofs.Laws.Chains.{allb_from_all}
use Rattle.table_files.specs.TableFile.{fields, fields_in_range}
use Rattle.table_records.proofs.Laws.Loops.{mapped_allb}
use borrow.Author.Rules.{rules}
use borrow.Author.Tests.{tests}
use mathlib.Core.Path.{◌∙◌}
use Rattle.table_records.proofs.edge.updates_pass.Goals as goal

pub returns : goal.returns
returns c =
    allb_from_all (λ (z : ℕ). fields_in_range c.args.clocks (fields c.args.bytes.now (c.args.first + 5 * z))) _ _ _ c.all.ensures.ran (λ x b q k. search (rules, tests))
    ∙ mapped_allb (fields_in_range c.args.clocks) (λ (z : ℕ). fields c.args.bytes.now (c.args.first + 5 * z)) _
