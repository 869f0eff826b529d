use Prim.Native.Nat.{ℕ, ◌+◌, ◌*◌}
use Rattle.automata.specs.Rows.{from}
use Rattle.table_files.specs.TableFile.{fields, update}
use Rattle.table_records.proofs.Laws.Loops.{none_filled, one_filled, all_filled, map_twice}
use borrow.Author.Rules.{rules}
use mathlib.Core.Path.{sym, ◌∙◌}
use native.Mathlib.Omega.{arith}
use Rattle.table_records.proofs.decode.updates_from.Goals as goal

pub loop-z-init : goal.loop-z-init
loop-z-init c =
    none_filled (search rules)

pub loop-z-preserved : goal.loop-z-preserved
loop-z-preserved c =
    one_filled c.loop-z.invariant _ (omega arith) c.update_from.ensures

pub returns : goal.returns
returns c =
    all_filled c.loop-z.invariant c.args.clocks (omega arith) ∙ sym (map_twice update (λ (z : ℕ). fields c.args.bytes.now (c.args.first + 5 * z)) (from 0 c.args.clocks))
