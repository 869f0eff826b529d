use Prim.Native.Nat.{ℕ, ◌*◌}
use Rattle.regions.specs.Values.{guard_of}
use Rattle.table_files.specs.TableFile.{guard}
use Rattle.table_records.proofs.Laws.Loops.{Filled}
use Rattle.table_records.proofs.decode.guards_from.Given as goal

abbrev pub invariant-loop-i : goal.invariant-loop-i
invariant-loop-i l = Filled guard_of (λ (i : ℕ). guard l.bytes (3 * i)) 8 l.i l.guards
