use Prim.Native.Nat.{ℕ, ◌+◌, ◌*◌}
use Rattle.regions.specs.Values.{update_of}
use Rattle.table_files.specs.TableFile.{fields, update}
use Rattle.table_records.proofs.Laws.Loops.{Filled}
use Rattle.table_records.proofs.decode.updates_from.Given as goal

abbrev pub invariant-loop-z : goal.invariant-loop-z
invariant-loop-z l = Filled update_of (λ (z : ℕ). update (fields l.bytes (l.first + 5 * z))) 4 l.z l.updates
