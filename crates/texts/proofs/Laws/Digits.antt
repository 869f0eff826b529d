-- A number's text is what the library prints. Assumes nothing.
use Prim.Native.Nat.{ℕ, ◌<◌}
use native.Mathlib.Omega.{arith}
use mathlib.Core.Path.{◌≡◌}
use Rattle.std.specs.Fmt.{decimal as plain}
use Rattle.std.proofs.lemmas.Fmt.{decimal_from_appends, length-decimal-le}
use Rattle.calls.specs.Text.{ascii}
use Rattle.calls.specs.Program.{decimal_of, decimal}
use Rattle.calls.proofs.Laws.Text.{decimal_one, decimal_more}

-- a number of two bytes has five digits at most, so its text is the library's
pub decimal_plain : (n : ℕ) → n < 65536 → ascii (decimal n) ≡ plain n
unfolding decimal
decimal_plain n h =
    decimal_from_appends (λ k m. ascii (decimal_of k m)) (record { one = decimal_one; more = decimal_more }) 5 n (omega arith) (length-decimal-le 5 n (omega arith) (omega arith) (omega arith))
