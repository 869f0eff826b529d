-- Whether there is room for one row more. Assumes nothing.
use Prim.Native.Nat.{ℕ, ◌+◌, ◌*◌, ◌^◌, ◌≤◌, ◌<◌}
use native.Mathlib.Nat.{mul-le-mul_right}
use native.Mathlib.Omega.{arith}
use mathlib.Core.Path.{◌≡◌}
use Rattle.calls.specs.RegionFile.{row_width}
use Rattle.calls.proofs.Laws.Rows.{row_width_is}

-- the bytes of so many rows can be counted
pub room_fits : (n count w : ℕ) → n ≤ 4 → count < 4096 → w ≡ row_width n → ((count + 1) * w < 2 ^ 64) × (4 + (count + 1) * w < 2 ^ 64)
room_fits n count w few short e = (omega (arith, most), omega (arith, most))
  where
    w_small : w ≤ 11
    w_small = omega (arith, e, row_width_is n)

    most : (count + 1) * w ≤ 4096 * 11
    most = omega (arith, mul-le-mul_right w (let h : count + 1 ≤ 4096 = omega arith in h), w_small)
