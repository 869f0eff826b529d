-- A row's record, written to the front of a lent buffer. Assumes nothing.
use Prim.Native.Nat.{ℕ, ◌+◌, ◌-◌}
use native.Mathlib.Omega.{arith}
use mathlib.Core.Path.{◌≡◌, refl, ◌∙◌}
use mathlib.Core.List.{List, [], ◌∷◌, ◌++◌}
use lib.ListN.{length, take, drop}
use Rattle.table_files.specs.Bytes.{RW}
use Rattle.calls.specs.RegionFile.{row_width, row_bytes}
use Rattle.calls.proofs.Laws.Rows.{row_width_is}
use Rattle.calls.proofs.Laws.Writing.{rest_next}

-- a row's record, written in three parts: a is the buffer after the first, b after the second
module _ (o a b w v : List ℕ) (n l : ℕ) (js ks : List ℕ) (long : length (take n js) ≡ n) where
  pub row_written : a ≡ (RW ++ (l ∷ [])) ++ drop 3 o → w ≡ take n js ++ drop n (take (length a - 3) (drop 3 a))
      → b ≡ take 3 a ++ (w ++ drop (length a - 3) (drop 3 a)) → v ≡ take n ks ++ drop n (take (length b - (3 + n)) (drop (3 + n) b))
      → take (3 + n) b ++ (v ++ drop (length b - (3 + n)) (drop (3 + n) b))
      ≡ row_bytes (record { location = l; intervals = take n js; ranks = take n ks }) ++ drop (row_width n) o
  row_written e f g h =
      let two : 3 + n + n ≡ row_width n = omega (arith, row_width_is n) in
      let after : b ≡ ((RW ++ (l ∷ [])) ++ take n js) ++ drop (3 + n) o = g ∙ rest_next (RW ++ (l ∷ [])) o a w (take n js) 3 n refl e f in
      rest_next ((RW ++ (l ∷ [])) ++ take n js) o b v (take n ks) (3 + n) n (omega arith) after h ∙ rw two
