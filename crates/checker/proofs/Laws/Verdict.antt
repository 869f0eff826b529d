-- What the program prints, from the answers. Assumes nothing.
use Prim.Native.Nat.{ℕ}
use Prim.Native.String.{String}
use native.Mathlib.Omega.{arith}
use mathlib.Core.Path.{◌≡◌, refl, sym, ◌∙◌}
use mathlib.Core.Bool.{Bool, true, false, cond}
use mathlib.Core.List.{List, [], ◌∷◌}
use lib.ListN.{length, take}
use lib.Dec.{eqb}
use borrow.Author.Tests.{le-leb}
use Rattle.automata.specs.Checks.{same}
use Rattle.table_files.specs.Bytes.{RN}
use Rattle.table_files.specs.Records.{part_at, record_at}
use Rattle.table_files.proofs.Laws.Records.{mark_short}
use Rattle.calls.specs.Program.{line_for, printed_line}
use Rattle.calls.proofs.Laws.Prefix.{printed_prefix}

-- the record of two bytes is there just if the file begins with the mark
pub marked : (file : List ℕ) → eqb (length (record_at file 0 2 RN)) 2 ≡ same RN (take 2 file)
unfolding record_at part_at
marked [] = refl
marked (x ∷ []) = sym (mark_short RN (x ∷ []) refl (omega arith))
marked (x ∷ (y ∷ file)) = rw (le-leb 2 (length (x ∷ (y ∷ file))) (omega arith)) (go (same RN (x ∷ (y ∷ []))))
  where
    go : (b : Bool) → eqb (length (cond b (x ∷ (y ∷ [])) [])) 2 ≡ b
    go true = refl
    go false = refl

module _ (table file : List ℕ) (line : String) where
  -- the files themselves, and files that begin so
  abbrev pub Told : Type 0
  Told = (line ≡ printed_line table file) × ((t p : List ℕ) → table ≡ take 65536 t → file ≡ take 65536 p → line ≡ printed_line t p)

  pub told : (run : Bool) → same RN (take 2 file) ≡ run → line ≡ line_for run table file → Told
  told run e h =
      let h' : line ≡ printed_line table file = rw e h in
      (h', λ t p e f. h' ∙ (λ i. printed_line (e i) (f i)) ∙ printed_prefix t p)

-- the line of two files is that of files that begin so
pub longer : (table file : List ℕ) (line : String) → line ≡ printed_line table file
    → (t p : List ℕ) → table ≡ take 65536 t → file ≡ take 65536 p → line ≡ printed_line t p
longer table file line h t p e f = h ∙ (λ i. printed_line (e i) (f i)) ∙ printed_prefix t p
