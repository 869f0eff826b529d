-- A row's bytes, whatever its mark. Assumes nothing.
use Prim.Native.Nat.{ℕ, ◌+◌, ◌*◌, ◌<◌}
use native.Mathlib.Omega.{arith}
use mathlib.Core.Path.{◌≡◌, sym, ap, ◌∙◌}
use mathlib.Core.List.{List, [], ◌∷◌, ◌++◌, append-nil}
use lib.ListN.{length, drop, drop_of_length-le, get_or-append}
use lib.Seq.{get_or-append-add, get_or-take, get_or-drop}
use Rattle.automata.specs.Clocks.{at, each}
use Rattle.automata.specs.Row.{Row}
use Rattle.table_files.specs.Bytes.{RW, two}
use Rattle.table_files.proofs.Laws.Bytes.{byte_next, bytes_next, each_at}
use Rattle.calls.specs.RegionFile.{row_in, row_width, row_bytes}
use Rattle.calls.proofs.Laws.Rows.{row_width_is}
use Rattle.listed_rows.specs.Listed.{listed_bytes}
use Rattle.kept_rows.specs.Births.{birth}

-- a row's numbers, written after any two bytes, are read back
pub row_after : (x y : ℕ) (r : Row) (n : ℕ) → length r.intervals ≡ n → length r.ranks ≡ n → row_in n (x ∷ (y ∷ (r.location ∷ (r.intervals ++ r.ranks)))) ≡ r
row_after x y r n p q = λ i. record { location = r.location; intervals = js i; ranks = ks i }
  where
    b : List ℕ
    b = x ∷ (y ∷ (r.location ∷ (r.intervals ++ r.ranks)))

    js : each n (λ (z : ℕ). at b (3 + z)) ≡ r.intervals
    js =
        rw (← p) (each_at r.intervals (λ (z : ℕ). at b (3 + z)) (λ z l.
        get_or-append-add (x ∷ y ∷ r.location ∷ []) (r.intervals ++ r.ranks) z 0 ∙ get_or-append r.intervals r.ranks 0 z l))

    ks : each n (λ (z : ℕ). at b (3 + n + z)) ≡ r.ranks
    ks =
        rw (← q) (each_at r.ranks (λ (z : ℕ). at b (3 + length r.ranks + z)) (λ z l.
        let e : 3 + length r.ranks + z ≡ length (x ∷ y ∷ r.location ∷ r.intervals) + z = omega arith in
        ap (at b) e ∙ get_or-append-add (x ∷ y ∷ r.location ∷ r.intervals) r.ranks z 0))

-- the record of the row in some bytes has its mark and then these bytes
pub bytes_after_mark : (n : ℕ) (b : List ℕ) → length b ≡ row_width n → row_bytes (row_in n b) ≡ RW ++ drop 2 b
bytes_after_mark n b e = ap (λ (l : List ℕ). RW ++ l) (sym (
    byte_next b 2 (omega (arith, row_width_is n))
    ∙ ap (λ (l : List ℕ). at b 2 ∷ l) (bytes_next b 3 n (omega (arith, row_width_is n)))
    ∙ ap (λ (l : List ℕ). at b 2 ∷ ((row_in n b).intervals ++ l)) (bytes_next b (3 + n) n (omega (arith, row_width_is n)))
    ∙ ap (λ (l : List ℕ). at b 2 ∷ ((row_in n b).intervals ++ ((row_in n b).ranks ++ l))) (drop_of_length-le b {i = 3 + n + n} (omega (arith, row_width_is n)))
    ∙ ap (λ (l : List ℕ). at b 2 ∷ ((row_in n b).intervals ++ l)) (append-nil (row_in n b).ranks)))

-- a row's birth is read where its bytes begin
pub birth_read : (n : ℕ) (list : List ℕ) (i w : ℕ) → w ≡ row_width n → two list (4 + i * w) ≡ birth n list i
unfolding birth
birth_read n list i w e = ap (λ (w : ℕ). two list (4 + i * w)) e ∙ sym (λ j. high j * 256 + low j)
  where
    byte : (z : ℕ) → z < row_width n → at (listed_bytes n list i) z ≡ at list (4 + i * row_width n + z)
    byte z h = get_or-take (row_width n) (drop (4 + i * row_width n) list) z 0 h ∙ get_or-drop (4 + i * row_width n) list z 0

    high : at (listed_bytes n list i) 0 ≡ at list (4 + i * row_width n)
    high = let z : 4 + i * row_width n + 0 ≡ 4 + i * row_width n = omega arith in byte 0 (omega (arith, row_width_is n)) ∙ ap (at list) z

    low : at (listed_bytes n list i) 1 ≡ at list (4 + i * row_width n + 1)
    low = byte 1 (omega (arith, row_width_is n))
