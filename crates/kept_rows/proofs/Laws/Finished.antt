-- The header and the marks of a list, written over what stood there. Assumes nothing.
use Prim.Native.Nat.{ℕ, ◌+◌, ◌*◌, ◌≤◌, ◌<◌}
use native.Mathlib.Numerals.{add-one}
use native.Mathlib.Nat.{zero-mul, add-mul, one-mul}
use native.Mathlib.Omega.{arith}
use mathlib.Core.Path.{◌≡◌, refl, sym, ap, ◌∙◌}
use mathlib.Core.List.{List, [], ◌∷◌, ◌++◌, map, append_assoc, append-nil, map-append}
use lib.ListN.{length, take, drop, length-append, length-drop, take-append-drop}
use lib.Seq.{paste, length-take-le, take_at, drop_at, drop-drop, drop-append-le}
use Rattle.automata.specs.Row.{Row}
use Rattle.automata.specs.Rows.{from}
use Rattle.table_files.specs.Bytes.{RL, RW, two_bytes}
use Rattle.table_records.proofs.Laws.Loops.{from_last}
use Rattle.calls.specs.RegionFile.{row_width, row_bytes, rows_bytes, list_bytes}
use Rattle.calls.proofs.Laws.Rows.{row_width_is}
use Rattle.listed_rows.specs.Listed.{listed_bytes, listed_row, listed_rows}
use Rattle.listed_rows.proofs.Laws.Listed.{listed_length, row_room}
use Rattle.listed_rows.proofs.Laws.ListedNumbers.{bytes_long}
use Rattle.kept_rows.proofs.Laws.Parts.{drop_past}
use Rattle.kept_rows.proofs.Laws.RowBytes.{bytes_after_mark}

-- one row more --------------------------------------------------------------------------------------------------------------------------

rows_more : (rows : List Row) (r : Row) → rows_bytes (rows ++ (r ∷ [])) ≡ rows_bytes rows ++ row_bytes r
rows_more [] r = append-nil (row_bytes r)
rows_more (s ∷ rows) r = ap (λ (l : List ℕ). row_bytes s ++ l) (rows_more rows r) ∙ sym (append_assoc (row_bytes s) (rows_bytes rows) (row_bytes r))

listed_more : (n : ℕ) (list : List ℕ) (i : ℕ) → listed_rows n list (i + 1) ≡ listed_rows n list i ++ (listed_row n list i ∷ [])
unfolding listed_rows
listed_more n list i =
    let e : 0 + i ≡ i = omega arith in
    ap (λ (k : ℕ). map (listed_row n list) (from 0 k)) (add-one i)
    ∙ ap (map (listed_row n list)) (from_last 0 i ∙ (λ j. from 0 i ++ (e j ∷ [])))
    ∙ map-append (listed_row n list) (from 0 i) (i ∷ [])

-- the marks -----------------------------------------------------------------------------------------------------------------------------

-- out is o with the first i rows' marks written
pub record Marked (n : ℕ) (o : List ℕ) (count i : ℕ) (out : List ℕ) : Type 0 where
  pub within : i ≤ count
  pub width : length (rows_bytes (listed_rows n o i)) ≡ i * row_width n
  pub bytes : out ≡ (take 4 o ++ rows_bytes (listed_rows n o i)) ++ drop (4 + i * row_width n) o
  pub same_length : length out ≡ length o

pub marked_none : (n : ℕ) (o : List ℕ) (count : ℕ) → Marked n o count 0 o
unfolding listed_rows
marked_none n o count =
    let z : 4 ≡ 4 + 0 * row_width n = omega (arith, zero-mul (row_width n)) in
    record {
      within = omega arith;
      width = sym (zero-mul (row_width n));
      bytes = sym (take-append-drop 4 o) ∙ (λ i. sym (append-nil (take 4 o)) i ++ drop (z i) o);
      same_length = refl;
    }

module _ (n : ℕ) (o : List ℕ) (count i : ℕ) (out : List ℕ) (M : Marked n o count i out) where
  abbrev place : ℕ
  place = 4 + i * row_width n

  abbrev marked : List ℕ
  marked = take 4 o ++ rows_bytes (listed_rows n o i)

  module _ (room : 4 + count * row_width n ≤ length o) (more : i < count) where
    -- the next row is there
    pub next_room : 4 + i * row_width n + row_width n ≤ length out
    next_room = omega (arith, row_room (row_width n) count i (length o) room more, M.same_length)

    long : length marked ≡ place
    long = omega (arith, length-append (take 4 o) (rows_bytes (listed_rows n o i)), length-take-le 4 o (omega arith), M.width)

    further : place + row_width n ≡ 4 + (i + 1) * row_width n
    further = omega (arith, add-mul i 1 (row_width n), one-mul (row_width n))

    abbrev row : List ℕ
    row = listed_bytes n o i

    row_long : length row ≡ row_width n
    row_long = bytes_long n o i (omega (arith, next_room, M.same_length)) ∙ sym (row_width_is n)

    split : drop place o ≡ row ++ drop (4 + (i + 1) * row_width n) o
    split =
        sym (take-append-drop (row_width n) (drop place o))
        ∙ ap (λ (l : List ℕ). row ++ l) (drop-drop (row_width n) place o ∙ ap (λ (k : ℕ). drop k o) further)

    row_is : row_bytes (listed_row n o i) ≡ RW ++ drop 2 row
    unfolding listed_row
    row_is = bytes_after_mark n row row_long

    wrote : take place out ++ (RW ++ drop (place + 2) out) ≡ (marked ++ row_bytes (listed_row n o i)) ++ drop (4 + (i + 1) * row_width n) o
    wrote =
        let later : List ℕ = drop (4 + (i + 1) * row_width n) o in
        (λ j. take place (M.bytes j) ++ (RW ++ drop (place + 2) (M.bytes j)))
        ∙ (λ j. take_at marked (drop place o) place long j ++ (RW ++ drop_past marked (drop place o) place 2 long j))
        ∙ ap (λ (l : List ℕ). marked ++ (RW ++ drop 2 l)) split
        ∙ ap (λ (l : List ℕ). marked ++ (RW ++ l)) (drop-append-le 2 row later (omega (arith, row_long, row_width_is n)))
        ∙ ap (λ (l : List ℕ). marked ++ (l ++ later)) (sym row_is)
        ∙ sym (append_assoc marked (row_bytes (listed_row n o i)) later)

    rows_are : rows_bytes (listed_rows n o (i + 1)) ≡ rows_bytes (listed_rows n o i) ++ row_bytes (listed_row n o i)
    rows_are = ap rows_bytes (listed_more n o i) ∙ rows_more (listed_rows n o i) (listed_row n o i)

    pub marked_next : Marked n o count (i + 1) (take place out ++ (RW ++ drop (place + 2) out))
    marked_next = record {
      within = omega arith;
      width =
          ap length rows_are
          ∙ omega (arith, length-append (rows_bytes (listed_rows n o i)) (row_bytes (listed_row n o i)), ap length row_is, length-drop 2 row, row_long, M.width, further, row_width_is n);
      bytes =
          wrote
          ∙ ap (λ (l : List ℕ). l ++ drop (4 + (i + 1) * row_width n) o)
          (append_assoc (take 4 o) (rows_bytes (listed_rows n o i)) (row_bytes (listed_row n o i)) ∙ ap (λ (l : List ℕ). take 4 o ++ l) (sym rows_are));
      same_length = simp (length-append, length-drop) (omega (arith, length-take-le place out (omega (arith, next_room)), next_room, row_width_is n, M.same_length));
    }

-- the same, of a width w that the code has computed
module _ (n : ℕ) (o : List ℕ) (count i : ℕ) (out : List ℕ) (M : Marked n o count i out) (room : 4 + count * row_width n ≤ length o) (more : i < count) (w : ℕ) (e : w ≡ row_width n) where
  pub mark_room : 4 + i * w + 3 ≤ length out
  mark_room = rw e (omega (arith, next_room n o count i out M room more, row_width_is n))

  pub mark_next : (next : List ℕ) → next ≡ paste out (4 + i * w) RW 2 → Marked n o count (i + 1) next
  mark_next next q = rw (q, append_assoc) (rw e (marked_next n o count i out M room more))

-- the whole list ------------------------------------------------------------------------------------------------------------------------

-- a is the buffer after the marks, b after the header
pub list_finished : (n : ℕ) (o a b : List ℕ) (count : ℕ) → 4 ≤ length o → a ≡ (take 4 o ++ rows_bytes (listed_rows n o count)) ++ drop (4 + count * row_width n) o
    → b ≡ (RL ++ two_bytes count) ++ drop 4 a → b ≡ list_bytes (listed_rows n o count) ++ drop (4 + count * row_width n) o
list_finished n o a b count h e f =
    let rows : List ℕ = rows_bytes (listed_rows n o count) in
    let later : List ℕ = drop (4 + count * row_width n) o in
    f
    ∙ ap (λ (l : List ℕ). (RL ++ two_bytes count) ++ drop 4 l) (e ∙ append_assoc (take 4 o) rows later)
    ∙ ap (λ (l : List ℕ). (RL ++ two_bytes count) ++ l) (drop_at (take 4 o) (rows ++ later) 4 (length-take-le 4 o h))
    ∙ ap (λ (k : ℕ). (RL ++ two_bytes k) ++ (rows ++ later)) (sym (listed_length n o count))
