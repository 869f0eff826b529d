-- From the bytes that the code leaves to a row in its place. Assumes nothing.
use Prim.Native.Nat.{ℕ, suc, ◌+◌, ◌*◌, ◌-◌, ◌/◌, ◌%◌, ◌≤◌, ◌<◌}
use native.Mathlib.Nat.{suc-mul, add-mul, mul-le-mul_right}
use native.Mathlib.Numerals.{add-one}
use native.Mathlib.Omega.{arith}
use mathlib.Core.Path.{◌≡◌, sym, ap, subst, ◌∙◌}
use mathlib.Core.List.{List, ◌∷◌, ◌++◌, append_assoc}
use lib.ListN.{length, take, drop, length-append, length-drop, take-append-drop}
use lib.Seq.{length-take-le, take-append-le, take_at, drop_at, drop-drop, take-take}
use Rattle.automata.specs.Clocks.{at}
use Rattle.automata.specs.Row.{Row, IsRow}
use Rattle.regions.specs.Values.{bounds_of, row_of}
use Rattle.regions.specs.declared.clocks.Clocks.{Clocks}
use Rattle.regions.specs.declared.region.Region.{Region}
use Rattle.regions.proofs.Laws.Values.{at_take}
use Rattle.table_files.specs.Bytes.{two, two_bytes}
use Rattle.calls.specs.RegionFile.{row_in, row_width, row_bytes}
use Rattle.calls.proofs.Laws.Rows.{row_width_is}
use Rattle.calls.proofs.Laws.Writing.{rest_next}
use Rattle.listed_rows.specs.Listed.{listed_bytes, listed_row}
use Rattle.listed_rows.proofs.Laws.Listed.{row_room}
use Rattle.std.specs.List.{copy_within}
use Rattle.kept_rows.specs.Births.{birth}
use Rattle.kept_rows.specs.Inserted.{RowIs, SameRow, Inserted}
use Rattle.kept_rows.proofs.Laws.Parts.{part_within, drop_past}
use Rattle.kept_rows.proofs.Laws.RowBytes.{row_after}

-- rows with the same bytes are the same, and so are their births
same_bytes : (n : ℕ) (after before : List ℕ) (i j : ℕ) → listed_bytes n after i ≡ listed_bytes n before j → SameRow n after i before j
unfolding listed_row birth
same_bytes n after before i j e = (ap (row_in n) e, ap (λ (b : List ℕ). two b 0) e)

-- a row put into its place --------------------------------------------------------------------------------------------------------------

module _ (n : ℕ) (o : List ℕ) (count m : ℕ) (row : Row) where
  abbrev size : ℕ
  size = row_width n

  abbrev start : ℕ
  start = 4 + m * size

  abbrev end : ℕ
  end = 4 + count * size

  -- its bytes, with its birth for its mark
  abbrev new : List ℕ
  new = two_bytes count ++ (row.location ∷ (row.intervals ++ row.ranks))

  -- those of the rows that stand above it
  abbrev higher : List ℕ
  higher = take (end - start) (drop start o)

  -- all that stands after it
  abbrev later : List ℕ
  later = higher ++ drop (end + size) o

  abbrev with_row : List ℕ
  with_row = take start o ++ (new ++ later)

  module _ (within : m ≤ count) (room : 4 + suc count * row_width n ≤ length o) (p : length row.intervals ≡ n) (q : length row.ranks ≡ n) where
    order : m * size ≤ count * size
    order = mul-le-mul_right size within

    long_front : length (take start o) ≡ start
    long_front = length-take-le start o (omega (arith, order, suc-mul count size))

    long_new : length new ≡ size
    long_new = omega (arith, row_width_is n, length-append row.intervals row.ranks)

    long_higher : length higher ≡ end - start
    long_higher = length-take-le (end - start) (drop start o) (simp length-drop (omega (arith, order, suc-mul count size)))

    lower_stays : (i : ℕ) → i < m → listed_bytes n with_row i ≡ listed_bytes n o i
    lower_stays i h =
        part_within (take start o) (new ++ later) (drop start o) (4 + i * size) size
        (omega (arith, long_front, row_room size m i start (omega arith) h))
        ∙ ap (λ (b : List ℕ). take size (drop (4 + i * size) b)) (take-append-drop start o)

    stands_here : listed_bytes n with_row m ≡ new
    stands_here =
        ap (take size) (drop_at (take start o) (new ++ later) start long_front)
        ∙ take_at new later size long_new

    higher_moves : (j : ℕ) → m + j < count → listed_bytes n with_row (suc (m + j)) ≡ listed_bytes n o (m + j)
    higher_moves j h =
        let up : 4 + suc (m + j) * size ≡ start + (size + j * size) = omega (arith, suc-mul (m + j) size, add-mul m j size) in
        let here : start + j * size ≡ 4 + (m + j) * size = omega (arith, add-mul m j size) in
        ap (λ (k : ℕ). take size (drop k with_row)) up
        ∙ ap (take size) (drop_past (take start o) (new ++ later) start (size + j * size) long_front)
        ∙ ap (take size) (drop_past new later size (j * size) long_new)
        ∙ part_within higher (drop (end + size) o) (drop (end - start) (drop start o)) (j * size) size
        (omega (arith, long_higher, row_room size count (m + j) end (omega arith) h, add-mul m j size, order))
        ∙ ap (λ (b : List ℕ). take size (drop (j * size) b)) (take-append-drop (end - start) (drop start o))
        ∙ ap (take size) (drop-drop (j * size) start o)
        ∙ ap (λ (k : ℕ). take size (drop k o)) here

    rest_stays : drop (4 + suc count * size) with_row ≡ drop (4 + suc count * size) o
    rest_stays =
        let up : 4 + suc count * size ≡ start + (size + (end - start)) = omega (arith, suc-mul count size, order) in
        let here : end + size ≡ 4 + suc count * size = omega (arith, suc-mul count size) in
        ap (λ (k : ℕ). drop k with_row) up
        ∙ drop_past (take start o) (new ++ later) start (size + (end - start)) long_front
        ∙ drop_past new later size (end - start) long_new
        ∙ drop_at higher (drop (end + size) o) (end - start) long_higher
        ∙ ap (λ (k : ℕ). drop k o) here

    long : length with_row ≡ length o
    long =
        omega (
          arith,
          length-append (take start o) (new ++ later),
          length-append new later,
          length-append higher (drop (end + size) o),
          length-drop (end + size) o,
          long_front,
          long_new,
          long_higher,
          order,
          suc-mul count size,
        )

    here_row : RowIs n with_row m row count
    unfolding listed_row birth
    here_row = (
      ap (row_in n) stands_here ∙ row_after (count / 256) (count % 256) row n p q,
      ap (λ (b : List ℕ). two b 0) stands_here ∙ omega arith,
    )

    with_row_inserted : Inserted n o count m row with_row
    with_row_inserted = record {
      within = within;
      same_length = long;
      lower = λ i h. same_bytes n with_row o i i (lower_stays i h);
      here = here_row;
      upper = λ i h l.
          let e : i ≡ m + (i - m) = omega arith in
          rw e (same_bytes n with_row o (suc (m + (i - m))) (m + (i - m)) (higher_moves (i - m) (omega arith)));
      rest = rest_stays;
    }

    -- a is the buffer after the shift, b after the row was written to the front v of its rest, c after the birth
    left_behind : (a b c v : List ℕ) → a ≡ copy_within o start end (start + size) → v ≡ row_bytes row ++ drop size (take (length a - start) (drop start a))
        → b ≡ take start a ++ (v ++ drop (length a - start) (drop start a)) → c ≡ take start b ++ (two_bytes count ++ drop (start + 2) b) → c ≡ with_row
    left_behind a b c v f g h k =
        k
        ∙ (λ i. take start (wrote i) ++ (two_bytes count ++ drop (start + 2) (wrote i)))
        ∙ (λ i. take_at (take start o) (row_bytes row ++ later) start long_front i ++ (two_bytes count ++ drop_past (take start o) (row_bytes row ++ later) start 2 long_front i))
      where
        moved : a ≡ take (start + size) o ++ later
        moved = let e : start + size + (end - start) ≡ end + size = omega (arith, order) in f ∙ append_assoc (take (start + size) o) higher (drop (start + size + (end - start)) o) ∙ ap (λ (k : ℕ). take (start + size) o ++ (higher ++ drop k o)) e

        front : take start a ≡ take start o
        front =
            ap (take start) moved
            ∙ take-append-le start (take (start + size) o) later (omega (arith, length-take-le (start + size) o (omega (arith, order, suc-mul count size))))
            ∙ take-take start (start + size) o (omega arith)

        back : drop (start + size) a ≡ later
        back = ap (drop (start + size)) moved ∙ drop_at (take (start + size) o) later (start + size) (length-take-le (start + size) o (omega (arith, order, suc-mul count size)))

        wrote : b ≡ take start o ++ (row_bytes row ++ later)
        wrote =
            h
            ∙ rest_next (take start a) a a v (row_bytes row) start size (ap length front ∙ long_front) (sym (take-append-drop start a)) g
            ∙ append_assoc (take start a) (row_bytes row) (drop (start + size) a)
            ∙ (λ i. front i ++ (row_bytes row ++ back i))

    -- the same, of a width that the code has computed
    pub inserted_by : (w : ℕ) → w ≡ row_width n → (a b c v : List ℕ) → a ≡ copy_within o (4 + m * w) (4 + count * w) (4 + m * w + w)
        → v ≡ row_bytes row ++ drop (row_width n) (take (length a - (4 + m * w)) (drop (4 + m * w) a))
        → b ≡ take (4 + m * w) a ++ (v ++ drop (length a - (4 + m * w)) (drop (4 + m * w) a))
        → c ≡ take (4 + m * w) b ++ (two_bytes count ++ drop (4 + m * w + 2) b) → Inserted n o count m row c
    inserted_by w e a b c v =
        subst (λ (w : ℕ). a ≡ copy_within o (4 + m * w) (4 + count * w) (4 + m * w + w)
        → v ≡ row_bytes row ++ drop (row_width n) (take (length a - (4 + m * w)) (drop (4 + m * w) a))
        → b ≡ take (4 + m * w) a ++ (v ++ drop (length a - (4 + m * w)) (drop (4 + m * w) a))
        → c ≡ take (4 + m * w) b ++ (two_bytes count ++ drop (4 + m * w + 2) b) → Inserted n o count m row c)
        (sym e) (λ f g h k. rw (left_behind a b c v f g h k) with_row_inserted)

-- what the code asks for ------------------------------------------------------------------------------------------------------------------

-- there is room to move the rows, and for the new one; w is the width that the code has computed
pub insert_room : (n count m len w : ℕ) → w ≡ row_width n → m ≤ count → 4 + (count + 1) * row_width n ≤ len → (m * w ≤ count * w) × (4 + count * w + w ≤ len) × (4 + suc count * row_width n ≤ len)
insert_room n count m len w e h room =
    let all : 4 + suc count * row_width n ≤ len = rw (← add-one count) room in
    (mul-le-mul_right w h, rw e (omega (arith, suc-mul count (row_width n))), all)

-- the intervals of a row are bytes
pub byte_intervals : (k : Clocks) (r : Region) → length (bounds_of k) ≡ k.count → ((z : ℕ) → z < k.count → at k.bounds z ≤ 127) → IsRow (bounds_of k) (row_of k.count r)
    → (z : ℕ) → z < k.count → at r.intervals z < 256
byte_intervals k r sized low R z h =
    omega (arith, R.in_range z (omega (arith, sized)), at_take k.count r.intervals z h, at_take k.count k.bounds z h, low z h)
