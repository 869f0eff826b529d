-- Reading a region list record by record, as the code does. Assumes nothing.
use Prim.Native.Nat.{ℕ, zero, suc, ◌+◌, ◌*◌, ◌-◌, ◌≤◌, ◌<◌}
use native.Mathlib.Nat.{zero-add, add-zero, add-mul, one-mul, sub-zero, mul-le-mul_right}
use native.Mathlib.Omega.{arith}
use mathlib.Core.Path.{◌≡◌, refl, sym, ap, subst, ◌∙◌}
use mathlib.Core.Bool.{true}
use mathlib.Core.List.{List, [], ◌∷◌, ◌++◌, map, append_assoc, append-nil}
use lib.ListN.{length, take, drop, length-append, length-drop}
use lib.Seq.{take_at, drop_at, drop-drop}
use lib.Dec.{leb}
use borrow.Author.Tests.{le-leb, lt-leb}
use Rattle.automata.specs.Row.{Row}
use Rattle.automata.specs.Automaton.{Table, clocks}
use Rattle.automata.specs.Rows.{from}
use Rattle.table_files.specs.Bytes.{RL, RW, two}
use Rattle.table_files.specs.Records.{record_at}
use Rattle.table_files.specs.Reading.{Read, good, bad, carry, done, require, next_record, records, end}
use Rattle.table_files.proofs.Laws.Reading.{parts, tested, took_record}
use Rattle.calls.proofs.Laws.Rows.{row_width_is}
use Rattle.calls.specs.RegionFile.{row_width, row_in, row_record, region_file, rows_read, rows_of}
use Rattle.listed_rows.specs.Listed.{listed_row, listed_rows}
use Rattle.calls.proofs.Laws.RecordReads.{record_missing, record_there, record_length}
use Rattle.listed_rows.proofs.Laws.Listed.{listed_length}
use Rattle.regions.specs.declared.region.Region.{Region}
use Rattle.rows.specs.Row.{ReadsRow}
use Rattle.std.specs.Prelude.{Result, Ok, Err, MatchResult, IsErrAnd}
use Rattle.table_records.specs.Refusal.{number_of}
use Rattle.table_records.specs.declared.refusal.Fault.{Fault}
use Rattle.table_records.specs.declared.refusal.Refusal.{Refusal}

-- how the reading of a row ended -----------------------------------------------------------------------------------------------------

-- a row was read; or the reader's fault, at a place
module _ (T : Table) (file : List ℕ) (p place : ℕ) where
  abbrev pub RowTold : Result Region Refusal → Type 0
  RowTold (Ok region) = ReadsRow T file p (Ok region)
  RowTold (Err e) = row_record T place (drop p file) ≡ bad (number_of e.fault) e.place

  pub told_by : {P : Fault → Refusal → Type 0} (s : Result Region Fault) (t : Result Region Refusal) → ReadsRow T file p s → MatchResult s (λ region. t ≡ Ok region) (λ fault. IsErrAnd t (P fault))
      → ((fault : Fault) (e : Refusal) → P fault e → e ≡ record { fault = fault; place = place }) → RowTold t
  told_by (Ok region) t R h k = subst RowTold (sym h) R
  told_by (Err fault) (Ok region) R h k = absurd h
  told_by (Err fault) (Err e) R h k = rw (k fault e h) (R place)

-- the rows -------------------------------------------------------------------------------------------------------------------------

-- so many of the row records are read: what is left to read, and the position it starts at
pub record RowsSoFar (T : Table) (list : List ℕ) (count p i : ℕ) : Type 0 where
  pub few : i ≤ count
  pub position : p ≡ 4 + i * row_width (clocks T)
  pub low : p ≤ 4 + 11 * i
  pub front : List Row
  pub so_far : records (row_record T) 1 count (drop 4 list) ≡ carry (records (row_record T) (i + 1) (count - i) (drop p list)) (λ more. done (front ++ more))

carry_done : (r : Read (List Row)) → r ≡ carry r (λ more. done more)
unfolding carry
carry_done (good rows rest) = refl
carry_done (bad number place) = refl

carry_twice : (r : Read (List Row)) (front : List Row) (a : Row)
    → carry (carry r (λ more. done (a ∷ more))) (λ more. done (front ++ more)) ≡ carry r (λ more. done ((front ++ (a ∷ [])) ++ more))
unfolding carry
carry_twice (good more rest) front a = ap (λ (rows : List Row). good rows rest) (sym (append_assoc front (a ∷ []) more))
carry_twice (bad number place) front a = refl

pub rows_begin : (T : Table) (list : List ℕ) (count : ℕ) → RowsSoFar T list count 4 0
rows_begin T list count = record {
  few = omega arith;
  position = omega arith;
  low = omega arith;
  front = [];
  so_far = rw sub-zero (carry_done (records (row_record T) 1 count (drop 4 list)));
}

module _ (T : Table) (list : List ℕ) (count p i : ℕ) (S : RowsSoFar T list count p i) where
  module _ (l : i < count) where
    -- one record more
    pub rows_on : (row : Row) (w : ℕ) → w ≡ row_width (clocks T) → clocks T ≤ 4 → row_record T (i + 1) (drop p list) ≡ good row (drop (p + row_width (clocks T)) list)
        → RowsSoFar T list count (p + w) (i + 1)
    unfolding records carry
    rows_on row w e few h =
        let q : count - i ≡ suc (count - (i + 1)) = omega arith in
        record {
          few = omega arith;
          position = rw (add-mul, one-mul) (omega (arith, S.position));
          low = omega (arith, S.low, row_width_is (clocks T));
          front = S.front ++ (row ∷ []);
          so_far = S.so_far ∙ rw (q, h, e) (carry_twice (records (row_record T) (i + 1 + 1) (count - (i + 1)) (drop (p + row_width (clocks T)) list)) S.front row);
        }

    -- the first that is refused refuses them all
    pub rows_refused : (number place : ℕ) → row_record T (i + 1) (drop p list) ≡ bad number place → records (row_record T) 1 count (drop 4 list) ≡ bad number place
    unfolding records carry
    rows_refused number place h = let q : count - i ≡ suc (count - (i + 1)) = omega arith in S.so_far ∙ rw (q, h)

  -- all are read
  pub rows_all : count ≤ i → records (row_record T) 1 count (drop 4 list) ≡ good S.front (drop p list)
  unfolding records carry
  rows_all h =
      let q : count - i ≡ 0 = omega arith in
      S.so_far ∙ rw q (ap (λ (rows : List Row). good rows (drop p list)) (append-nil S.front))

-- what was read stands in the file, record after record ---------------------------------------------------------------------------------

row_there : (T : Table) (place : ℕ) (f : List ℕ) (r : Row) (left : List ℕ) → row_record T place f ≡ good r left
    → (row_width (clocks T) ≤ length f) × (r ≡ row_in (clocks T) (take (row_width (clocks T)) f)) × (left ≡ drop (row_width (clocks T)) f)
unfolding row_record
row_there T place f r left h =
    parts _ _ h λ b f1 e1 h1.
    tested _ _ _ _ _ h1 λ t2 h2.
    tested _ _ _ _ _ h2 λ t3 h3.
    let x : row_in (clocks T) b ≡ r = cc in
    let y : f1 ≡ left = cc in
    let (k, m) = took_record 7 place RW (row_width (clocks T)) f e1 in (
      omega (arith, k.sized, simp length-append at (ap length k.whole)),
      sym x ∙ ap (row_in (clocks T)) (sym (ap (take (row_width (clocks T))) k.whole ∙ take_at b f1 (row_width (clocks T)) k.sized)),
      sym y ∙ sym (ap (drop (row_width (clocks T))) k.whole ∙ drop_at b f1 (row_width (clocks T)) k.sized),
    )

-- n rows from row i on
rows_there : (T : Table) (list : List ℕ) (place n i : ℕ) (rows : List Row) (rest : List ℕ) → 4 + i * row_width (clocks T) ≤ length list
    → records (row_record T) place n (drop (4 + i * row_width (clocks T)) list) ≡ good rows rest
    → (rows ≡ map (listed_row (clocks T) list) (from i n)) × (4 + (i + n) * row_width (clocks T) ≤ length list) × (rest ≡ drop (4 + (i + n) * row_width (clocks T)) list)
unfolding records listed_row
rows_there T list place zero i rows rest room h =
    let x : [] ≡ rows = cc in
    let y : drop (4 + i * row_width (clocks T)) list ≡ rest = cc in
    rw (add-zero i) (sym x, room, sym y)
rows_there T list place (suc n) i rows rest room h =
    parts _ _ h λ a f1 e1 h1.
    parts _ _ h1 λ more f2 e2 h2.
    let x : a ∷ more ≡ rows = cc in
    let y : f2 ≡ rest = cc in
    let w : ℕ = row_width (clocks T) in
    let (fits, row, left) = row_there T place (drop (4 + i * w) list) a f1 e1 in
    let next : 4 + i * w + w ≡ 4 + (i + 1) * w = rw (add-mul, one-mul) (omega arith) in
    let f1_is : f1 ≡ drop (4 + (i + 1) * w) list = left ∙ drop-drop w (4 + i * w) list ∙ ap (λ (k : ℕ). drop k list) next in
    let room1 : 4 + (i + 1) * w ≤ length list = rw (← next) (omega (arith, length-drop (4 + i * w) list, fits)) in
    let (ms, room2, rest2) = rows_there T list (place + 1) n (i + 1) more f2 room1 (rw f1_is at e2) in
    let count : i + 1 + n ≡ i + suc n = omega arith in
    rw (← count, ← x, ← y) (λ j. row j ∷ ms j, room2, rest2)

abbrev pub RowsThere : Table → List ℕ → ℕ → List Row → List ℕ → Type 0
RowsThere T list n rows rest =
    (rows ≡ listed_rows (clocks T) list n) × (4 + n * row_width (clocks T) ≤ length list) × (rest ≡ drop (4 + n * row_width (clocks T)) list)

pub all_there : (T : Table) (list : List ℕ) (n : ℕ) (rows : List Row) (rest : List ℕ) → 4 ≤ length list
    → records (row_record T) 1 n (drop 4 list) ≡ good rows rest → RowsThere T list n rows rest
unfolding listed_rows
all_there T list n rows rest room h =
    let start : 4 + 0 * row_width (clocks T) ≡ 4 = omega arith in
    rw zero-add at (rows_there T list 1 n 0 rows rest (rw start room) (rw start h))

-- the file -----------------------------------------------------------------------------------------------------------------------------

end_more : (number place : ℕ) (f : List ℕ) → 0 < length f → end number place f ≡ bad number place
unfolding end
end_more number place [] h = absurd (omega arith)
end_more number place (x ∷ f) h = refl

end_none : (number place : ℕ) (f : List ℕ) → length f ≡ 0 → end number place f ≡ good tt f
unfolding end
end_none number place [] h = refl
end_none number place (x ∷ f) h = absurd (omega arith)

module _ (T : Table) (list : List ℕ) where
  abbrev pub list_head : List ℕ
  list_head = record_at list 0 4 RL

  pub list_missing : length list_head ≡ 0 → region_file T list ≡ bad 7 0
  unfolding region_file carry
  list_missing h = rw (record_missing list RL 0 4 7 0 (omega arith) refl h)

  module _ (h : length list_head ≡ 0 → ⊥) where
    there : next_record 7 0 RL 4 list ≡ good list_head (drop 4 list)
    there = (record_there list RL 0 4 7 0 (omega arith) refl h).2

    pub list_long : 4096 < two list_head 2 → region_file T list ≡ bad 8 0
    unfolding region_file carry require
    list_long l = rw (there, lt-leb (two list_head 2) 4096 l)

    module _ (few : two list_head 2 ≤ 4096) where
      counted : leb (two list_head 2) 4096 ≡ true
      counted = le-leb (two list_head 2) 4096 few

      pub list_refused : (number place : ℕ) → records (row_record T) 1 (two list_head 2) (drop 4 list) ≡ bad number place → region_file T list ≡ bad number place
      unfolding region_file carry require
      list_refused number place e = rw (there, counted, e)

      module _ (rows : List Row) (rest : List ℕ) (e : records (row_record T) 1 (two list_head 2) (drop 4 list) ≡ good rows rest) where
        pub list_there : RowsThere T list (two list_head 2) rows rest
        list_there = all_there T list (two list_head 2) rows rest (record_there list RL 0 4 7 0 (omega arith) refl h).0 e

        pub list_more : 4 + two list_head 2 * row_width (clocks T) < length list → region_file T list ≡ bad 9 (1 + two list_head 2)
        unfolding region_file carry require
        list_more l =
            rw (there, counted, e, end_more 9 (1 + two list_head 2) rest (rw (list_there.2, length-drop) (omega arith)))

        pub list_read : length list ≤ 4 + two list_head 2 * row_width (clocks T) → region_file T list ≡ good rows rest
        unfolding region_file carry require
        list_read l =
            rw (there, counted, e, end_none 9 (1 + two list_head 2) rest (rw (list_there.2, length-drop) (omega arith)))

-- the same, of the code's values ---------------------------------------------------------------------------------------------------------

-- the rows of a list are few, and so are its bytes
pub few_bytes : (count n : ℕ) → count ≤ 4096 → n ≤ 4 → count * row_width n ≤ 45056
few_bytes count n h k = let m : count * row_width n ≤ 4096 * row_width n = mul-le-mul_right (row_width n) h in omega (arith, row_width_is n)

module _ (T : Table) (list header : List ℕ) (e : header ≡ record_at list 0 4 RL) where
  pub head_missing : length header ≡ 0 → region_file T list ≡ bad 7 0
  head_missing h = list_missing T list (sym (ap length e) ∙ h)

  module _ (h : length header ≡ 0 → ⊥) where
    some_head : length (list_head T list) ≡ 0 → ⊥
    some_head z = h (ap length e ∙ z)

    pub head_whole : length header ≡ 4
    head_whole = ap length e ∙ record_length list RL 0 4 7 0 (omega arith) refl some_head

    module _ (count : ℕ) (q : count ≡ two header 2) where
      count_is : count ≡ two (list_head T list) 2
      count_is = q ∙ ap (λ (b : List ℕ). two b 2) e

      pub too_many : 4096 < count → region_file T list ≡ bad 8 0
      too_many l = list_long T list some_head (rw count_is at l)

      module _ (few : count ≤ 4096) where
        few_rows : two (list_head T list) 2 ≤ 4096
        few_rows = rw count_is at few

        pub row_refused : {number place : ℕ} → records (row_record T) 1 count (drop 4 list) ≡ bad number place → region_file T list ≡ bad number place
        row_refused g = list_refused T list some_head few_rows _ _ (rw count_is at g)

        module _ (g : (rows : List Row) × (rest : List ℕ) × (records (row_record T) 1 count (drop 4 list) ≡ good rows rest)) (n : ℕ) (clocks_are : n ≡ clocks T) where
          rows_good : (rows : List Row) × (rest : List ℕ) × (records (row_record T) 1 (two (list_head T list) 2) (drop 4 list) ≡ good rows rest)
          rows_good = rw count_is at g

          end_is : 4 + count * row_width n ≡ 4 + two (list_head T list) 2 * row_width (clocks T)
          end_is = λ i. 4 + count_is i * row_width (clocks_are i)

          pub bytes_follow : 4 + count * row_width n < length list → region_file T list ≡ bad 9 (1 + count)
          bytes_follow l = let (rows, rest, g) = rows_good in rw count_is (list_more T list some_head few_rows rows rest g (rw end_is at l))

          -- all is read, with the count of rows
          pub all_read : length list ≤ 4 + count * row_width n → ((rows : List Row) × (rest : List ℕ) × (region_file T list ≡ good rows rest)) × (length (rows_of T list) ≡ count)
          unfolding rows_of
          all_read l =
              let (rows, rest, g) = rows_good in
              let good_file : region_file T list ≡ good rows rest = list_read T list some_head few_rows rows rest g (rw end_is at l) in
              ((rows, rest, good_file), ap (λ (r : Read (List Row)). length (rows_read r)) good_file ∙ ap length (list_there T list some_head few_rows rows rest g).0 ∙ listed_length (clocks T) list (two (list_head T list) 2) ∙ sym count_is)
