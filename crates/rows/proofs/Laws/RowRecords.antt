-- Row records as the code reads them: each way out of the reader is the definitions'. Assumes nothing.
use Prim.Native.Nat.{ℕ, ◌+◌, ◌-◌, ◌≤◌, ◌<◌}
use Rattle.regions.proofs.Laws.Values.{row_region}
use native.Mathlib.Omega.{arith}
use mathlib.Core.Path.{◌≡◌, refl, sym, ap, ◌∙◌}
use mathlib.Core.Bool.{Bool, true, false}
use mathlib.Core.List.{List, ◌++◌}
use lib.ListN.{length, drop, replicate, length-replicate, replicate-append-replicate}
use borrow.Author.Tests.{lt-ltb, le-ltb}
use Rattle.automata.specs.Clocks.{at}
use Rattle.automata.specs.Row.{Row}
use Rattle.automata.specs.Automaton.{Table, clocks}
use Rattle.automata.specs.Closed.{RowOf, first_row}
use Rattle.automata.specs.Rows.{isrowb}
use Rattle.regions.specs.Values.{padded, row_of, region_of, bounds_of}
use Rattle.regions.specs.declared.region.Region.{Region}
use Rattle.automata.proofs.Laws.Lists.{length_each}
use Rattle.table_files.specs.Bytes.{RW}
use Rattle.table_files.specs.Reading.{Read, good, bad, carry, require}
use Rattle.table_files.specs.Records.{record_at}
use Rattle.table_files.specs.Admission.{table_of}
use Rattle.tables.specs.Values.{Describes}
use Rattle.table_records.specs.declared.head.Head.{Head}
use Rattle.calls.specs.RegionFile.{row_in, row_width, row_record}
use Rattle.rows.specs.Row.{ReadsRow}
use Rattle.std.specs.Prelude.{Ok, Err}
use Rattle.table_records.specs.declared.refusal.Fault.TheVariants.{ListCut, ListRange}
use Rattle.calls.proofs.Laws.Rows.{row_width_is, row_read}
use Rattle.calls.proofs.Laws.RecordReads.{record_missing, record_there, record_length}

-- a row and its region -------------------------------------------------------------------------------------------------------------

pub row_in_back : (n : ℕ) (b : List ℕ) → row_of n (region_of (row_in n b)) ≡ row_in n b
row_in_back n b = row_region n (row_in n b) (length_each n _) (length_each n _)

-- the reader's ways out ------------------------------------------------------------------------------------------------------------

module _ (T : Table) (file : List ℕ) (p : ℕ) where
  abbrev pub row_part : List ℕ
  row_part = record_at file p (row_width (clocks T)) RW

  pub row_missing : length row_part ≡ 0 → (place : ℕ) → row_record T place (drop p file) ≡ bad 7 place
  unfolding row_record carry
  row_missing h place = rw (record_missing file RW p (row_width (clocks T)) 7 place (omega (arith, row_width_is (clocks T))) refl h)

  module _ (h : length row_part ≡ 0 → ⊥) (place : ℕ) where
    there : Rattle.table_files.specs.Reading.next_record 7 place RW (row_width (clocks T)) (drop p file) ≡ good row_part (drop (p + row_width (clocks T)) file)
    there = (record_there file RW p (row_width (clocks T)) 7 place (omega (arith, row_width_is (clocks T))) refl h).2

    pub row_elsewhere : T.locations ≤ at row_part 2 → row_record T place (drop p file) ≡ bad 8 place
    unfolding row_record carry require
    row_elsewhere l = rw (there, le-ltb (at row_part 2) T.locations l)

    pub row_ill : at row_part 2 < T.locations → isrowb T.bounds (row_in (clocks T) row_part) ≡ false → row_record T place (drop p file) ≡ bad 8 place
    unfolding row_record carry require
    row_ill l e = rw (there, lt-ltb (at row_part 2) T.locations l, e)

    pub row_good : at row_part 2 < T.locations → isrowb T.bounds (row_in (clocks T) row_part) ≡ true
        → row_record T place (drop p file) ≡ good (row_in (clocks T) row_part) (drop (p + row_width (clocks T)) file)
    unfolding row_record carry require
    row_good l e = rw (there, lt-ltb (at row_part 2) T.locations l, e)

-- the same, of the code's values: b is what the record reader handed back
module _ (table file : List ℕ) (p : ℕ) (head : Head) (D : Describes table head) (w : ℕ) (v : w ≡ row_width head.clocks.count) (b : List ℕ) (e : b ≡ record_at file p w RW) where
  abbrev T : Table
  T = table_of table

  part_is : b ≡ row_part T file p
  part_is = e ∙ ap (λ (k : ℕ). record_at file p k RW) (v ∙ ap row_width D.count)

  pub read_missing : length b ≡ 0 → ReadsRow T file p (Err ListCut)
  read_missing h = row_missing T file p (sym (ap length part_is) ∙ h)

  module _ (h : length b ≡ 0 → ⊥) where
    some_part : length (row_part T file p) ≡ 0 → ⊥
    some_part z = h (ap length part_is ∙ z)

    pub whole_record : length b ≡ row_width head.clocks.count
    whole_record = ap length e ∙ record_length file RW p w 7 0 (omega (arith, v, row_width_is head.clocks.count)) refl (λ z. h (ap length e ∙ z)) ∙ v

    module _ (region : Region) (q : region ≡ region_of (row_in head.clocks.count b)) where
      row_is : row_of head.clocks.count region ≡ row_in (clocks T) (row_part T file p)
      row_is = ap (row_of head.clocks.count) q ∙ row_in_back head.clocks.count b ∙ (λ i. row_in (D.count i) (part_is i))

      location_is : region.location ≡ at (row_part T file p) 2
      location_is = ap (λ (r : Row). r.location) row_is

      tested : (t : Bool) → t ≡ isrowb (bounds_of head.clocks) (row_of head.clocks.count region) → isrowb T.bounds (row_in (clocks T) (row_part T file p)) ≡ t
      tested t s = sym (s ∙ (λ i. isrowb (D.bounds i) (row_is i)))

      pub read_elsewhere : head.locations ≤ region.location → ReadsRow T file p (Err ListRange)
      read_elsewhere l place = row_elsewhere T file p some_part place (omega (arith, location_is, D.locations))

      module _ (l : region.location < head.locations) where
        inside : at (row_part T file p) 2 < T.locations
        inside = omega (arith, location_is, D.locations)

        pub read_ill : false ≡ isrowb (bounds_of head.clocks) (row_of head.clocks.count region) → ReadsRow T file p (Err ListRange)
        read_ill s place = row_ill T file p some_part place inside (tested false s)

        pub read_good : true ≡ isrowb (bounds_of head.clocks) (row_of head.clocks.count region) → ReadsRow T file p (Ok region)
        read_good s place =
            (_, q ∙ (λ i. region_of (row_in (D.count i) (part_is i))), row_good T file p some_part place inside (tested true s))

-- what its callers learn ------------------------------------------------------------------------------------------------------------

-- the row of the region was read, and it is one of the table's
module _ (T : Table) (file : List ℕ) (p : ℕ) (region : Region) (h : ReadsRow T file p (Ok region)) where
  pub reads_good : (place : ℕ) → row_record T place (drop p file) ≡ good (row_of (clocks T) region) (drop (p + row_width (clocks T)) file)
  reads_good place =
      let (row, q, e) = h place in
      let R = (row_read T place (drop p file) row _ e).0 in
      let same_row : row ≡ row_of (clocks T) region = sym (ap (row_of (clocks T)) q ∙ row_region (clocks T) row R.is_row.intervals_length R.is_row.ranks_length) in
      e ∙ (λ i. good (same_row i) (drop (p + row_width (clocks T)) file))

  pub reads_row : RowOf T (row_of (clocks T) region)
  reads_row = (row_read T 0 (drop p file) _ _ (reads_good 0)).0

-- the initial row ------------------------------------------------------------------------------------------------------------------

zeros_padded : (n : ℕ) → n ≤ 4 → replicate 4 0 ≡ padded (replicate n 0)
zeros_padded n h =
    let whole : 4 ≡ n + (4 - n) = omega arith in
    ap (λ (k : ℕ). replicate k 0) whole
    ∙ sym (replicate-append-replicate n (4 - n) 0)
    ∙ ap (λ (k : ℕ). replicate n 0 ++ replicate (4 - k) 0) (sym (length-replicate n 0))

pub initial_is : (table : List ℕ) (head : Head) → Describes table head
    → ◌≡◌ {A = Region} (record { location = head.initial; intervals = replicate 4 0; ranks = replicate 4 0 }) (region_of (first_row (table_of table)))
initial_is table head D =
    let z : replicate 4 0 ≡ padded (replicate (clocks (table_of table)) 0) = zeros_padded (clocks (table_of table)) (omega (arith, D.few.few, D.count)) in
    λ i. record { location = D.initial i; intervals = z i; ranks = z i }
