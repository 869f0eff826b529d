-- The check of a region list, way out by way out: each is what the definitions answer. Assumes nothing.
use Prim.Native.Nat.{ℕ, ◌+◌, ◌*◌, ◌≤◌, ◌<◌}
use native.Mathlib.Omega.{arith}
use mathlib.Core.Path.{◌≡◌, refl, sym, ap, ◌∙◌}
use mathlib.Core.Bool.{Bool, true, false}
use mathlib.Core.List.{List, []}
use lib.ListN.{length, get_or, drop, length-append, length-replicate}
use lib.Seq.{drop_at, get_or-take}
use Rattle.automata.specs.Clocks.{at}
use Rattle.automata.specs.Row.{Row}
use Rattle.automata.specs.Automaton.{Table, clocks}
use Rattle.automata.specs.Closed.{Ascends, first_row, RowOf}
use Rattle.automata.specs.Next.{next_rows}
use Rattle.automata.specs.Checks.{has}
use Rattle.automata.proofs.Laws.Tests.{fails}
use Rattle.regions.specs.Values.{row_of, region_of}
use Rattle.regions.specs.declared.region.Region.{Region}
use Rattle.regions.proofs.Laws.Values.{row_region}
use Rattle.table_files.specs.Bytes.{RL, two}
use Rattle.table_files.specs.Answer.{Answer, accepted, refused}
use Rattle.table_files.specs.Reading.{Read, good, bad, carry, done, require, answered}
use Rattle.table_files.specs.Admission.{table_of}
use Rattle.table_files.specs.Meaning.{Limits}
use Rattle.table_files.proofs.Laws.Admission.{admission_limits}
use Rattle.table_files.proofs.Laws.Reading.{itself, parts, tested, took_record}
use Rattle.table_records.specs.declared.head.Head.{Head}
use Rattle.table_records.specs.Refusal.{number_of}
use Rattle.table_records.specs.declared.refusal.Fault.{Fault}
use Rattle.table_records.specs.declared.refusal.Refusal.{Refusal}
use Rattle.tables.specs.Values.{Describes}
use Rattle.calls.specs.RegionFile.{row_width, region_file, rows_read, rows_of, ascending, none_final, none_open, list_checked}
use Rattle.calls.proofs.Laws.Rows.{rows_read_law}
use Rattle.calls.proofs.Laws.Open.{full, full_passes, least_refused}
use Rattle.calls.proofs.Laws.RegionLists.{ascends}
use Rattle.listed_rows.specs.Listed.{listed_row, listed_rows, Listed}
use Rattle.listed_rows.proofs.Laws.Listed.{listed_length, listed_at, listed_in, in_listed}
use Rattle.walked_rows.specs.Open.{Inside, FirstOpen}
use Rattle.std.specs.Prelude.{Ok}
use Rattle.region_lists.specs.RegionList.{Told}
use Rattle.region_lists.proofs.Laws.ListRecords.{all_there}

-- the answer that a refusal is
pub refused_at : {f : Fault} {place : ℕ} {e : Refusal} {a : Answer} → e ≡ record { fault = f; place = place } → refused (number_of f) place ≡ a → refused (number_of e.fault) e.place ≡ a
refused_at k h = rw k h

-- the rows that were read are those that stand in the file
region_there : (T : Table) (list : List ℕ) (rows : List Row) (rest : List ℕ) → region_file T list ≡ good rows rest
    → (rows ≡ listed_rows (clocks T) list (length rows)) × (4 + length rows * row_width (clocks T) ≤ length list)
unfolding region_file
region_there T list rows rest h =
    parts _ _ h λ b f1 e1 h1.
    tested _ _ _ _ _ h1 λ t2 h2.
    parts _ _ h2 λ rs f3 e3 h3.
    parts _ _ h3 λ u f4 e4 h4.
    let x : rs ≡ rows = cc in
    let (k, m) = took_record 7 0 RL 4 list e1 in
    let after : f1 ≡ drop 4 list = sym (ap (drop 4) k.whole ∙ drop_at b f1 4 k.sized) in
    let (are, room, _) = all_there T list (two b 2) rs f3 (omega (arith, k.sized, simp length-append at (ap length k.whole))) (rw after at e3) in
    let n : length rs ≡ two b 2 = ap length are ∙ listed_length (clocks T) list (two b 2) in
    rw (← x, n) (are, room)

-- 17 -----------------------------------------------------------------------------------------------------------------------------------------

module _ (T : Table) (n : ℕ) (list : List ℕ) (count first : ℕ) (F : FirstOpen (Inside (next_rows T) n list count) 0 count first) where
  abbrev listed : List Row
  listed = listed_rows n list count

  at_place : (i : ℕ) → i < count → (b : Bool) → full T listed (listed_row n list i) ≡ b → full T listed (get_or listed i (first_row T)) ≡ b
  at_place i l b e = ap (full T listed) (listed_at n list count i (first_row T) l) ∙ e

  -- the first row that is open is refused
  open_refused : first < count → (file : List ℕ) → none_open T listed 1 listed file ≡ bad 17 (first + 1)
  open_refused l file =
      least_refused T listed (first_row T) 1 listed file first (record {
        within = omega (arith, listed_length n list count);
        here = at_place first l false (fails _ (itself _) (F.here l));
        before = λ j k. at_place j (omega arith) true (F.before j (omega arith) k);
      })
      ∙ ap (bad 17) (omega arith)

  -- and where none is, all pass
  open_passed : count ≤ first → (file : List ℕ) → none_open T listed 1 listed file ≡ good tt file
  open_passed l file = full_passes T listed 1 listed file (λ r m. let (i, k, e) = in_listed n list count r m in rw (← e) (F.before i (omega arith) (omega arith)))

-- the rows, pass after pass -----------------------------------------------------------------------------------------------------------------

module _ (table list : List ℕ) (head : Head) (count : ℕ) (D : Describes table head)
    (told : Told (region_file (table_of table) list) (Ok count)) (counted : length (rows_of (table_of table) list) ≡ count) where
  abbrev T : Table
  T = table_of table

  abbrev rows : List Row
  rows = listed_rows head.clocks.count list count

  limits : Limits T
  limits = let (k, p) = D.passes in admission_limits table k p

  record Ready : Type 0 where
    rest : List ℕ
    read : region_file T list ≡ good rows rest
    listed : Listed head.clocks list count
    located : (i : ℕ) → i < count → (listed_row head.clocks.count list i).location < head.locations

  ready : Ready
  unfolding rows_of
  ready =
      let (rs, rest, e) = told in
      let n : length rs ≡ count = sym (ap (λ (r : Read (List Row)). length (rows_read r)) e) ∙ counted in
      let (are, room) = region_there T list rs rest e in
      let rows_are : rs ≡ rows = are ∙ (λ i. listed_rows (sym D.count i) list (n i)) in
      let R = rows_read_law T list rs rest e in
      let row_in : (i : ℕ) → i < count → RowOf T (listed_row head.clocks.count list i) =
      λ i l. R.are_rows _ (rw rows_are (listed_in head.clocks.count list count i l)) in
      record {
        rest = rest;
        read = e ∙ ap (λ (l : List Row). good l rest) rows_are;
        listed = record {
          few = D.few;
          sized = ap length D.bounds ∙ sym D.count;
          low = λ z h. omega (arith, limits.low_bounds z (omega (arith, D.count)), ap (λ (c : List ℕ). at c z) D.bounds, get_or-take head.clocks.count head.clocks.bounds z 0 h);
          short = omega (arith, n, R.few);
          room = rw (← n, D.count) room;
          are_rows = λ i l. rw D.bounds (row_in i l).is_row;
        };
        located = λ i l. omega (arith, D.locations, (row_in i l).location_in);
      }

  pub list_listed : Listed head.clocks list count
  list_listed = ready.listed

  pub list_located : (i : ℕ) → i < count → (listed_row head.clocks.count list i).location < head.locations
  list_located = ready.located

  abbrev answer : Answer
  answer = answered length (list_checked T list)

  -- 14
  pub refused_14 : {number place : ℕ} → ((file : List ℕ) → ascending 1 rows file ≡ bad number place) → refused number place ≡ answer
  unfolding list_checked carry
  refused_14 e14 = rw (ready.read, e14 ready.rest)

  module _ (pass_14 : (file : List ℕ) → ascending 1 rows file ≡ good tt file) where
    pub rows_ascend : Ascends rows
    rows_ascend = ascends 1 rows [] (pass_14 [])

    -- 15
    pub refused_15 : {number place : ℕ} → ((file : List ℕ) → none_final T 1 rows file ≡ bad number place) → refused number place ≡ answer
    unfolding list_checked carry
    refused_15 e15 = rw (ready.read, pass_14 ready.rest, e15 ready.rest)

    -- 16
    module _ (pass_15 : (file : List ℕ) → none_final T 1 rows file ≡ good tt file) (initial : Region) (i : (file : List ℕ) → Describes file head → initial ≡ region_of (first_row (table_of file)))
        (b : Bool) (found : b ≡ has rows (row_of head.clocks.count initial)) where
      initial_row : row_of head.clocks.count initial ≡ first_row T
      initial_row =
          ap (row_of head.clocks.count) (i table D)
          ∙ row_region head.clocks.count (first_row T) (length-replicate (clocks T) 0 ∙ sym D.count) (length-replicate (clocks T) 0 ∙ sym D.count)

      starts : (t : Bool) → b ≡ t → has rows (first_row T) ≡ t
      starts t e = ap (has rows) (sym initial_row) ∙ sym found ∙ e

      pub refused_16 : b ≡ false → refused 16 0 ≡ answer
      unfolding list_checked carry require
      refused_16 h = rw (ready.read, pass_14 ready.rest, pass_15 ready.rest, starts false h) refl

      -- 17
      module _ (there : b ≡ true) (first : ℕ) (F : FirstOpen (Inside (next_rows T) head.clocks.count list count) 0 count first) where
        left : answer ≡ answered length (carry (none_open T rows 1 rows ready.rest) (λ _. done rows))
        unfolding list_checked carry require
        left = rw (ready.read, pass_14 ready.rest, pass_15 ready.rest, starts true there) refl

        pub refused_17 : first < count → refused 17 (first + 1) ≡ answer
        unfolding carry
        refused_17 l = rw (left, open_refused T head.clocks.count list count first F l ready.rest) refl

        pub all_pass : count ≤ first → accepted count ≡ answer
        unfolding carry
        all_pass l = rw (left, open_passed T head.clocks.count list count first F l ready.rest) (ap accepted (sym (listed_length head.clocks.count list count)))
