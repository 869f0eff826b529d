-- Row records: what is read is a row of the table and its bytes, and a row of the table is read back. Assumes nothing.
use Prim.Native.Nat.{ℕ, ◌+◌, ◌*◌, ◌/◌, ◌%◌, ◌≤◌, ◌<◌}
use native.Mathlib.Omega.{arith}
use mathlib.Core.Path.{◌≡◌, refl, sym, ap, ◌∙◌}
use mathlib.Core.List.{List, [], ◌∷◌, ◌++◌, append-nil}
use lib.ListN.{length, take, length-append, take-append-drop, drop_of_length-le, get_or-append}
use lib.Seq.{get_or-append-add}
use lib.Dec.{leb, ltb}
use borrow.Author.Tests.{leb-true, ltb-true, lt-ltb, le-leb}
use Rattle.automata.specs.Clocks.{at, each}
use Rattle.automata.specs.Row.{Row}
use Rattle.automata.specs.Automaton.{Table, clocks}
use Rattle.automata.specs.Closed.{Mem, RowOf}
use Rattle.automata.specs.Rows.{isrowb}
use Rattle.automata.proofs.Laws.Ranks.{rank_le}
use Rattle.automata.proofs.Laws.Rows.{isrowb_law}
use Rattle.table_files.specs.Bytes.{AreBytes, RL, RW, two, two_bytes}
use Rattle.table_files.specs.Reading.{good, end}
use Rattle.calls.specs.RegionFile.{row_in, row_width, row_record, region_file, row_bytes, rows_bytes, list_bytes}
use Rattle.table_files.specs.Meaning.{Limits}
use Rattle.table_files.proofs.Laws.Bytes.{bytes_append, bytes_before, bytes_after, are_bytes, gather_bytes, byte_next, bytes_next, two_next, each_at}
use Rattle.table_files.proofs.Laws.Reading.{parts, tested, ended, took_record, each_record, records_bytes, goes, passes, record_back, records_back}

-- a row record's bytes: mark and location, then a byte for each clock's interval and rank
pub row_width_is : (n : ℕ) → row_width n ≡ 3 + 2 * n
unfolding row_width
row_width_is n = refl

-- one row --------------------------------------------------------------------------------------------------------------------

row_whole : (n : ℕ) (b : List ℕ) → RW ≡ take 2 b → length b ≡ row_width n → row_bytes (row_in n b) ≡ b
row_whole n b m e =
    (λ i. m i ++ (at b 2 ∷ (js ++ sym (append-nil ks) i)))
    ∙ (λ i. take 2 b ++ (at b 2 ∷ (js ++ (ks ++ sym (drop_of_length-le b {i = 3 + n + n} (omega (arith, row_width_is n))) i))))
    ∙ (λ i. take 2 b ++ (at b 2 ∷ (js ++ sym (bytes_next b (3 + n) n (omega (arith, row_width_is n))) i)))
    ∙ (λ i. take 2 b ++ (at b 2 ∷ sym (bytes_next b 3 n (omega (arith, row_width_is n))) i))
    ∙ (λ i. take 2 b ++ sym (byte_next b 2 (omega (arith, row_width_is n))) i)
    ∙ take-append-drop 2 b
  where
    js : List ℕ
    js = (row_in n b).intervals

    ks : List ℕ
    ks = (row_in n b).ranks

-- what a row record that is read holds
pub row_read : (T : Table) (place : ℕ) (f : List ℕ) (r : Row) (left : List ℕ) → row_record T place f ≡ good r left → RowOf T r × (f ≡ row_bytes r ++ left)
unfolding row_record
row_read T place f r left h =
    parts _ _ h λ b f1 e1 h1.
    tested _ _ _ _ _ h1 λ t2 h2.
    tested _ _ _ _ _ h2 λ t3 h3.
    let x : row_in (clocks T) b ≡ r = cc in
    let y : f1 ≡ left = cc in
    let (k, m) = took_record 7 place RW (row_width (clocks T)) f e1 in
    rw (← x, ← y) (
      record { location_in = ltb-true (at b 2) T.locations t2; is_row = (isrowb_law T.bounds (row_in (clocks T) b)).0 t3 },
      k.whole ∙ ap (λ (l : List ℕ). l ++ f1) (sym (row_whole (clocks T) b m k.sized)),
    )

row_back : (n : ℕ) (r : Row) → length r.intervals ≡ n → length r.ranks ≡ n → row_in n (row_bytes r) ≡ r
row_back n r p q = λ i. record { location = r.location; intervals = js i; ranks = ks i }
  where
    js : each n (λ (z : ℕ). at (row_bytes r) (3 + z)) ≡ r.intervals
    js =
        rw (← p) (each_at r.intervals (λ (z : ℕ). at (row_bytes r) (3 + z)) (λ z l.
        get_or-append-add (0x52 ∷ 0x57 ∷ r.location ∷ []) (r.intervals ++ r.ranks) z 0 ∙ get_or-append r.intervals r.ranks 0 z l))

    ks : each n (λ (z : ℕ). at (row_bytes r) (3 + n + z)) ≡ r.ranks
    ks =
        rw (← q) (each_at r.ranks (λ (z : ℕ). at (row_bytes r) (3 + length r.ranks + z)) (λ z l.
        let e : 3 + length r.ranks + z ≡ length (0x52 ∷ 0x57 ∷ r.location ∷ r.intervals) + z = omega arith in
        ap (at (row_bytes r)) e ∙ get_or-append-add (0x52 ∷ 0x57 ∷ r.location ∷ r.intervals) r.ranks z 0))

-- one row has these bytes
pub row_alone : (T : Table) (r s : Row) → RowOf T r → RowOf T s → row_bytes r ≡ row_bytes s → r ≡ s
row_alone T r s R S e =
    sym (row_back (clocks T) r R.is_row.intervals_length R.is_row.ranks_length)
    ∙ ap (row_in (clocks T)) e
    ∙ row_back (clocks T) s S.is_row.intervals_length S.is_row.ranks_length

pub row_record_back : (T : Table) (place : ℕ) (r : Row) (rest : List ℕ) → RowOf T r → row_record T place (row_bytes r ++ rest) ≡ good r rest
unfolding row_record
row_record_back T place r rest R =
    let b : row_in (clocks T) (row_bytes r) ≡ r = row_back (clocks T) r R.is_row.intervals_length R.is_row.ranks_length in
    let l : row_width (clocks T) ≡ length (row_bytes r) =
    omega (arith, row_width_is (clocks T), length-append r.intervals r.ranks, R.is_row.intervals_length, R.is_row.ranks_length) in
    goes _ _ (row_bytes r) rest (record_back 7 place RW (row_width (clocks T)) (row_bytes r) rest l refl)
    ∙ goes _ _ tt rest (passes 8 place (ltb r.location T.locations) rest (lt-ltb r.location T.locations R.location_in))
    ∙ goes _ _ tt rest (passes 8 place (isrowb T.bounds (row_in (clocks T) (row_bytes r))) rest (rw b ((isrowb_law T.bounds r).1 R.is_row)))
    ∙ ap (λ (x : Row). good x rest) b

-- the list -------------------------------------------------------------------------------------------------------------------

pub record RowsRead (T : Table) (file : List ℕ) (rows : List Row) : Type 0 where
  pub are_rows : (r : Row) → Mem r rows → RowOf T r
  pub few : length rows ≤ 4096
  pub bytes : AreBytes file → file ≡ list_bytes rows

pub rows_read_law : (T : Table) (file : List ℕ) (rows : List Row) (left : List ℕ) → region_file T file ≡ good rows left → RowsRead T file rows
unfolding region_file
rows_read_law T file rows left h =
    parts _ _ h λ b f1 e1 h1.
    tested _ _ _ _ _ h1 λ t2 h2.
    parts _ _ h2 λ rs f3 e3 h3.
    parts _ _ h3 λ u f4 e4 h4.
    let x : rs ≡ rows = cc in
    let (n, are) = each_record (row_record T) (RowOf T) (λ place f r l e. (row_read T place f r l e).0) 1 (two b 2) f1 rs f3 e3 in
    let (k, m) = took_record 7 0 RL 4 file e1 in
    rw (← x) (record {
      are_rows = are;
      few = omega (arith, leb-true (two b 2) 4096 t2);
      bytes = λ p.
          let q : AreBytes (b ++ f1) = rw k.whole at p in
          let rest : f1 ≡ rows_bytes rs ++ f3 = records_bytes (row_record T) row_bytes (λ place f r l _ e. (row_read T place f r l e).1) 1 (two b 2) f1 rs f3 (bytes_after b f1 q) e3 in
          k.whole
          ∙ (λ i. head b (bytes_before b f1 q) m k.sized i ++ rest i)
          ∙ (λ i. (RL ++ two_bytes (sym n i)) ++ (rows_bytes rs ++ ended 9 (1 + two b 2) f3 e4 i))
          ∙ ap (λ (l : List ℕ). list_head rs ++ l) (append-nil (rows_bytes rs));
    })
  where
    list_head : List Row → List ℕ
    list_head rs = RL ++ two_bytes (length rs)

    head : (b : List ℕ) → AreBytes b → RL ≡ take 2 b → length b ≡ 4 → b ≡ RL ++ two_bytes (two b 2)
    head b p m e =
        sym (take-append-drop 2 b)
        ∙ (λ i. sym m i ++ two_next b p 2 (omega arith) i)
        ∙ ap (λ (l : List ℕ). RL ++ (two_bytes (two b 2) ++ l)) (drop_of_length-le b {i = 4} (omega arith))

pub file_back : (T : Table) (rows : List Row) → ((r : Row) → Mem r rows → RowOf T r) → length rows ≤ 4096 → region_file T (list_bytes rows) ≡ good rows []
unfolding region_file end
file_back T rows R l =
    let b : List ℕ = RL ++ two_bytes (length rows) in
    let n : length rows / 256 * 256 + length rows % 256 ≡ length rows = omega arith in
    goes _ _ b (rows_bytes rows) (record_back 7 0 RL 4 b (rows_bytes rows) refl refl)
    ∙ goes _ _ tt (rows_bytes rows) (passes 8 0 (leb (two b 2) 4096) (rows_bytes rows) (le-leb (two b 2) 4096 (omega arith)))
    ∙ goes _ _ rows [] (rw n (records_back (row_record T) row_bytes 1 rows (λ place r rest m. row_record_back T place r rest (R r m))))
    ∙ goes _ _ tt [] refl

-- what is written is bytes ---------------------------------------------------------------------------------------------------

module _ (T : Table) (M : Limits T) where
  row_are_bytes : (r : Row) → RowOf T r → AreBytes (row_bytes r)
  row_are_bytes r R =
      let js : AreBytes r.intervals = are_bytes r.intervals (λ z l.
      let k : z < clocks T = omega (arith, R.is_row.intervals_length) in
      omega (arith, R.is_row.in_range z k, M.low_bounds z k)) in
      let ks : AreBytes r.ranks = are_bytes r.ranks (λ z l. omega (arith, rank_le T.bounds r R.is_row z, M.few_clocks)) in
      (omega arith, (omega arith, (omega (arith, R.location_in, M.few_locations), bytes_append r.intervals r.ranks js ks)))

  pub rows_are_bytes : (rows : List Row) → ((r : Row) → Mem r rows → RowOf T r) → AreBytes (rows_bytes rows)
  rows_are_bytes rows R = gather_bytes row_bytes rows (λ r m. row_are_bytes r (R r m))

  pub list_are_bytes : (rows : List Row) → ((r : Row) → Mem r rows → RowOf T r) → length rows ≤ 4096 → AreBytes (list_bytes rows)
  list_are_bytes rows R l = (omega arith, (omega arith, (omega arith, (omega arith, rows_are_bytes rows R))))
