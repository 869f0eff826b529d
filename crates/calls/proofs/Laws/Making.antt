-- Making a list: an accepted call leaves the file of a closed list that the check accepts, 21 is given where some run ends in a final location, and
-- what is answered and written in each case. Assumes nothing.
use Prim.Native.Nat.{ℕ, ◌+◌, ◌*◌, ◌≤◌, ◌<◌}
use native.Mathlib.Nat.{suc-mul, mul-le-mul_right}
use native.Mathlib.Omega.{arith}
use mathlib.Core.Path.{◌≡◌, refl, sym, ap, ◌∙◌}
use mathlib.Core.Bool.{Bool, true, false, not, ◌&&◌}
use mathlib.Core.Logic.{◌⊎◌, inl, inr}
use mathlib.Core.List.Memᴰ
use mathlib.Core.List.{List, [], ◌∷◌, ◌++◌}
use lib.ListN.{length, take, drop, replicate, length-append, length-drop, length-replicate}
use lib.Seq.{take_at}
use lib.Dec.{leb}
use Rattle.automata.specs.Row.{Row}
use Rattle.automata.specs.Automaton.{Table, clocks, Admitted}
use Rattle.automata.specs.Run.{Reached}
use Rattle.automata.specs.Closed.{Mem, Ascends, RowOf, Closed}
use Rattle.automata.specs.Kept.{kept, enters, Kept}
use Rattle.automata.proofs.Laws.Tests.{Says, true_or_false, either, fails, leb_law, and_law}
use Rattle.automata.proofs.Laws.Sound.{sound}
use Rattle.automata.proofs.Laws.Kept.{kept_sound, kept_row, kept_most, kept_closed, kept_fewest, entered_law}
use Rattle.table_files.specs.Bytes.{AreBytes}
use Rattle.table_files.specs.Answer.{Answer, accepted, refused}
use Rattle.table_files.specs.Reading.{Read, good, bad, carry, answered}
use Rattle.table_files.specs.Admission.{admitted, table_of}
use Rattle.table_files.specs.Meaning.{Passes}
use Rattle.table_files.proofs.Laws.Reading as Readings
use Rattle.table_files.proofs.Laws.Admission.{read_admitted, read_admission, admission_read, admission_admitted, admission_limits}
use Rattle.calls.specs.RegionFile.{row_width, row_bytes, rows_bytes, list_bytes, list_answer}
use Rattle.calls.specs.Making.{rows_made, making, make_answer, made_in, make_buffer, list_in}
use Rattle.calls.specs.Meaning.{RegionListOf}
use Rattle.calls.proofs.Laws.Rows.{row_width_is, list_are_bytes}
use Rattle.calls.proofs.Laws.Refusals.{tame_admitted}
use Rattle.calls.proofs.Laws.RegionLists.{closed_accepted}

-- how long the file is ---------------------------------------------------------------------------------------------------------

row_length : (T : Table) (r : Row) → RowOf T r → length (row_bytes r) ≡ row_width (clocks T)
row_length T r R = omega (arith, row_width_is (clocks T), length-append r.intervals r.ranks, R.is_row.intervals_length, R.is_row.ranks_length)

pub rows_bytes_length : (T : Table) (rows : List Row) → ((r : Row) → Mem r rows → RowOf T r) → length (rows_bytes rows) ≡ length rows * row_width (clocks T)
rows_bytes_length T [] are = omega arith
rows_bytes_length T (r ∷ rows) are =
    let one = row_length T r (are r (Memᴰ.head refl)) in
    let others = rows_bytes_length T rows (λ s m. are s (Memᴰ.tail m)) in
    omega (arith, length-append (row_bytes r) (rows_bytes rows), suc-mul (length rows) (row_width (clocks T)))

pub list_bytes_length : (T : Table) (rows : List Row) → ((r : Row) → Mem r rows → RowOf T r) → length (list_bytes rows) ≡ 4 + length rows * row_width (clocks T)
list_bytes_length T rows are = omega (arith, rows_bytes_length T rows are)

-- fewer rows take fewer bytes
pub fewer_bytes : (T : Table) (xs ys : List Row) → ((r : Row) → Mem r xs → RowOf T r) → ((r : Row) → Mem r ys → RowOf T r) → length xs ≤ length ys
    → length (list_bytes xs) ≤ length (list_bytes ys)
fewer_bytes T xs ys p q l =
    omega (arith, list_bytes_length T xs p, list_bytes_length T ys q, mul-le-mul_right (row_width (clocks T)) l)

-- what is answered and written --------------------------------------------------------------------------------------------------

-- "the kept rows exceed 4,096, the buffer can't hold the finished list or the waiting list is too short": none of the three
abbrev pub Fits : Table → ℕ → ℕ → Type 0
Fits T room records = ((length (kept T) ≤ 4096) × (length (list_bytes (kept T)) ≤ room)) × (4096 ≤ records)

module _ (T : Table) (room records : ℕ) where
  abbrev fitsb : Bool
  fitsb = leb (length (kept T)) 4096 && leb (length (list_bytes (kept T))) room && leb 4096 records

  fits_law : Says fitsb (Fits T room records)
  fits_law = and_law _ _ (and_law _ _ (leb_law (length (kept T)) 4096) (leb_law (length (list_bytes (kept T))) room)) (leb_law 4096 records)

-- the table's own refusals
pub make_refused : (table : List ℕ) (room records : ℕ) {number place : ℕ} → admitted table ≡ bad number place → making table room records ≡ bad number place
unfolding making carry
make_refused table room records e = rw e

module _ (table : List ℕ) {T : Table} {rest : List ℕ} (e : admitted table ≡ good T rest) (room records : ℕ) where
  pub make_unfit : (Fits T room records → ⊥) → making table room records ≡ bad 20 0
  unfolding making rows_made
  make_unfit out = Readings.goes _ _ T rest e ∙ Readings.fails 20 0 (fitsb T room records) [] _ (fails (fitsb T room records) (fits_law T room records) out)

  pub make_short : (4096 < length (kept T)) ⊎ ((room < length (list_bytes (kept T))) ⊎ (records < 4096)) → making table room records ≡ bad 20 0
  make_short w = make_unfit (λ f. go f w)
    where
      go : Fits T room records → (4096 < length (kept T)) ⊎ ((room < length (list_bytes (kept T))) ⊎ (records < 4096)) → ⊥
      go f (inl h) = omega (arith, f.0.0)
      go f (inr (inl h)) = omega (arith, f.0.1)
      go f (inr (inr h)) = omega (arith, f.1)

  -- some kept rows are too many, or too many for the buffer
  pub make_overfull : (rows : List Row) → Ascends rows → ((r : Row) → Mem r rows → Kept T r) → (4096 < length rows) ⊎ (room < length (list_bytes rows))
      → making table room records ≡ bad 20 0
  make_overfull rows a are w = make_short (go (kept_most T rows a are) w)
    where
      A : Admitted T
      A = read_admitted table T rest e

      go : (length rows ≤ length (kept T)) ⊎ (4096 < length (kept T)) → (4096 < length rows) ⊎ (room < length (list_bytes rows))
          → (4096 < length (kept T)) ⊎ ((room < length (list_bytes (kept T))) ⊎ (records < 4096))
      go (inr h) w = inl h
      go (inl l) (inl h) = inl (omega arith)
      go (inl l) (inr h) =
          let m = fewer_bytes T rows (kept T) (λ r i. kept_row T A (are r i)) (λ r i. kept_row T A (kept_sound T r i)) l in
          inr (inl (omega arith))

  module _ (f : Fits T room records) where
    pub make_entered : enters T (kept T) ≡ true → making table room records ≡ bad 21 0
    unfolding making rows_made
    make_entered h =
        Readings.goes _ _ T rest e
        ∙ Readings.goes _ _ tt [] (Readings.passes 20 0 (fitsb T room records) [] ((fits_law T room records).1 f))
        ∙ Readings.fails 21 0 (not (enters T (kept T))) [] _ (ap not h)

    pub make_rows : enters T (kept T) ≡ false → making table room records ≡ good (kept T) []
    unfolding making rows_made
    make_rows h =
        Readings.goes _ _ T rest e
        ∙ Readings.goes _ _ tt [] (Readings.passes 20 0 (fitsb T room records) [] ((fits_law T room records).1 f))
        ∙ Readings.goes _ _ tt [] (Readings.passes 21 0 (not (enters T (kept T))) [] (ap not h))

-- the answer and the buffer after the call, from what was made
abbrev pub Told : List ℕ → ℕ → List ℕ → Read (List Row) → Type 0
Told table records buffer r = (make_answer table (length buffer) records ≡ answered length r) × (make_buffer table records buffer ≡ made_in r buffer)

pub make_told : (table : List ℕ) (records : ℕ) (buffer : List ℕ) {r : Read (List Row)} → making table (length buffer) records ≡ r → Told table records buffer r
unfolding make_answer make_buffer
make_told table records buffer e = (ap (answered length) e, ap (λ (r : Read (List Row)). made_in r buffer) e)

-- the four ways out --------------------------------------------------------------------------------------------------------------

-- what the call makes: the table is refused; 20; 21; or the kept rows
pub data Outcome (table : List ℕ) (room records : ℕ) : Read (List Row) → Type 0 where
  not_admitted : (number place : ℕ) → admitted table ≡ bad number place → Outcome table room records (bad number place)
  not_fit : Passes table → (Fits (table_of table) room records → ⊥) → Outcome table room records (bad 20 0)
  entered : Passes table → Fits (table_of table) room records → enters (table_of table) (kept (table_of table)) ≡ true → Outcome table room records (bad 21 0)
  made : Passes table → Fits (table_of table) room records → enters (table_of table) (kept (table_of table)) ≡ false
      → Outcome table room records (good (kept (table_of table)) [])

pub make_outcome : (table : List ℕ) (room records : ℕ) → Outcome table room records (making table room records)
make_outcome table room records = go (admitted table) refl
  where
    over : Passes table → (rest : List ℕ) → admitted table ≡ good (table_of table) rest
        → (Fits (table_of table) room records → ⊥) ⊎ Fits (table_of table) room records
        → (enters (table_of table) (kept (table_of table)) ≡ true) ⊎ (enters (table_of table) (kept (table_of table)) ≡ false)
        → Outcome table room records (making table room records)
    over p rest e (inl out) w = rw (make_unfit table e room records out) (not_fit p out)
    over p rest e (inr f) (inl h) = rw (make_entered table e room records f h) (entered p f h)
    over p rest e (inr f) (inr h) = rw (make_rows table e room records f h) (made p f h)

    go : (r : Read Table) → admitted table ≡ r → Outcome table room records (making table room records)
    go (bad number place) e = rw (make_refused table room records e) (not_admitted number place e)
    go (good T rest) e =
        let (p, t) = read_admission table e in
        over (_, p) rest (rw t e) (either (fitsb (table_of table) room records) (fits_law (table_of table) room records)) (true_or_false (enters (table_of table) (kept (table_of table))))

-- what the answers mean ------------------------------------------------------------------------------------------------------------

-- the file that the buffer begins with after an accepted call
abbrev pub list_made : List ℕ → ℕ → List ℕ → List ℕ
list_made table records buffer = take (length (list_bytes (kept (table_of table)))) (make_buffer table records buffer)

-- what is made is the kept rows
module _ (table : List ℕ) (records : ℕ) (buffer : List ℕ) (k : ℕ) where
  abbrev T : Table
  T = table_of table

  -- the same by the count that was answered
  abbrev made_list : List ℕ
  made_list = list_in T k (make_buffer table records buffer)

  record Made : Type 0 where
    passes : Passes table
    fits : Fits T (length buffer) records
    sized : length (kept T) ≡ k
    closed : Closed T (kept T)
    written : make_buffer table records buffer ≡ list_bytes (kept T) ++ drop (length (list_bytes (kept T))) buffer
    file : list_made table records buffer ≡ list_bytes (kept T)
    counted : made_list ≡ list_bytes (kept T)

  all_made : make_answer table (length buffer) records ≡ accepted k → Made
  unfolding make_answer make_buffer
  all_made = go (making table (length buffer) records) refl (make_outcome table (length buffer) records)
    where
      go : (r : Read (List Row)) → making table (length buffer) records ≡ r → Outcome table (length buffer) records r → answered length r ≡ accepted k → Made
      go _ w (not_admitted number place e) h = Readings.not_refused h
      go _ w (not_fit p out) h = Readings.not_refused h
      go _ w (entered p f e) h = Readings.not_refused h
      go _ w (made p f e) h =
          let A = admission_admitted table p.0 p.1 in
          let b : List ℕ = list_bytes (kept T) in
          let after = (make_told table records buffer w).1 in
          let first = ap (take (length b)) after ∙ take_at b (drop (length b) buffer) (length b) refl in
          let many : length (kept T) ≡ k = cc in
          let long : 4 + k * row_width (clocks T) ≡ length b =
          ap (λ (n : ℕ). 4 + n * row_width (clocks T)) (sym many) ∙ sym (list_bytes_length T (kept T) (λ r i. kept_row T A (kept_sound T r i)))
          in
          record {
            passes = p;
            fits = f;
            sized = many;
            closed = kept_closed T A f.0.0 e;
            written = after;
            file = first;
            counted = ap (λ (n : ℕ). take n (make_buffer table records buffer)) long ∙ first;
          }

  -- of any list that has the bytes of the kept rows: it is closed, the check accepts it, and no run ends in a final location
  accepts : (l : List ℕ) → l ≡ list_bytes (kept T) → Made → Passes table × RegionListOf T l k × (list_answer table l ≡ accepted k) × (Reached T → ⊥)
  accepts l is m = (
    m.passes,
    record { rows = kept T; bytes = is; sized = m.sized; few = omega (arith, m.fits.0.0, m.sized); closed = m.closed },
    ap (list_answer table) is ∙ closed_accepted table m.passes (kept T) m.closed m.fits.0.0 ∙ ap accepted m.sized,
    sound T (kept T) m.closed,
  )

  -- its file stands first in the buffer, is bytes, and "later buffer bytes stay"
  writes : (l : List ℕ) → l ≡ list_bytes (kept T) → Made → AreBytes l × (make_buffer table records buffer ≡ l ++ drop (length l) buffer)
  writes l is m =
      let (n, p) = m.passes in (
        rw is (list_are_bytes T (admission_limits table n p) (kept T) m.closed.are_rows m.fits.0.0),
        m.written ∙ (λ i. sym is i ++ drop (length (sym is i)) buffer),
      )

  pub make_accepts : make_answer table (length buffer) records ≡ accepted k
      → Passes table
      × RegionListOf T (list_made table records buffer) k
      × (list_answer table (list_made table records buffer) ≡ accepted k)
      × (Reached T → ⊥)
  make_accepts h = let m = all_made h in accepts (list_made table records buffer) m.file m

  pub make_writes : make_answer table (length buffer) records ≡ accepted k
      → AreBytes (list_made table records buffer)
      × (make_buffer table records buffer ≡ list_made table records buffer ++ drop (length (list_made table records buffer)) buffer)
  make_writes h = let m = all_made h in writes (list_made table records buffer) m.file m

  -- the same of the first bytes that a list of so many rows takes
  pub make_accepts_in : make_answer table (length buffer) records ≡ accepted k
      → Passes table
      × RegionListOf T (made_list) k
      × (list_answer table (made_list) ≡ accepted k)
      × (Reached T → ⊥)
  make_accepts_in h = let m = all_made h in accepts made_list m.counted m

  pub make_writes_in : make_answer table (length buffer) records ≡ accepted k
      → AreBytes (made_list)
      × (make_buffer table records buffer ≡ made_list ++ drop (length (made_list)) buffer)
  make_writes_in h = let m = all_made h in writes made_list m.counted m

pub make_few : (table : List ℕ) (room records k : ℕ) → make_answer table room records ≡ accepted k → k ≤ 4096
unfolding make_answer
make_few table room records k = go (making table room records) (make_outcome table room records)
  where
    go : (r : Read (List Row)) → Outcome table room records r → answered length r ≡ accepted k → k ≤ 4096
    go _ (not_admitted number place e) h = Readings.not_refused h
    go _ (not_fit p out) h = Readings.not_refused h
    go _ (entered p f e) h = Readings.not_refused h
    go _ (made p f e) h = let n : length (kept (table_of table)) ≡ k = cc in omega (arith, f.0.0)

-- 21 is given where some run ends in a final location
pub make_reached : (table : List ℕ) (room records place : ℕ) → make_answer table room records ≡ refused 21 place → Reached (table_of table)
unfolding make_answer
make_reached table room records place = go (making table room records) (make_outcome table room records)
  where
    number_is : {n p m q : ℕ} → refused n p ≡ refused m q → n ≡ m
    number_is e = cc

    go : (r : Read (List Row)) → Outcome table room records r → answered length r ≡ refused 21 place → Reached (table_of table)
    go _ (not_admitted number p e) h = let n = number_is h in absurd (omega (arith, (tame_admitted {top = 6} (omega arith)).slight' table number p e))
    go _ (not_fit p out) h = let n = number_is h in absurd (omega arith)
    go _ (entered p f e) h = (entered_law (table_of table) (admission_admitted table p.0 p.1) f.0.0).0 e
    go _ (made p f e) h = Readings.not_refused (sym h)

-- what an answer and a buffer promise that are the call's
module _ (table : List ℕ) (records : ℕ) (buffer after : List ℕ) (a : Answer) (e : a ≡ make_answer table (length buffer) records)
    (w : after ≡ make_buffer table records buffer) where
  pub promises_list : (k : ℕ) → a ≡ accepted k
      → Passes table
      × RegionListOf (table_of table) (list_in (table_of table) k after) k
      × (list_answer table (list_in (table_of table) k after) ≡ accepted k)
  promises_list k h = let (p, file, is, _) = make_accepts_in table records buffer k (sym e ∙ h) in rw w (p, file, is)

  pub promises_empty : (k : ℕ) → a ≡ accepted k → Reached (table_of table) → ⊥
  promises_empty k h = (make_accepts table records buffer k (sym e ∙ h)).3

  pub promises_reached : (place : ℕ) → a ≡ refused 21 place → Reached (table_of table)
  promises_reached place h = make_reached table (length buffer) records place (sym e ∙ h)

-- and wherever one does, if the list of the kept rows fits
pub make_finds : (table : List ℕ) → Passes table → (room records : ℕ) → Fits (table_of table) room records → Reached (table_of table)
    → make_answer table room records ≡ refused 21 0
unfolding make_answer
make_finds table (k, p) room records f g =
    let (rest, e, _) = admission_read table k p in
    ap (answered length) (make_entered table e room records f ((entered_law (table_of table) (admission_admitted table k p) f.0.0).1 g))

-- where a closed list has at most 4,096 rows and fits, a list of no more rows is made
pub make_succeeds : (table : List ℕ) → Passes table → (rows : List Row) → Closed (table_of table) rows → length rows ≤ 4096
    → (room records : ℕ) → length (list_bytes rows) ≤ room → 4096 ≤ records
    → (make_answer table room records ≡ accepted (length (kept (table_of table)))) × (length (kept (table_of table)) ≤ length rows)
unfolding make_answer
make_succeeds table (k, p) rows C few room records fits many =
    let (rest, e, _) = admission_read table k p in
    let small : length (kept T) ≤ 4096 = omega (arith, fewer) in
    (ap (answered length) (make_rows table e room records ((small, omega (arith, less)), many) (not_entered small)), fewer)
  where
    T : Table
    T = table_of table

    A : Admitted T
    A = admission_admitted table k p

    fewer : length (kept T) ≤ length rows
    fewer = kept_fewest T A rows C

    less : length (list_bytes (kept T)) ≤ length (list_bytes rows)
    less = fewer_bytes T (kept T) rows (λ r m. kept_row T A (kept_sound T r m)) C.are_rows fewer

    not_entered : length (kept T) ≤ 4096 → enters T (kept T) ≡ false
    not_entered l = fails (enters T (kept T)) (entered_law T A l) (sound T rows C)

-- "After a refusal here the buffer is all zero"
pub make_clears : (table : List ℕ) (records : ℕ) (buffer : List ℕ) (n place : ℕ) → make_answer table (length buffer) records ≡ refused n place
    → make_buffer table records buffer ≡ replicate (length buffer) 0
unfolding make_answer make_buffer
make_clears table records buffer n place h = go (making table (length buffer) records) h
  where
    go : (r : Read (List Row)) → answered length r ≡ refused n place → made_in r buffer ≡ replicate (length buffer) 0
    go (good rows rest) h = Readings.not_refused (sym h)
    go (bad number p) h = refl

-- the buffer keeps its length
pub make_buffer_length : (table : List ℕ) (records : ℕ) (buffer : List ℕ) → length (make_buffer table records buffer) ≡ length buffer
unfolding make_buffer
make_buffer_length table records buffer = go (making table (length buffer) records) (make_outcome table (length buffer) records)
  where
    zeros : length {A = ℕ} (replicate (length buffer) 0) ≡ length buffer
    zeros = length-replicate (length buffer) 0

    go : (r : Read (List Row)) → Outcome table (length buffer) records r → length (made_in r buffer) ≡ length buffer
    go _ (not_admitted number place e) = zeros
    go _ (not_fit p out) = zeros
    go _ (entered p f e) = zeros
    go _ (made p f e) =
        let b : List ℕ = list_bytes (kept (table_of table)) in
        length-append b (drop (length b) buffer) ∙ (omega (arith, length-drop (length b) buffer, f.0.1))
