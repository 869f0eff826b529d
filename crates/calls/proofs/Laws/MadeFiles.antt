-- The file that is written for a table: it is what the buffer begins with, it has so many bytes, and the program that checks papers says EMPTY of it.
-- Assumes nothing.
use Prim.Native.Nat.{ℕ, ◌+◌, ◌*◌, ◌≤◌, ◌<◌}
use native.Mathlib.Nat.{mul-le-mul_right}
use native.Mathlib.Omega.{arith}
use mathlib.Core.Path.{◌≡◌, refl, ap, ◌∙◌}
use mathlib.Core.List.{List, []}
use lib.ListN.{length, take, drop}
use lib.Seq.{take_at}
use Rattle.automata.specs.Row.{Row}
use Rattle.automata.specs.Automaton.{Table, clocks}
use Rattle.automata.specs.Closed.{Closed}
use Rattle.automata.specs.Kept.{kept}
use Rattle.automata.proofs.Laws.Kept.{kept_sound, kept_row, kept_closed}
use Rattle.table_files.specs.Answer.{Answer, accepted, refused}
use Rattle.table_files.specs.Reading.{Read, good, bad, carry, answered}
use Rattle.table_files.specs.Admission.{table_of}
use Rattle.table_files.specs.Meaning.{Passes, Limits}
use Rattle.table_files.proofs.Laws.Reading as Readings
use Rattle.table_files.proofs.Laws.Admission.{admission_admitted, admission_limits}
use Rattle.calls.specs.RegionFile.{row_width, list_bytes}
use Rattle.calls.specs.Making.{rows_made, making, make_answer, made_in, make_buffer}
use Rattle.calls.specs.Program.{printed, printed_line, longest_list, file_of, made_file}
use Rattle.calls.proofs.Laws.Rows.{row_width_is}
use Rattle.calls.proofs.Laws.RegionLists.{closed_accepted}
use Rattle.calls.proofs.Laws.Making.{list_bytes_length, Outcome, not_admitted, not_fit, entered, made, make_outcome, make_succeeds}
use Rattle.calls.proofs.Laws.Prefix.{admitted_prefix}

-- how long it is -----------------------------------------------------------------------------------------------------------------

-- so many bytes, by the answer and the table's clocks
abbrev pub file_length : ℕ → Answer → ℕ
file_length n (accepted rows) = 4 + rows * row_width n
file_length n (refused number place) = 0

pub made_length : (table : List ℕ) → length (made_file table) ≡ file_length (clocks (table_of table)) (make_answer table longest_list 4096)
unfolding made_file make_answer
made_length table = go (making table longest_list 4096) (make_outcome table longest_list 4096)
  where
    T : Table
    T = table_of table

    go : (r : Read (List Row)) → Outcome table longest_list 4096 r → length (file_of r) ≡ file_length (clocks T) (answered length r)
    go _ (not_admitted number place e) = refl
    go _ (not_fit p out) = refl
    go _ (entered p f e) = refl
    go _ (made p f e) =
        let A = admission_admitted table p.0 p.1 in
        list_bytes_length T (kept T) (λ r m. kept_row T A (kept_sound T r m))

pub made_room : (table : List ℕ) → length (made_file table) ≤ longest_list
unfolding made_file
made_room table = go (making table longest_list 4096) (make_outcome table longest_list 4096)
  where
    go : (r : Read (List Row)) → Outcome table longest_list 4096 r → length (file_of r) ≤ longest_list
    go _ (not_admitted number place e) = omega arith
    go _ (not_fit p out) = omega arith
    go _ (entered p f e) = omega arith
    go _ (made p f e) = f.0.1

-- where it stands ----------------------------------------------------------------------------------------------------------------

-- a buffer of that length begins with it after the call
pub made_first : (table buffer : List ℕ) → length buffer ≡ longest_list → take (length (made_file table)) (make_buffer table 4096 buffer) ≡ made_file table
unfolding made_file make_buffer
made_first table buffer long = rw long (go (making table longest_list 4096))
  where
    go : (r : Read (List Row)) → take (length (file_of r)) (made_in r buffer) ≡ file_of r
    go (good rows rest) = take_at (list_bytes rows) (drop (length (list_bytes rows)) buffer) (length (list_bytes rows)) refl
    go (bad number place) = refl

-- the first 12,748 bytes of a table tell
pub made_prefix : (n : ℕ) → 12747 < n → (table : List ℕ) → made_file (take n table) ≡ made_file table
unfolding made_file making
made_prefix n l table = ap (λ (r : Read Table). file_of (carry r (λ T _. rows_made T longest_list 4096 []))) (admitted_prefix n l table)

-- what it says -------------------------------------------------------------------------------------------------------------------

-- "a closed list": the file of one, of which `EMPTY` is printed with the count that was printed when it was made
pub made_empty : (table : List ℕ) (k : ℕ) → make_answer table longest_list 4096 ≡ accepted k → printed_line table (made_file table) ≡ printed "EMPTY" (accepted k)
unfolding make_answer made_file
made_empty table k = go (making table longest_list 4096) (make_outcome table longest_list 4096)
  where
    T : Table
    T = table_of table

    go : (r : Read (List Row)) → Outcome table longest_list 4096 r → answered length r ≡ accepted k → printed_line table (file_of r) ≡ printed "EMPTY" (accepted k)
    go _ (not_admitted number place e) h = Readings.not_refused h
    go _ (not_fit p out) h = Readings.not_refused h
    go _ (entered p f e) h = Readings.not_refused h
    go _ (made p f e) h =
        let A = admission_admitted table p.0 p.1 in
        ap (printed "EMPTY") (closed_accepted table p (kept T) (kept_closed T A f.0.0 e) f.0.0 ∙ h)

-- a list is made wherever a closed list has at most 4,096 rows, and none has fewer
pub made_wherever : (table : List ℕ) → Passes table → (rows : List Row) → Closed (table_of table) rows → length rows ≤ 4096
    → (make_answer table longest_list 4096 ≡ accepted (length (kept (table_of table)))) × (length (kept (table_of table)) ≤ length rows)
made_wherever table (k, p) rows C few =
    let T : Table = table_of table in
    let L : Limits T = admission_limits table k p in
    let wide : length rows * row_width (clocks T) ≤ 4096 * row_width (clocks T) = mul-le-mul_right (row_width (clocks T)) few in
    make_succeeds table (k, p) rows C few longest_list 4096 (omega (arith, list_bytes_length T rows C.are_rows, row_width_is (clocks T), L.few_clocks)) (omega arith)
