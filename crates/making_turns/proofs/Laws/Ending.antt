-- How work ends: with too many rows, with a final location that is entered, or with the list. Assumes nothing.
use Prim.Native.Nat.{ℕ, suc, ◌+◌, ◌*◌, ◌%◌, ◌≤◌, ◌<◌}
use native.Mathlib.Omega.{arith}
use mathlib.Core.Path.{◌≡◌, sym, ap, subst, ◌∙◌}
use mathlib.Core.Bool.{true, false}
use mathlib.Core.Logic.{◌⊎◌, inl, inr}
use mathlib.Core.List.{List, ◌++◌}
use lib.ListN.{length, drop, replicate}
use Rattle.std.specs.Prelude.{Some, Result, Ok, Err}
use Rattle.std.proofs.lemmas.Option.{none-some, same_Some}
use Rattle.automata.specs.Row.{Row}
use Rattle.automata.specs.Automaton.{Table}
use Rattle.automata.specs.Closed.{Mem, Ascends}
use Rattle.automata.specs.Checks.{has}
use Rattle.automata.specs.Kept.{insert, kept, enters, Kept}
use Rattle.automata.proofs.Laws.Tests.{refutes}
use Rattle.automata.proofs.Laws.Checks.{has_law}
use Rattle.regions.specs.Values.{row_of}
use Rattle.regions.specs.declared.region.Region.{Region}
use Rattle.table_files.specs.Answer.{accepted}
use Rattle.table_files.specs.Reading.{good, bad}
use Rattle.table_files.specs.Admission.{admitted, table_of}
use Rattle.table_files.proofs.Laws.Admission.{admission_read}
use Rattle.table_records.specs.declared.refusal.Refusal.{Refusal}
use Rattle.table_records.specs.Refusal.{number_of}
use Rattle.calls.specs.RegionFile.{row_width, list_bytes}
use Rattle.calls.specs.Making.{making}
use Rattle.listed_rows.specs.Listed.{listed_rows}
use Rattle.listed_rows.proofs.Laws.Listed.{listed_length}
use Rattle.making_turns.specs.declared.work.Work as work_code
use Rattle.table_records.specs.declared.head.Head.{Head}
use Rattle.making_turns.specs.Work.{Standing, Ended, Loops, refusing, Comes}
use Rattle.automata.proofs.Laws.Insert.{insert_ascends, insert_out, insert_length}
use Rattle.automata.proofs.Laws.Kept.{kept_row}
use Rattle.calls.proofs.Laws.Making.{Fits, list_bytes_length, make_overfull, make_entered, make_rows, make_told}
use Rattle.making_turns.proofs.Laws.Growing.{grown_kept, grown_enters}
use Rattle.making_turns.proofs.Laws.Adding.{comes_kept}
use Rattle.making_turns.proofs.Laws.Standing.{edges_are}
use Rattle.making_turns.proofs.Laws.Turning.{is_admitted}

module _ {table before : List ℕ} {records : ℕ} {out : List ℕ} {ws : List Region} {s : work_code.Work Head} (S : Standing table before records out ws s) where
  abbrev T : Table
  T = table_of table

  abbrev n : ℕ
  n = s.head.clocks.count

  abbrev rows : List Row
  rows = listed_rows n out s.count

  reads : (rest : List ℕ) × (admitted table ≡ good T rest)
  reads = let (k, p) = S.describes.passes in let (rest, e, _) = admission_read table k p in (rest, e)

  -- the bytes of rows that are kept
  bytes_of : (xs : List Row) → ((r : Row) → Mem r xs → Kept T r) → length (list_bytes xs) ≡ 4 + length xs * row_width n
  bytes_of xs are =
      subst (λ (w : ℕ). length (list_bytes xs) ≡ 4 + length xs * row_width w) (sym S.describes.count)
      (list_bytes_length T xs (λ r i. kept_row T (is_admitted S) (are r i)))

  -- one row too many -------------------------------------------------------------------------------------------------------------------------

  pub overfull : (x : Region) → Comes T rows (row_of n x) → (4096 < suc s.count) ⊎ (length before < 4 + suc s.count * row_width n)
      → making table (length before) records ≡ bad 20 0
  overfull x C w = let (rest, e) = reads in make_overfull table e (length before) records more more_ascends more_kept (over w)
    where
      more : List Row
      more = insert (row_of n x) rows

      more_ascends : Ascends more
      more_ascends = insert_ascends (row_of n x) rows S.grown.ascends

      kept_or : (r : Row) → (r ≡ row_of n x) ⊎ Mem r rows → Kept T r
      kept_or r (inl q) =
          rw q (comes_kept T (is_admitted S) s.head.clocks S.describes.bounds before out s.count s.start s.top s.last.step s.walking s.last.entered S.grown
          (row_of n x) C)
      kept_or r (inr i) = S.grown.kept r i

      more_kept : (r : Row) → Mem r more → Kept T r
      more_kept r i = kept_or r (insert_out (row_of n x) rows r i)

      more_length : length more ≡ suc s.count
      more_length =
          insert_length (row_of n x) rows (refutes (has rows (row_of n x)) (has_law rows (row_of n x)) C.is_new.is_new) ∙ ap suc (listed_length n out s.count)

      over : (4096 < suc s.count) ⊎ (length before < 4 + suc s.count * row_width n) → (4096 < length more) ⊎ (length before < length (list_bytes more))
      over (inl h) = inl (omega (arith, more_length))
      over (inr h) = inr (rw (bytes_of more more_kept, more_length) h)

  -- all rows are settled ---------------------------------------------------------------------------------------------------------------------

  module _ (w : s.walking ≡ true) (all : s.last.step ≡ suc s.head.edges) (whole : s.count ≤ s.top) where
    top_is : s.top ≡ s.count
    top_is = omega (arith, S.grown.high)

    all_edges : s.last.step ≡ suc (length T.edges)
    all_edges = all ∙ ap suc (edges_are S)

    kept_are : kept T ≡ rows
    kept_are = grown_kept S.grown w all_edges top_is

    enters_are : enters T (kept T) ≡ s.last.entered
    enters_are =
        ap (enters T) kept_are
        ∙ grown_enters S.grown w all_edges top_is

    rows_length : length (list_bytes rows) ≡ 4 + s.count * row_width n
    rows_length = bytes_of rows S.grown.kept ∙ ap (λ (c : ℕ). 4 + c * row_width n) (listed_length n out s.count)

    fits : Fits T (length before) records
    fits = (
      (
        rw kept_are (rw (listed_length n out s.count) S.grown.listed.short),
        rw kept_are (rw rows_length (omega (arith, S.grown.listed.room, S.grown.same_length))),
      ),
      S.enough,
    )

    pub final_entered : s.last.entered ≡ true → making table (length before) records ≡ bad 21 0
    final_entered h = let (rest, e) = reads in make_entered table e (length before) records fits (enters_are ∙ h)

    pub list_ends : s.last.entered ≡ false → (out' : List ℕ) → out' ≡ list_bytes rows ++ drop (4 + s.count * row_width n) out → Ended table before records out' (Ok (s.count % 65536))
    list_ends h out' q =
        let (rest, e) = reads in
        let (a, b) = make_told table records before (make_rows table e (length before) records fits (enters_are ∙ h)) in
        record { answer = ap accepted (small ∙ count_is) ∙ sym a; buffer = q ∙ ap (λ (l : List ℕ). list_bytes rows ++ l) S.grown.rest ∙ rest_is ∙ sym b }
      where
        small : s.count % 65536 ≡ s.count
        small = omega (arith, S.grown.listed.short)

        count_is : s.count ≡ length (kept T)
        count_is = sym (listed_length n out s.count) ∙ ap length (sym kept_are)

        rest_is : list_bytes rows ++ drop (4 + s.count * row_width n) before ≡ list_bytes (kept T) ++ drop (length (list_bytes (kept T))) before
        rest_is =
            subst (λ (l : List Row). list_bytes rows ++ drop (4 + s.count * row_width n) before ≡ list_bytes l ++ drop (length (list_bytes l)) before) (sym kept_are)
            (ap (λ (m : ℕ). list_bytes rows ++ drop m before) (sym rows_length))

-- loops that have ended ------------------------------------------------------------------------------------------------------------------------

-- the room is that of the buffer as it was lent
pub short_before : (count w : ℕ) (out before : List ℕ) → length out ≡ length before → (4096 < suc count) ⊎ (length out < 4 + suc count * w)
    → (4096 < suc count) ⊎ (length before < 4 + suc count * w)
short_before count w out before e (inl h) = inl h
short_before count w out before e (inr h) = inr (rw e at h)

module _ {table before : List ℕ} {records : ℕ} {out : List ℕ} where
  -- what the definitions refuse: the buffer is cleared
  pub refused_ends : (r : Refusal) (lent : List ℕ) → making table (length before) records ≡ bad (number_of r.fault) r.place → length lent ≡ length before
      → out ≡ replicate (length lent) 0 → Ended table before records out (Err r)
  refused_ends r lent e same cleared =
      let (a, b) = make_told table records before e in
      record { answer = sym a; buffer = cleared ∙ ap (λ (k : ℕ). replicate k 0) same ∙ sym b }

  -- with an answer
  pub ended_loops : {ws : List Region} (a : Result ℕ Refusal) {q : work_code.Work Head} → q.ended ≡ Some a → Ended table before records out a → Loops table before records out ws q
  ended_loops a e E = record {
    goes = λ g. absurd (none-some a (sym g ∙ e));
    ends = λ a' g. rw (same_Some a a' (sym e ∙ g)) at E;
  }

  -- with a refusal
  pub refused_loops : {ws : List Region} (s : work_code.Work Head) {q : work_code.Work Head} {r : Refusal} (lent : List ℕ) → q ≡ refusing s r → making table (length before) records ≡ bad (number_of r.fault) r.place
      → length lent ≡ length before → out ≡ replicate (length lent) 0 → Loops table before records out ws q
  refused_loops s {r = r} lent e m same cleared = ended_loops (Err r) (ap (λ (w : work_code.Work Head). w.ended) e) (refused_ends r lent m same cleared)
