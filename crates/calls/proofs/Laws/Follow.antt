-- Following writes the next rows, ascending, and nothing else. Assumes nothing.
use Prim.Native.Nat.{ℕ, ◌≤◌, ◌<◌}
use native.Mathlib.Omega.{arith}
use mathlib.Core.Path.{◌≡◌, refl, sym, ap, ◌∙◌}
use mathlib.Core.Bool.{Bool, true, false, cond}
use mathlib.Core.Logic.{◌⊎◌, inl, inr, ◌↔◌}
use mathlib.Core.List.{List, [], ◌++◌, append-nil}
use lib.ListN.{length, drop, length-append, length-drop}
use lib.Dec.{eqb}
use borrow.Author.Tests.{eqb-true, leb-true, le-leb}
use Rattle.automata.specs.Row.{Row}
use Rattle.automata.specs.Automaton.{Table, Admitted}
use Rattle.automata.specs.Closed.{Mem, Ascends, RowOf}
use Rattle.automata.specs.Next.{EdgeSuccessor, time_successors, edge_successors}
use Rattle.automata.proofs.Laws.Tests.{never, eqb_law, ltb_law, or_law}
use Rattle.automata.proofs.Laws.Next.{time_successors_law, time_successors_ascend, edge_successors_law, edge_successors_ascend}
use Rattle.table_files.specs.Answer.{Answer, accepted, refused}
use Rattle.table_files.specs.Reading.{Read, good, bad, end, answered}
use Rattle.table_files.specs.Admission.{table_of}
use Rattle.calls.specs.RegionFile.{row_record, row_bytes, rows_bytes}
use Rattle.calls.specs.Follow.{followed, rows_followed, following, follow_answer, written, follow_buffer}
use Rattle.table_files.specs.Meaning.{Passes, Limits}
use Rattle.calls.specs.Meaning.{Follows, Written}
use Rattle.table_files.proofs.Laws.Reading.{parts, tested, ended, goes, passes, not_refused}
use Rattle.table_files.proofs.Laws.Admission.{read_admitted, read_limits, admission_read, read_admission}
use Rattle.calls.proofs.Laws.Rows.{row_read, row_record_back}

-- a number to follow
abbrev Number : Table → ℕ → Type 0
Number T number = (number < length T.edges) ⊎ (number ≡ 65535)

module _ (T : Table) (A : Admitted T) (M : Limits T) where
  -- the rows are the next rows by this number, ascending
  next_of : (number : ℕ) (r : Row) → RowOf T r → Number T number
      → Ascends (followed T number r) × ((r' : Row) → Mem r' (followed T number r) ↔ Follows T number r r')
  unfolding followed
  next_of number r R n = go (eqb number 65535) refl n
    where
      go : (b : Bool) → eqb number 65535 ≡ b → Number T number
          → Ascends (cond b (time_successors T r) (edge_successors T number r))
          × ((r' : Row) → Mem r' (cond b (time_successors T r) (edge_successors T number r)) ↔ Follows T number r r')
      go true e n = (time_successors_ascend T r, λ r'. (λ m. inl (eqb-true number 65535 e, (time_successors_law T r r').0 m), back r'))
        where
          back : (r' : Row) → Follows T number r r' → Mem r' (time_successors T r)
          back r' (inl w) = (time_successors_law T r r').1 w.1
          back r' (inr l) = absurd (omega (arith, eqb-true number 65535 e, l.0, M.few_edges))
      go false e (inr x) = let z : true ≡ false = sym ((eqb_law number 65535).1 x) ∙ e in never (sym z)
      go false e (inl l) = (edge_successors_ascend T number r, λ r'. (λ m. inr (l, (law r').0 m), back r'))
        where
          law : (r' : Row) → Mem r' (edge_successors T number r) ↔ EdgeSuccessor T number r r'
          law r' = edge_successors_law T A number l r r' R.is_row

          back : (r' : Row) → Follows T number r r' → Mem r' (edge_successors T number r)
          back r' (inl w) = absurd (omega (arith, w.0, M.few_edges))
          back r' (inr d) = (law r').1 d.1

  rows_written : (number : ℕ) (buffer file : List ℕ) (rows : List Row) (left : List ℕ) → rows_followed T number (length buffer) file ≡ good rows left
      → Written T file number buffer (rows_bytes rows ++ drop (length (rows_bytes rows)) buffer) (length rows)
  unfolding rows_followed
  rows_written number buffer file rows left h =
      parts _ _ h λ r f1 e1 h1.
      parts _ _ h1 λ u f2 e2 h2.
      tested _ _ _ _ _ h2 λ t3 h3.
      tested _ _ _ _ _ h3 λ t4 h4.
      let x : followed T number r ≡ rows = cc in
      let (R, w) = row_read T 0 file r f1 e1 in
      let (a, n) = next_of number r R ((or_law _ _ (ltb_law number (length T.edges)) (eqb_law number 65535)).0 t3) in
      rw (← x) (record {
        from = r;
        bytes = w ∙ ap (λ (l : List ℕ). row_bytes r ++ l) (ended 9 1 f1 e2) ∙ append-nil (row_bytes r);
        is_row = R;
        rows = followed T number r;
        ascend = a;
        exact = n;
        sized = refl;
        fits = leb-true (length (rows_bytes (followed T number r))) (length buffer) t4;
        written = refl;
      })

-- what an accepted call has written
pub follow_law : (table row : List ℕ) (number : ℕ) (buffer : List ℕ) (k : ℕ) → follow_answer table row number buffer ≡ accepted k
    → Passes table × Written (table_of table) row number buffer (follow_buffer table row number buffer) k
unfolding follow_answer follow_buffer following
follow_law table row number buffer k h = go (following table row number buffer) refl h
  where
    go : (r : Read (List Row)) → following table row number buffer ≡ r → answered length r ≡ accepted k → Passes table × Written (table_of table) row number buffer (written r buffer) k
    go (good rows left) e h =
        let n : length rows ≡ k = cc in
        parts _ _ e λ T rest a g.
        let (p, t) = read_admission table a in
        ((_, p), rw (t, ← n) (rows_written T (read_admitted table T rest a) (read_limits table T rest a) number buffer row rows left g))
    go (bad number place) e h = not_refused h

-- a row of the table is followed by every edge and by waiting, given room
pub follow_accepts : (table : List ℕ) → Passes table → (r : Row) → RowOf (table_of table) r → (number : ℕ) → (number < length (table_of table).edges) ⊎ (number ≡ 65535)
    → (buffer : List ℕ) → length (rows_bytes (followed (table_of table) number r)) ≤ length buffer
    → follow_answer table (row_bytes r) number buffer ≡ accepted (length (followed (table_of table) number r))
unfolding follow_answer following rows_followed end
follow_accepts table (k, p) r R number n buffer room =
    let T = table_of table in
    let (rest, e, _) = admission_read table k p in
    ap (answered length)
    (goes _ _ T rest e
    ∙ goes _ _ r [] (ap (row_record T 0) (sym (append-nil (row_bytes r))) ∙ row_record_back T 0 r [] R)
    ∙ goes _ _ tt [] refl
    ∙ goes _ _ tt [] (passes 18 0 _ [] ((or_law _ _ (ltb_law number (length T.edges)) (eqb_law number 65535)).1 n))
    ∙ goes _ _ tt [] (passes 19 0 _ [] (le-leb (length (rows_bytes (followed T number r))) (length buffer) room)))

-- a refusal alters no byte
pub refusal_keeps : (table row : List ℕ) (number : ℕ) (buffer : List ℕ) (n p : ℕ) → follow_answer table row number buffer ≡ refused n p → follow_buffer table row number buffer ≡ buffer
unfolding follow_answer follow_buffer
refusal_keeps table row number buffer n p h = go (following table row number buffer) h
  where
    go : (r : Read (List Row)) → answered length r ≡ refused n p → written r buffer ≡ buffer
    go (good rows left) h = let z : ◌≡◌ {A = ℕ} 0 1 = cc in absurd (omega arith)
    go (bad number place) h = refl

-- the buffer keeps its length
pub buffer_length : (table row : List ℕ) (number : ℕ) (buffer : List ℕ) → length (follow_buffer table row number buffer) ≡ length buffer
buffer_length table row number buffer = go (follow_answer table row number buffer) refl
  where
    go : (a : Answer) → follow_answer table row number buffer ≡ a → length (follow_buffer table row number buffer) ≡ length buffer
    go (accepted k) e =
        let w = (follow_law table row number buffer k e).1 in
        rw w.written (simp (length-append, length-drop) (omega (arith, w.fits)))
    go (refused n p) e = ap length (refusal_keeps table row number buffer n p e)
