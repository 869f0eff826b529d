-- A region list is accepted just if it is closed, and refused with 17 just where the first row lacks a next row. Assumes nothing.
use Prim.Native.Nat.{ℕ, suc, ◌+◌, ◌≤◌, ◌<◌}
use native.Mathlib.Omega.{arith}
use mathlib.Core.Path.{◌≡◌, refl, ap, sym, ◌∙◌}
use mathlib.Core.Bool.{Bool, true, false, not}
use mathlib.Core.Logic.{inl, inr, ◌↔◌}
use mathlib.Core.List.Memᴰ
use mathlib.Core.List.{List, [], ◌∷◌}
use lib.ListN.{length, get_or}
use borrow.Author.Tests.{not-true}
use Rattle.automata.specs.Row.{Row}
use Rattle.automata.specs.Automaton.{Table, Admitted, final}
use Rattle.automata.specs.Closed.{Mem, first_row, Ascends, RowOf, Closed}
use Rattle.automata.specs.Next.{Next, next_rows}
use Rattle.automata.specs.Checks.{has, belowb}
use Rattle.automata.proofs.Laws.Tests.{fails, refutes, never}
use Rattle.automata.proofs.Laws.Members.{get_or_in}
use Rattle.automata.proofs.Laws.Next.{next_rows_law}
use Rattle.automata.proofs.Laws.Checks.{belowb_law, has_law}
use Rattle.table_files.specs.Bytes.{AreBytes}
use Rattle.table_files.specs.Answer.{accepted, refused}
use Rattle.table_files.specs.Reading.{Read, good, bad, Reader, carry, done, require, answered}
use Rattle.table_files.specs.Admission.{admitted, table_of}
use Rattle.calls.specs.RegionFile.{region_file, rows_read, rows_of, list_bytes, ascending, none_final, none_open, list_checked, list_answer}
use Rattle.table_files.specs.Meaning.{Passes}
use Rattle.calls.specs.Meaning.{RegionListOf, Lacks, OpenListOf}
use Rattle.table_files.proofs.Laws.Reading.{not_good, cons_all, parts, tested, goes, passes}
use Rattle.table_files.proofs.Laws.Admission.{read_admitted, admission_read, read_admission, admission_admitted}
use Rattle.calls.proofs.Laws.Refusals.{Tame, not_bad, answered_good, answered_bad, tame_admitted, tame_region_file, tame_ascending, tame_none_final}
use Rattle.calls.proofs.Laws.Open.{not_every, get_or_any, full, full_law, all_full, full_passes, LeastOpen, least_refused, refused_least}
use Rattle.calls.proofs.Laws.Rows.{RowsRead, rows_read_law, file_back}

-- 14 to 16 -------------------------------------------------------------------------------------------------------------------

pub ascends : (place : ℕ) (rows : List Row) (f : List ℕ) {u : Unit {0}} {left : List ℕ} → ascending place rows f ≡ good u left → Ascends rows
unfolding ascending
ascends place [] f h = tt
ascends place (r ∷ []) f h = tt
ascends place (r ∷ (s ∷ rows)) f h =
    tested _ _ _ _ _ h λ t1 h1.
    ((belowb_law r s).0 t1, ascends (place + 1) (s ∷ rows) f h1)

ascends_passes : (place : ℕ) (rows : List Row) (f : List ℕ) → Ascends rows → ascending place rows f ≡ good tt f
unfolding ascending
ascends_passes place [] f a = refl
ascends_passes place (r ∷ []) f a = refl
ascends_passes place (r ∷ (s ∷ rows)) f a =
    goes _ _ tt f (passes 14 (place + 1) (belowb r s) f ((belowb_law r s).1 a.0)) ∙ ascends_passes (place + 1) (s ∷ rows) f a.1

no_final : (T : Table) (place : ℕ) (rows : List Row) (f : List ℕ) {u : Unit {0}} {left : List ℕ} → none_final T place rows f ≡ good u left
    → (r : Row) → Mem r rows → final T r.location ≡ false
unfolding none_final
no_final T place [] f h r m = absurd (Memᴰ.not-nil m)
no_final T place (s ∷ rows) f h r m =
    tested _ _ _ _ _ h λ t1 h1.
    cons_all (λ (x : Row). final T x.location ≡ false) (not-true (final T s.location) t1) (no_final T (place + 1) rows f h1) r m

final_passes : (T : Table) (place : ℕ) (rows : List Row) (f : List ℕ) → ((r : Row) → Mem r rows → final T r.location ≡ false) → none_final T place rows f ≡ good tt f
unfolding none_final
final_passes T place [] f h = refl
final_passes T place (r ∷ rows) f h =
    goes _ _ tt f (passes 15 place (not (final T r.location)) f (ap not (h r (Memᴰ.head refl))))
    ∙ final_passes T (place + 1) rows f (λ s m. h s (Memᴰ.tail m))

-- the rows that pass 7 to 9 and 14 to 16
record RowsChecked (T : Table) (file : List ℕ) (rows : List Row) : Type 0 where
  read : RowsRead T file rows
  rows_are : rows_of T file ≡ rows
  ascend : Ascends rows
  not_final : (r : Row) → Mem r rows → final T r.location ≡ false
  starts : Mem (first_row T) rows

-- such rows are read from their bytes, and 17 is left
module _ (T : Table) (rows : List Row) (are_rows : (r : Row) → Mem r rows → RowOf T r) (few : length rows ≤ 4096) where
  rows_pass : Ascends rows → ((r : Row) → Mem r rows → final T r.location ≡ false) → Mem (first_row T) rows
      → list_checked T (list_bytes rows) ≡ carry (none_open T rows 1 rows []) (λ _. done rows)
  unfolding list_checked
  rows_pass ascend not_final starts =
      goes _ _ rows [] (file_back T rows are_rows few)
      ∙ goes _ _ tt [] (ascends_passes 1 rows [] ascend)
      ∙ goes _ _ tt [] (final_passes T 1 rows [] not_final)
      ∙ goes _ _ tt [] (passes 16 0 (has rows (first_row T)) [] ((has_law rows (first_row T)).1 starts))

-- next rows ------------------------------------------------------------------------------------------------------------------

module _ (T : Table) (A : Admitted T) (rows : List Row) (are_rows : (r : Row) → Mem r rows → RowOf T r) where
  next_law : (r r' : Row) → Mem r rows → Mem r' (next_rows T r) ↔ Next T r r'
  next_law r r' m = next_rows_law T A r r' (are_rows r m)

  closed : (file : List ℕ) → RowsChecked T file rows → ((r : Row) → Mem r rows → full T rows r ≡ true) → Closed T rows
  closed file C fulls = record {
    ascends = C.ascend;
    are_rows = are_rows;
    starts = C.starts;
    not_final = C.not_final;
    waits = λ r r' m w. follow r r' m (inl w);
    leads = λ r r' i m l d. follow r r' m (inr (i, l, d));
  }
    where
      follow : (r r' : Row) → Mem r rows → Next T r r' → Mem r' rows
      follow r r' m n = (full_law T rows r).0 (fulls r m) r' ((next_law r r' m).1 n)

  closed_full : Closed T rows → (r : Row) → Mem r rows → full T rows r ≡ true
  closed_full C r m = (full_law T rows r).1 (λ r' k. go r' ((next_law r r' m).0 k))
    where
      go : (r' : Row) → Next T r r' → Mem r' rows
      go r' (inl w) = C.waits r r' m w
      go r' (inr (i, l, d)) = C.leads r r' i m l d

  -- the row of this number is not full just if it lacks a next row
  lacks_law : (i : ℕ) → i < length rows → (d : Row) → (full T rows (get_or rows i d) ≡ false) ↔ Lacks T rows (suc i)
  lacks_law i l d = (to, from)
    where
      r : Row
      r = get_or rows i d

      to : full T rows r ≡ false → Lacks T rows (suc i)
      to f =
          let (r', k, n) = not_every (has rows) (next_rows T r) f in
          record {
            number = i;
            place_is = refl;
            number_in = l;
            row = r;
            row_is = λ d'. get_or_any rows i l d' d;
            next = r';
            leads = (next_law r r' (get_or_in rows i d l)).0 k;
            missing = refutes (has rows r') (has_law rows r') n;
          }

      from : Lacks T rows (suc i) → full T rows r ≡ false
      from k =
          let n : i ≡ k.number = omega (arith, k.place_is) in
          let q : r ≡ k.row = ap (λ (j : ℕ). get_or rows j d) n ∙ k.row_is d in
          let m = (next_law r k.next (get_or_in rows i d l)).1 (rw q k.leads) in
          fails (full T rows r) (full_law T rows r) (λ all. k.missing (all k.next m))

  -- the first of them
  least_law : (place : ℕ) (f : List ℕ) → (none_open T rows 1 rows f ≡ bad 17 place) ↔ (Lacks T rows place × ((before : ℕ) → before < place → Lacks T rows before → ⊥))
  least_law place f = (λ h. let (i, p, L) = refused_least T rows d 1 rows f place h in let q : place ≡ suc i = omega arith in rw q (to i L), λ t. from t.0 t.1)
    where
      d : Row
      d = first_row T

      to : (i : ℕ) → LeastOpen T rows d rows i → Lacks T rows (suc i) × ((before : ℕ) → before < suc i → Lacks T rows before → ⊥)
      to i L = (
        (lacks_law i L.within d).0 L.here,
        λ before l k.
            let j = k.number in
            let o = (lacks_law j k.number_in d).1 (rw (← k.place_is) k) in
            never (sym o ∙ L.before j (omega (arith, k.place_is))),
      )

      from : Lacks T rows place → ((before : ℕ) → before < place → Lacks T rows before → ⊥) → none_open T rows 1 rows f ≡ bad 17 place
      from k first =
          let i = k.number in
          least_refused T rows d 1 rows f i (record {
            within = k.number_in;
            here = (lacks_law i k.number_in d).1 (rw (← k.place_is) k);
            before = λ j l. earlier j l (full T rows (get_or rows j d)) refl;
          })
          ∙ ap (bad 17) (omega (arith, k.place_is))
        where
          earlier : (j : ℕ) → j < k.number → (b : Bool) → full T rows (get_or rows j d) ≡ b → b ≡ true
          earlier j l true e = refl
          earlier j l false e = absurd (first (suc j) (omega (arith, k.place_is)) ((lacks_law j (omega (arith, k.number_in)) d).0 e))

-- a refusal is carried on
stops : {A B : Type 0} (r : Read A) (next : A → Reader B) {number place : ℕ} → r ≡ bad number place → carry r next ≡ bad number place
unfolding carry
stops r next e = rw e

stopped : {A B : Type 0} (r : Read A) (b : B) {number place : ℕ} → carry r (λ _. done b) ≡ bad number place → r ≡ bad number place
unfolding carry
stopped (good a rest) b h = not_bad h
stopped (bad n p) b {number} {place} h = let i : n ≡ number = cc in let j : p ≡ place = cc in rw (i, j)

-- the call -------------------------------------------------------------------------------------------------------------------

-- over an admitted table the rows tell
pub list_over : (table : List ℕ) → Passes table → (file : List ℕ) → list_answer table file ≡ answered length (list_checked (table_of table) file)
unfolding list_answer carry
list_over table (k, p) file = let (rest, e, _) = admission_read table k p in rw e

-- a reading that is no refusal of 1 to 16 goes past these
module _ {B X : Type 0} (o : Read B) (late : (number place : ℕ) → number ≤ 16 → bad number place ≡ o → ⊥) where
  past : {A : Type 0} (R : Reader A) (file : List ℕ) (next : A → Reader B) → Tame R 16 4097 → carry (R file) next ≡ o
      → ((a : A) (rest : List ℕ) → R file ≡ good a rest → next a rest ≡ o → X) → X
  unfolding carry
  past {A} R file next t h k = go (R file) refl h
    where
      go : (r : Read A) → R file ≡ r → carry r next ≡ o → X
      go (good a rest) e h = k a rest e h
      go (bad number place) e h = let (_, l, _) = t.slight' file number place e in absurd (late number place l h)

  past_test : (number place : ℕ) (t : Bool) (file : List ℕ) (next : Unit {0} → Reader B) → number ≤ 16 → carry (require number place t file) next ≡ o
      → (t ≡ true → next tt file ≡ o → X) → X
  unfolding carry require
  past_test number place true file next l h k = k refl h
  past_test number place false file next l h k = absurd (late number place l h)

-- what it has found then, and what 17 makes of it
record Concluded (table file : List ℕ) (o : Read (List Row)) : Type 0 where
  passes' : Passes table
  admitted' : Admitted (table_of table)
  rows : List Row
  checks : RowsChecked (table_of table) file rows
  left : List ℕ
  outcome : carry (none_open (table_of table) rows 1 rows left) (λ _. done rows) ≡ o

conclude : (table file : List ℕ) (o : Read (List Row)) → ((number place : ℕ) → number ≤ 16 → bad number place ≡ o → ⊥)
    → carry (admitted table) (λ T _. list_checked T file) ≡ o → Concluded table file o
unfolding list_checked rows_of
conclude table file o late h =
    let s : 16 ≤ 16 = omega arith in
    past o late admitted table _ (tame_admitted (omega arith)) h λ T rest e h0.
    past o late (region_file T) file _ (tame_region_file T s) h0 λ rows f1 e1 h1.
    let R = rows_read_law T file rows f1 e1 in
    past o late (ascending 1 rows) f1 _ (tame_ascending T s 1 rows (omega (arith, R.few))) h1 λ u2 f2 e2 h2.
    past o late (none_final T 1 rows) f2 _ (tame_none_final T s 1 rows (omega (arith, R.few))) h2 λ u3 f3 e3 h3.
    past_test o late _ _ _ _ _ s h3 λ t4 h4.
    let (p, t) = read_admission table e in
    record {
      passes' = (_, p);
      admitted' = rw t (read_admitted table T rest e);
      rows = rows;
      checks = rw t (record {
        read = R;
        rows_are = ap rows_read e1;
        ascend = ascends 1 rows f1 e2;
        not_final = no_final T 1 rows f2 e3;
        starts = (has_law rows (first_row T)).0 t4;
      });
      left = f3;
      outcome = rw t h4;
    }

-- accepted -------------------------------------------------------------------------------------------------------------------

module _ (table file : List ℕ) (k : ℕ) where
  abbrev rows : List Row
  rows = rows_of (table_of table) file

  pub list_accepted : list_answer table file ≡ accepted k
      → Passes table × (length rows ≡ k) × (k ≤ 4096) × Closed (table_of table) rows × (AreBytes file → file ≡ list_bytes rows)
  unfolding list_answer
  list_accepted h =
      let (rs, left, e, n) = answered_good length (carry (admitted table) (λ T _. list_checked T file)) h in
      go rs left n (conclude table file (good rs left) (λ _ _ _ q. not_good q) e)
    where
      go : (rs : List Row) (left : List ℕ) → length rs ≡ k → Concluded table file (good rs left)
          → Passes table × (length rows ≡ k) × (k ≤ 4096) × Closed (table_of table) rows × (AreBytes file → file ≡ list_bytes rows)
      go rs left n c =
          parts _ _ c.outcome λ u f e h.
          let x : c.rows ≡ rs = cc in
          let m : length c.rows ≡ k = ap length x ∙ n in
          rw c.checks.rows_are (
            c.passes',
            m,
            omega (arith, c.checks.read.few),
            closed (table_of table) c.admitted' c.rows c.checks.read.are_rows file c.checks (all_full (table_of table) c.rows 1 c.rows c.left e),
            c.checks.read.bytes,
          )

  pub list_few : list_answer table file ≡ accepted k → k ≤ 4096
  list_few h = (list_accepted h).2

-- the file of a closed list of at most 4,096 rows
pub closed_accepted : (table : List ℕ) → Passes table → (rows : List Row) → Closed (table_of table) rows → length rows ≤ 4096 → list_answer table (list_bytes rows) ≡ accepted (length rows)
closed_accepted table (k, p) rows C few =
    let T : Table = table_of table in
    list_over table (k, p) (list_bytes rows)
    ∙ ap (answered length) (rows_pass T rows C.are_rows few C.ascends C.not_final C.starts
    ∙ goes _ _ tt [] (full_passes T rows 1 rows [] (closed_full T (admission_admitted table k p) rows C.are_rows C)))

pub list_law : (table file : List ℕ) (k : ℕ) → AreBytes file → (list_answer table file ≡ accepted k) ↔ (Passes table × RegionListOf (table_of table) file k)
list_law table file k p = (
  λ h. let (a, n, few, c, b) = list_accepted table file k h in (a, record { rows = rows_of (table_of table) file; bytes = b p; sized = n; few = few; closed = c }),
  λ t. let (a, g) = t in rw (g.bytes, ← g.sized) (closed_accepted table a g.rows g.closed (omega (arith, g.sized, g.few))),
)

-- 17 -------------------------------------------------------------------------------------------------------------------------

pub list_seventeen : (table file : List ℕ) (place : ℕ) → AreBytes file → (list_answer table file ≡ refused 17 place) ↔ (Passes table × OpenListOf (table_of table) file place)
unfolding list_answer
list_seventeen table file place b = (
  λ h. to (conclude table file (bad 17 place) (λ n p l q. let i : n ≡ 17 = cc in omega arith) (answered_bad length (carry (admitted table) (λ T _. list_checked T file)) h)),
  λ t. from t.0 t.1,
)
  where
    to : Concluded table file (bad 17 place) → Passes table × OpenListOf (table_of table) file place
    to c =
        let C = c.checks in
        let (k, f) = (least_law (table_of table) c.admitted' c.rows C.read.are_rows place c.left).0 (stopped (none_open (table_of table) c.rows 1 c.rows c.left) c.rows c.outcome) in (
          c.passes',
          record {
            rows = c.rows;
            bytes = C.read.bytes b;
            few = C.read.few;
            ascends = C.ascend;
            are_rows = C.read.are_rows;
            starts = C.starts;
            not_final = C.not_final;
            lacks = k;
            first = f;
          },
        )

    from : Passes table → OpenListOf (table_of table) file place → list_answer table file ≡ refused 17 place
    from (k, p) g =
        let T : Table = table_of table in
        let o = (least_law T (admission_admitted table k p) g.rows g.are_rows place []).1 (g.lacks, g.first) in
        rw g.bytes (list_over table (k, p) (list_bytes g.rows)
        ∙ ap (answered length) (rows_pass T g.rows g.are_rows g.few g.ascends g.not_final g.starts ∙ stops _ _ o))
