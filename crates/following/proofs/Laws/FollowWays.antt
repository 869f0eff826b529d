-- The follower's ways out: each is the definitions'. Assumes nothing.
use Prim.Native.Nat.{ℕ, ◌+◌, ◌-◌, ◌≤◌, ◌<◌}
use native.Mathlib.Omega.{arith}
use mathlib.Core.Path.{◌≡◌, refl, sym, ap, subst, ◌∙◌}
use mathlib.Core.Bool.{Bool, true, false, ◌||◌}
use mathlib.Core.Logic.{inl, inr}
use mathlib.Core.List.Memᴰ
use mathlib.Core.List.{List, [], ◌∷◌}
use lib.ListN.{length, drop, length-drop}
use lib.Seq.{get_or-take}
use lib.Dec.{ltb, eqb}
use borrow.Author.Tests.{le-ltb, eq-eqb, ne_eqb}
use Rattle.automata.specs.Clocks.{at}
use Rattle.automata.specs.Row.{Row}
use Rattle.automata.specs.Closed.{Mem}
use Rattle.automata.specs.Automaton.{Table, clocks, edge}
use Rattle.automata.specs.Successors.{wait_rows, edge_rows}
use Rattle.regions.specs.Values.{row_of, edge_of}
use Rattle.regions.specs.declared.edge.Edge as edge_code
use Rattle.automata.proofs.Laws.Tests.{eqb_law, ltb_law, or_law}
use Rattle.automata.proofs.Laws.Next.{time_successors_are, edge_successors_are}
use Rattle.table_files.specs.Answer.{Answer, accepted, refused}
use Rattle.table_files.specs.Reading.{Read, good, bad, Reader, carry, require, end, answered}
use Rattle.table_files.specs.Admission.{table_of}
use Rattle.table_files.specs.Meaning.{Limits}
use Rattle.tables.specs.Tables.{Opens}
use Rattle.tables.specs.Values.{Describes}
use Rattle.table_records.specs.declared.head.Head.{Head}
use Rattle.table_records.specs.declared.refusal.Fault.{Fault}
use Rattle.table_records.specs.declared.refusal.Refusal.{Refusal}
use Rattle.table_records.specs.Refusal.{number_of}
use Rattle.table_files.proofs.Laws.Reading.{goes, passes}
use Rattle.table_files.proofs.Laws.Admission.{admission_read, admission_admitted, admission_limits}
use Rattle.calls.specs.RegionFile.{row_width}
use Rattle.calls.specs.Follow.{followed, rows_followed, following, follow_answer, written, follow_buffer}
use Rattle.calls.specs.Meaning.{Written}
use Rattle.rows.specs.Row.{ReadsRow}
use Rattle.following.specs.Following.{Stands, Leaves, rows_waited, rows_led, fits, told, put, FirstAfter, Stays}
use Rattle.regions.specs.declared.region.Region.{Region}
use Rattle.std.specs.Prelude.{Result, Ok, Err, MatchResult, IsErrAnd}
use Rattle.rows.proofs.Laws.RowRecords.{reads_good, reads_row}
use Rattle.calls.proofs.Laws.Rows.{row_alone}
use Rattle.calls.proofs.Laws.Follow.{follow_law}
use Rattle.calls.proofs.Laws.Claims.{waiting_first, waiting_last}
use Rattle.following.proofs.Laws.FollowRows.{Done}

-- reading on, and not ------------------------------------------------------------------------------------------------------------

stops : {A B : Type 0} (r : Read A) (next : A → Reader B) (n p : ℕ) → r ≡ bad n p → carry r next ≡ bad n p
unfolding carry
stops r next n p e = rw e

fails_test : (n p : ℕ) (t : Bool) (file : List ℕ) → t ≡ false → require n p t file ≡ bad n p
unfolding require
fails_test n p t file e = rw e

bytes_left : (n p : ℕ) (file : List ℕ) → 0 < length file → end n p file ≡ bad n p
unfolding end
bytes_left n p [] h = absurd (omega arith)
bytes_left n p (x ∷ file) h = refl

no_bytes_left : (n p : ℕ) (file : List ℕ) → length file ≡ 0 → end n p file ≡ good tt file
unfolding end
no_bytes_left n p [] h = refl
no_bytes_left n p (x ∷ file) h = absurd (omega arith)

none_listed : {A P : Type 0} (x : A) (l : List A) → length l ≡ 0 → Mem x l → P
none_listed x [] e m = absurd (Memᴰ.not-nil m)
none_listed x (y ∷ l) e m = absurd (omega arith)

-- the promises -------------------------------------------------------------------------------------------------------------------

-- what the follower promises of its answer and of the buffer after the call
abbrev pub Follower : List ℕ → List ℕ → ℕ → List ℕ → Answer → List ℕ → Type 0
Follower table row number lent given after = record {
  answer : given ≡ follow_answer table row number lent;
  buffer : after ≡ follow_buffer table row number lent;
  written : (k : ℕ) → given ≡ accepted k → Written (table_of table) row number lent after k;
  first : (k : ℕ) → given ≡ accepted k → number ≡ 65535 → FirstAfter (table_of table) row;
  last : given ≡ accepted 0 → number ≡ 65535 → Stays (table_of table) row;
}

module _ (table row : List ℕ) (number : ℕ) (lent : List ℕ) where
  promised : (given : Answer) (after : List ℕ) (R : Read (List Row)) → following table row number lent ≡ R → given ≡ answered length R → after ≡ written R lent
      → Follower table row number lent given after
  unfolding follow_answer follow_buffer
  promised given after R e a b =
      let p : given ≡ follow_answer table row number lent = a ∙ ap (λ (r : Read (List Row)). answered length r) (sym e) in
      let q : after ≡ follow_buffer table row number lent = b ∙ ap (λ (r : Read (List Row)). written r lent) (sym e) in
      record { answer = p; buffer = q; written = λ k h. rw q (follow_law table row number lent k (sym p ∙ h)).1; first = first p; last = last p }
    where
      first : given ≡ follow_answer table row number lent → (k : ℕ) → given ≡ accepted k → number ≡ 65535 → FirstAfter (table_of table) row
      first p k h n r r' bytes R w =
          let (records, a) = (follow_law table row number lent k (sym p ∙ h)).0 in
          waiting_first (table_of table) (admission_limits table records a) r r' R (inl (refl, w))

      last : given ≡ follow_answer table row number lent → given ≡ accepted 0 → number ≡ 65535 → Stays (table_of table) row
      last p h n r bytes R D v c t =
          let W = (follow_law table row number lent 0 (sym p ∙ h)).1 in
          let same : r ≡ W.from = row_alone (table_of table) r W.from R W.is_row (sym bytes ∙ W.bytes) in
          waiting_last (table_of table) r R (λ r' s. none_listed r' W.rows W.sized ((W.exact r').1 (inl (n, rw same at s)))) D v c t

  refusing : (n p : ℕ) → following table row number lent ≡ bad n p → Follower table row number lent (refused n p) lent
  refusing n p e = promised (refused n p) lent (bad n p) e refl refl

-- what is promised of a file is promised of the same file by another name
pub same_table : {file table : List ℕ} → file ≡ table → {row : List ℕ} {number : ℕ} {lent : List ℕ} {given : Answer} {after : List ℕ}
    → Follower file row number lent given after → Follower table row number lent given after
same_table e {row} {number} {lent} {given} {after} = subst (λ (f : List ℕ). Follower f row number lent given after) e

-- a row that was read; or the reader's fault, which the refusal is for
module _ (P : Fault → Refusal → Type 0) (T : Table) (row : List ℕ) where
  abbrev pub Told : Result Region Refusal → Type 0
  Told (Ok region) = ReadsRow T row 0 (Ok region)
  Told (Err e) = (fault : Fault) × ReadsRow T row 0 (Err fault) × P fault e

  pub told_by : (s : Result Region Fault) (t : Result Region Refusal) → ReadsRow T row 0 s → MatchResult s (λ region. t ≡ Ok region) (λ fault. IsErrAnd t (P fault)) → Told t
  told_by (Ok region) t R h = subst Told (sym h) R
  told_by (Err fault) (Ok region) R h = absurd h
  told_by (Err fault) (Err e) R h = (fault, R, h)

-- the table ----------------------------------------------------------------------------------------------------------------------

-- it is not admitted
pub not_admitted : (table : List ℕ) (e : Refusal) → Opens table (Err e) → (row : List ℕ) (number : ℕ) (lent : List ℕ)
    → Follower table row number lent (refused (number_of e.fault) e.place) lent
unfolding following
not_admitted table e O row number lent = refusing table row number lent (number_of e.fault) e.place (stops _ _ _ _ O)

module _ {table : List ℕ} {head : Head} (D : Describes table head) where
  abbrev T : Table
  T = table_of table

  limits : Limits T
  limits = let (k, p) = D.passes in admission_limits table k p

  -- an edge of the table
  pub leaves : {number : ℕ} (e : edge_code.Edge) → number < head.edges → edge_of head.clocks.count e ≡ edge T number → e.guard_count ≤ 8 → Leaves head.clocks e
  leaves {number} e l m g = record { few_guards = g; bounded = rw (m, D.bounds) (let (k, p) = D.passes in (admission_admitted table k p).bounded number (omega (arith, D.edges))) }

  past_table : (row : List ℕ) (number : ℕ) (lent : List ℕ) → following table row number lent ≡ rows_followed T number (length lent) row
  unfolding following
  past_table row number lent = let (k, p) = D.passes in let (rest, e, _) = admission_read table k p in goes _ _ T rest e

  -- the row ----------------------------------------------------------------------------------------------------------------------
  -- it is not one of the table's
  pub row_refused : (row : List ℕ) (number : ℕ) (lent : List ℕ) (fault : Fault) → ReadsRow T row 0 (Err fault)
      → Follower table row number lent (refused (number_of fault) 0) lent
  unfolding rows_followed
  row_refused row number lent fault R = refusing table row number lent (number_of fault) 0 (past_table row number lent ∙ stops _ _ _ _ (R 0))

  module _ (row : List ℕ) (region : Region) (R : ReadsRow T row 0 (Ok region)) where
    abbrev from : Row
    from = row_of (clocks T) region

    abbrev left : List ℕ
    left = drop (0 + row_width (clocks T)) row

    left_long : length left ≡ length row - (row_width head.clocks.count)
    left_long = simp length-drop (omega (arith, ap row_width D.count))

    pub stands : Stands head.clocks region
    stands = record {
      few = D.few;
      low = λ z h. omega (arith, limits.low_bounds z (omega (arith, D.count)), ap (λ (c : List ℕ). at c z) D.bounds, get_or-take head.clocks.count head.clocks.bounds z 0 h);
      is_row = rw (D.bounds, D.count) (reads_row T row 0 region R).is_row;
    }

    module _ (number : ℕ) (lent : List ℕ) where
      pub bytes_follow : row_width head.clocks.count < length row → Follower table row number lent (refused 9 1) lent
      unfolding rows_followed
      bytes_follow h =
          refusing table row number lent 9 1 (past_table row number lent ∙ goes _ _ from left (reads_good T row 0 region R 0) ∙ stops _ _ _ _ (bytes_left 9 1 left (omega (arith, left_long))))

      module _ (whole : length row ≤ row_width head.clocks.count) where
        no_left : end 9 1 left ≡ good tt left
        no_left = no_bytes_left 9 1 left (omega (arith, left_long))

        pub neither : head.edges ≤ number → (number ≡ 65535 → ⊥) → Follower table row number lent (refused 18 0) lent
        unfolding rows_followed
        neither h n =
            let out : (ltb number (length T.edges) || eqb number 65535) ≡ false =
            rw (le-ltb number (length T.edges) (omega (arith, D.edges)), ne_eqb number 65535 n) in
            refusing table row number lent 18 0 (past_table row number lent ∙ goes _ _ from left (reads_good T row 0 region R 0) ∙ goes _ _ tt left no_left ∙ stops _ _ _ _ (fails_test 18 0 _ left out))

        -- the next rows ------------------------------------------------------------------------------------------------------
        done_so : (given : Answer) (after : List ℕ) → (ltb number (length T.edges) || eqb number 65535) ≡ true
            → Done (followed T number from) lent given after → Follower table row number lent given after
        unfolding rows_followed
        done_so given after test d = go (fits (followed T number from) (length lent)) refl d.answer d.buffer
          where
            go : (t : Bool) → fits (followed T number from) (length lent) ≡ t → given ≡ told t (followed T number from)
                → after ≡ put t (followed T number from) lent → Follower table row number lent given after
            go true e a b =
                promised table row number lent given after (good (followed T number from) left)
                (past_table row number lent ∙ goes _ _ from left (reads_good T row 0 region R 0) ∙ goes _ _ tt left no_left ∙ goes _ _ tt left (passes 18 0 _ left test) ∙ goes _ _ tt left (passes 19 0 _ left e))
                a b
            go false e a b =
                promised table row number lent given after (bad 19 0)
                (past_table row number lent ∙ goes _ _ from left (reads_good T row 0 region R 0) ∙ goes _ _ tt left no_left ∙ goes _ _ tt left (passes 18 0 _ left test) ∙ stops _ _ _ _ (fails_test 19 0 _ left e))
                a b

        pub by_waiting : (given : Answer) (after : List ℕ) → number ≡ 65535 → Done (rows_waited head.clocks region) lent given after
            → Follower table row number lent given after
        unfolding followed
        by_waiting given after n d =
            let same : rows_waited head.clocks region ≡ followed T number from =
            rw (eq-eqb number 65535 n) ((λ i. wait_rows (D.bounds i) (row_of (D.count i) region)) ∙ sym (time_successors_are T from)) in
            done_so given after ((or_law _ _ (ltb_law number (length T.edges)) (eqb_law number 65535)).1 (inr n)) (rw same at d)

        pub by_edge : (e : edge_code.Edge) → number < head.edges → edge_of head.clocks.count e ≡ edge T number → (given : Answer) (after : List ℕ)
            → Done (rows_led head.clocks e region) lent given after → Follower table row number lent given after
        unfolding followed
        by_edge e l m given after d =
            let not_waiting : number ≡ 65535 → ⊥ = λ n. omega (arith, n, l, D.edges, limits.few_edges) in
            let same : rows_led head.clocks e region ≡ followed T number from =
            rw (ne_eqb number 65535 not_waiting) ((λ i. edge_rows (D.bounds i) (m i) (row_of (D.count i) region)) ∙ sym (edge_successors_are T number from)) in
            done_so given after ((or_law _ _ (ltb_law number (length T.edges)) (eqb_law number 65535)).1 (inl (omega (arith, D.edges)))) (rw same at d)
