-- What a reading refuses with: small numbers and places. Assumes nothing.
use Prim.Native.Nat.{ℕ, zero, suc, ◌+◌, ◌≤◌}
use native.Mathlib.Omega.{arith}
use mathlib.Core.Path.{◌≡◌, refl, sym}
use mathlib.Core.Bool.{Bool, true, false, cond}
use mathlib.Core.List.{List, [], ◌∷◌}
use lib.ListN.{length, take, drop}
use lib.Dec.{leb}
use borrow.Author.Tests.{leb-true}
use Rattle.automata.specs.Row.{Row}
use Rattle.automata.specs.Edge.{Edge}
use Rattle.automata.specs.Automaton.{Table}
use Rattle.automata.specs.Run.{State, Move}
use Rattle.table_files.specs.Bytes.{TA, LO, ED, RN, ST, RL, RW, two}
use Rattle.table_files.specs.Answer.{accepted, refused}
use Rattle.table_files.specs.Reading.{Read, good, bad, Reader, carry, done, next_bytes, require, end, next_record, records, answered}
use Rattle.table_files.specs.TableFile.{header, location, edge_record, table_file}
use Rattle.table_files.specs.Admission.{edges_bounded, admitted}
use Rattle.calls.specs.RunFile.{step_record, run_file, steps_taken, run_checked}
use Rattle.calls.specs.RegionFile.{row_record, region_file, ascending, none_final, none_open, list_checked}
use Rattle.calls.specs.Making.{rows_made}
use Rattle.table_files.specs.Meaning.{Limits}
use Rattle.table_files.proofs.Laws.Reading.{not_refused}
use Rattle.table_files.proofs.Laws.Tables.{HeaderIn, header_in, table_in}
use Rattle.calls.proofs.Laws.Rows.{rows_read_law}
use Rattle.calls.proofs.Laws.Runs.{run_read_law}

-- a refusal with a number of at most top and a place of at most m
abbrev pub Slight : ℕ → ℕ → ℕ → ℕ → Type 0
Slight top m number place = (1 ≤ number) × (number ≤ top) × (place ≤ m)

-- a reader that refuses so alone
pub record Tame {A : Type 0} (R : Reader A) (top m : ℕ) : Type 0 where
  pub slight' : (file : List ℕ) (number place : ℕ) → R file ≡ bad number place → Slight top m number place

pub slight : {A : Type 0} {top m n p n' p' : ℕ} → Slight top m n p → ◌≡◌ {A = Read A} (bad n p) (bad n' p') → Slight top m n' p'
slight {A} {top} {m} {n} {p} {n'} {p'} s e = let i : n ≡ n' = cc in let j : p ≡ p' = cc in omega arith

pub not_bad : {A X : Type 0} {a : A} {rest : List ℕ} {n p : ℕ} → good a rest ≡ bad n p → X
not_bad e = let z : ◌≡◌ {A = ℕ} 0 1 = cc in absurd (omega arith)

pub answered_good : {A : Type 0} (count : A → ℕ) (r : Read A) {k : ℕ} → answered count r ≡ accepted k → (a : A) × (rest : List ℕ) × (r ≡ good a rest) × (count a ≡ k)
answered_good count (good a rest) h = (a, rest, refl, cc)
answered_good count (bad n p) h = not_refused h

pub answered_bad : {A : Type 0} (count : A → ℕ) (r : Read A) {number place : ℕ} → answered count r ≡ refused number place → r ≡ bad number place
answered_bad count (good a rest) h = not_refused (sym h)
answered_bad count (bad n p) {number} {place} h = let i : n ≡ number = cc in let j : p ≡ place = cc in rw (i, j)

module _ {top m : ℕ} where
  tame_done : {A : Type 0} (a : A) → Tame (done a) top m
  tame_done a = record { slight' = λ file n p e. not_bad e }

  tame_then : {A B : Type 0} (R : Reader A) (next : A → Reader B) → Tame R top m → ((a : A) (file rest : List ℕ) → R file ≡ good a rest → Tame (next a) top m)
      → Tame (λ file. carry (R file) next) top m
  unfolding carry
  tame_then {A} R next L N = record { slight' = λ file n p h. go file n p (R file) refl h }
    where
      go : (file : List ℕ) (n p : ℕ) (r : Read A) → R file ≡ r → carry r next ≡ bad n p → Slight top m n p
      go file n p (good a rest) e h = (N a file rest e).slight' rest n p h
      go file n p (bad n' p') e h = slight (L.slight' file n' p' e) h

  tame_test : {B : Type 0} (number place : ℕ) (t : Bool) (next : Unit {0} → Reader B) → Slight top m number place → (t ≡ true → Tame (next tt) top m)
      → Tame (λ file. carry (require number place t file) next) top m
  unfolding carry require
  tame_test number place true next s N = N refl
  tame_test number place false next s N = record { slight' = λ file n p h. slight s h }

  tame_end : (number place : ℕ) → Slight top m number place → Tame (end number place) top m
  unfolding end
  tame_end number place s = record { slight' = go }
    where
      go : (file : List ℕ) (n p : ℕ) → end number place file ≡ bad n p → Slight top m n p
      go [] n p h = not_bad h
      go (x ∷ rest) n p h = slight s h

  tame_bytes : (number place k : ℕ) → Slight top m number place → Tame (next_bytes number place k) top m
  unfolding next_bytes
  tame_bytes number place k s = record { slight' = λ file n p h. go file n p (leb k (length file)) h }
    where
      go : (file : List ℕ) (n p : ℕ) (t : Bool) → cond t (good (take k file) (drop k file)) (bad number place) ≡ bad n p → Slight top m n p
      go file n p true h = not_bad h
      go file n p false h = slight s h

  tame_record : (number place : ℕ) (mark : List ℕ) (k : ℕ) → Slight top m number place → Tame (next_record number place mark k) top m
  unfolding next_record
  tame_record number place mark k s = tame_then _ _ (tame_bytes number place k s) (λ b _ _ _. tame_test _ _ _ _ s (λ _. tame_done b))

  tame_records : {A : Type 0} (read : ℕ → Reader A) → ((place : ℕ) → place ≤ m → Tame (read place) top m) → (place n : ℕ) → place + n ≤ suc m → Tame (records read place n) top m
  unfolding records
  tame_records read each place zero h = tame_done []
  tame_records read each place (suc n) h =
      tame_then _ _ (each place (omega arith)) (λ a _ _ _. tame_then _ _ (tame_records read each (place + 1) n (omega arith)) (λ more _ _ _. tame_done (a ∷ more)))

-- the table ------------------------------------------------------------------------------------------------------------------

module _ {top m : ℕ} (six : 6 ≤ top) where
  tame_header : Tame header top m
  unfolding header
  tame_header =
      tame_then _ _ (tame_record 1 0 TA 7 (omega arith)) (λ b _ _ _.
      tame_test _ _ _ _ (omega arith) (λ _.
      tame_test _ _ _ _ (omega arith) (λ _.
      tame_test _ _ _ _ (omega arith) (λ _.
      tame_test _ _ _ _ (omega arith) (λ _.
      tame_then _ _ (tame_bytes 1 0 _ (omega arith)) (λ c _ _ _. tame_test _ _ _ _ (omega arith) (λ _. tame_done _)))))))

  tame_location : (place : ℕ) → place ≤ m → Tame (location place) top m
  unfolding location
  tame_location place h = tame_then _ _ (tame_record 1 place LO 3 (omega arith)) (λ b _ _ _. tame_test _ _ _ _ (omega arith) (λ _. tame_done _))

  tame_edge : (n L place : ℕ) → place ≤ m → Tame (edge_record n L place) top m
  unfolding edge_record
  tame_edge n L place h =
      tame_then _ _ (tame_record 1 place ED 5 (omega arith)) (λ b _ _ _.
      tame_test _ _ _ _ (omega arith) (λ _.
      tame_test _ _ _ _ (omega arith) (λ _.
      tame_test _ _ _ _ (omega arith) (λ _.
      tame_then _ _ (tame_bytes 1 place _ (omega arith)) (λ d _ _ _.
      tame_test _ _ _ _ (omega arith) (λ _. tame_test _ _ _ _ (omega arith) (λ _. tame_done _)))))))

  tame_edges : (c : List ℕ) (place : ℕ) (es : List Edge) → place + length es ≤ suc m → Tame (edges_bounded c place es) top m
  unfolding edges_bounded
  tame_edges c place [] h = tame_done tt
  tame_edges c place (e ∷ es) h = tame_test _ _ _ _ (omega arith) (λ _. tame_test _ _ _ _ (omega arith) (λ _. tame_edges c (place + 1) es (omega arith)))

module _ {top : ℕ} (six : 6 ≤ top) where
  tame_table : Tame table_file top 4097
  unfolding table_file
  tame_table =
      tame_then _ _ (tame_header six) (λ h f r e.
      let i : HeaderIn h = header_in f h r e in
      tame_then _ _ (tame_records location (tame_location six) 1 h.locations (omega (arith, i.locations_high))) (λ finals _ _ _.
      tame_then _ _
      (tame_records (edge_record (length h.bounds) h.locations) (tame_edge six (length h.bounds) h.locations) (1 + h.locations) h.edges
      (omega (arith, i.locations_high, i.edges_high)))
      (λ edges _ _ _. tame_then _ _ (tame_end 4 (1 + h.locations + h.edges) (omega (arith, i.locations_high, i.edges_high))) (λ _ _ _ _. tame_done _))))

  pub tame_admitted : Tame admitted top 4097
  unfolding admitted
  tame_admitted =
      tame_then _ _ tame_table (λ T f r e.
      let M : Limits T = (table_in f T r e).limits in
      tame_then _ _ (tame_edges six T.bounds (1 + T.locations) T.edges (omega (arith, M.few_locations, M.few_edges))) (λ _ _ _ _. tame_done T))

-- the run list ---------------------------------------------------------------------------------------------------------------

module _ {top : ℕ} (T : Table) (thirteen : 13 ≤ top) where
  tame_step : (place : ℕ) → place ≤ 4097 → Tame (step_record T place) top 4097
  unfolding step_record
  tame_step place h = tame_then _ _ (tame_record 7 place ST _ (omega arith)) (λ b _ _ _. tame_test _ _ _ _ (omega arith) (λ _. tame_done _))

  tame_run_file : Tame (run_file T) top 4097
  unfolding run_file
  tame_run_file =
      tame_then _ _ (tame_record 7 0 RN 6 (omega arith)) (λ b _ _ _.
      tame_test _ _ _ _ (omega arith) (λ _.
      tame_test _ _ _ _ (omega arith) (λ t.
      let few : two b 4 ≤ 2048 = leb-true (two b 4) 2048 t in
      tame_then _ _ (tame_records (step_record T) tame_step 1 (two b 4) (omega arith)) (λ ms _ _ _.
      tame_then _ _ (tame_end 9 (1 + two b 4) (omega arith)) (λ _ _ _ _. tame_done _)))))

  tame_steps : (D place : ℕ) (s : State) (ms : List Move) → place + length ms ≤ 4098 → Tame (steps_taken T D place s ms) top 4097
  unfolding steps_taken
  tame_steps D place s [] h = tame_done s
  tame_steps D place s (m ∷ ms) h =
      tame_test _ _ _ _ (omega arith) (λ _.
      tame_test _ _ _ _ (omega arith) (λ _. tame_test _ _ _ _ (omega arith) (λ _. tame_steps D (place + 1) _ ms (omega arith))))

  pub tame_run : Tame (run_checked T) top 4097
  unfolding run_checked
  tame_run =
      tame_then _ _ tame_run_file (λ r f l e.
      let few : length r.moves ≤ 2048 = (run_read_law T f r l e).few in
      tame_then _ _ (tame_steps r.scale 1 _ r.moves (omega arith)) (λ s _ _ _. tame_test _ _ _ _ (omega arith) (λ _. tame_done r)))

-- the region list --------------------------------------------------------------------------------------------------------------

module _ {top : ℕ} (T : Table) (sixteen : 16 ≤ top) where
  tame_row : (place : ℕ) → place ≤ 4097 → Tame (row_record T place) top 4097
  unfolding row_record
  tame_row place h =
      tame_then _ _ (tame_record 7 place RW _ (omega arith)) (λ b _ _ _.
      tame_test _ _ _ _ (omega arith) (λ _. tame_test _ _ _ _ (omega arith) (λ _. tame_done _)))

  pub tame_region_file : Tame (region_file T) top 4097
  unfolding region_file
  tame_region_file =
      tame_then _ _ (tame_record 7 0 RL 4 (omega arith)) (λ b _ _ _.
      tame_test _ _ _ _ (omega arith) (λ t.
      let few : two b 2 ≤ 4096 = leb-true (two b 2) 4096 t in
      tame_then _ _ (tame_records (row_record T) tame_row 1 (two b 2) (omega arith)) (λ rows _ _ _.
      tame_then _ _ (tame_end 9 (1 + two b 2) (omega arith)) (λ _ _ _ _. tame_done rows))))

  pub tame_ascending : (place : ℕ) (rows : List Row) → place + length rows ≤ 4098 → Tame (ascending place rows) top 4097
  unfolding ascending
  tame_ascending place [] h = tame_done tt
  tame_ascending place (r ∷ []) h = tame_done tt
  tame_ascending place (r ∷ (s ∷ rows)) h = tame_test _ _ _ _ (omega arith) (λ _. tame_ascending (place + 1) (s ∷ rows) (omega arith))

  pub tame_none_final : (place : ℕ) (rows : List Row) → place + length rows ≤ 4098 → Tame (none_final T place rows) top 4097
  unfolding none_final
  tame_none_final place [] h = tame_done tt
  tame_none_final place (r ∷ rows) h = tame_test _ _ _ _ (omega arith) (λ _. tame_none_final (place + 1) rows (omega arith))

module _ {top : ℕ} (T : Table) (seventeen : 17 ≤ top) where
  tame_none_open : (all : List Row) (place : ℕ) (rows : List Row) → place + length rows ≤ 4098 → Tame (none_open T all place rows) top 4097
  unfolding none_open
  tame_none_open all place [] h = tame_done tt
  tame_none_open all place (r ∷ rows) h = tame_test _ _ _ _ (omega arith) (λ _. tame_none_open all (place + 1) rows (omega arith))

  pub tame_list : Tame (list_checked T) top 4097
  unfolding list_checked
  tame_list =
      let sixteen : 16 ≤ top = omega arith in
      tame_then _ _ (tame_region_file T sixteen) (λ rows f l e.
      let few : length rows ≤ 4096 = (rows_read_law T f rows l e).few in
      tame_then _ _ (tame_ascending T sixteen 1 rows (omega arith)) (λ _ _ _ _.
      tame_then _ _ (tame_none_final T sixteen 1 rows (omega arith)) (λ _ _ _ _.
      tame_test _ _ _ _ (omega arith) (λ _. tame_then _ _ (tame_none_open rows _ _ (omega arith)) (λ _ _ _ _. tame_done rows)))))

-- making a list ----------------------------------------------------------------------------------------------------------------

module _ {top : ℕ} (T : Table) (all : 21 ≤ top) where
  pub tame_made : (room records : ℕ) → Tame (rows_made T room records) top 4097
  unfolding rows_made
  tame_made room records = tame_test _ _ _ _ (omega arith) (λ _. tame_test _ _ _ _ (omega arith) (λ _. tame_done _))
