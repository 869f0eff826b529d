-- A file too long to be accepted gets the answer of its first bytes: so many bytes tell. Assumes nothing.
use Prim.Native.Nat.{ℕ, zero, suc, ◌+◌, ◌*◌, ◌≤◌, ◌<◌}
use native.Mathlib.Omega.{arith}
use native.Mathlib.Decide.{dec_le}
use native.Mathlib.Nat.{suc-mul}
use mathlib.Core.Path.{◌≡◌, refl, sym, ap, ◌∙◌}
use mathlib.Core.Bool.{Bool, true, false, cond}
use mathlib.Core.List.{List, [], ◌∷◌, ◌++◌}
use lib.ListN.{length, take, drop, length-append, length-take, length-drop, take-append-drop}
use lib.Seq.{take_all, take-append-le, drop-append-le}
use lib.Dec.{leb}
use borrow.Author.Tests.{leb-true, le-leb}
use Rattle.automata.specs.Clocks.{at}
use Rattle.automata.specs.Row.{Row}
use Rattle.automata.specs.Automaton.{Table, clocks}
use Rattle.automata.specs.Checks.{same}
use Rattle.table_files.specs.Bytes.{TA, LO, ED, RN, ST, RL, RW, two}
use Rattle.table_files.specs.Reading.{Read, good, bad, Reader, carry, done, next_bytes, next_record, require, end, records, answered}
use Rattle.table_files.specs.TableFile.{header, location, edge_record, table_file}
use Rattle.table_files.specs.Admission.{admitted, admission}
use Rattle.calls.specs.RunFile.{RunList, step_record, run_file, run_checked, run_answer}
use Rattle.calls.specs.RegionFile.{row_width, row_record, region_file, list_checked, list_answer}
use Rattle.calls.specs.Follow.{rows_followed, following, follow_answer, written, follow_buffer}
use Rattle.calls.specs.Making.{rows_made, making, make_answer, made_in, make_buffer}
use Rattle.calls.specs.Program.{printed, line_for, printed_line}
use Rattle.table_files.proofs.Laws.Reading.{not_good, parts, between_law}
use Rattle.table_files.proofs.Laws.Tables.{HeaderIn, header_in}
use Rattle.table_files.proofs.Laws.Admission.{read_limits}
use Rattle.calls.proofs.Laws.Rows.{row_width_is}

-- the same, with more bytes after it
abbrev longer : {A : Type 0} → List ℕ → Read A → Read A
longer b (good v rest) = good v (rest ++ b)
longer b (bad number place) = bad number place

-- a reader that reads at most m bytes and looks at no others
record Local {A : Type 0} (R : Reader A) (m : ℕ) : Type 0 where
  alike : (a b : List ℕ) → m ≤ length a → R (a ++ b) ≡ longer b (R a)
  left : (a : List ℕ) (v : A) (rest : List ℕ) → R a ≡ good v rest → length a ≤ length rest + m

-- a reader whose answer stands once it has been given more than m bytes
Settled : {A : Type 0} → Reader A → ℕ → Type 0
Settled R m = (a b : List ℕ) → m < length a → R (a ++ b) ≡ R a

weaken : {A : Type 0} (R : Reader A) (m k : ℕ) → Local R m → m ≤ k → Local R k
weaken R m k L h = record { alike = λ a b l. L.alike a b (omega arith); left = λ a v rest e. omega (arith, L.left a v rest e) }

local_done : {A : Type 0} (a : A) → Local (done a) 0
local_done a = record { alike = λ x b l. refl; left = λ x v rest e. let h : x ≡ rest = cc in omega (arith, ap length h) }

module _ {A B : Type 0} (R : Reader A) (next : A → Reader B) (m k : ℕ) where
  local_then : Local R m → ((v : A) (file rest : List ℕ) → R file ≡ good v rest → Local (next v) k) → Local (λ file. carry (R file) next) (m + k)
  unfolding carry
  local_then L N = record {
    alike = λ a b l. rw (L.alike a b (omega arith)) (go a b l (R a) refl);
    left = λ a v rest e. parts (R a) next e (λ w r p q. omega (arith, L.left a w r p, (N w a r p).left r v rest q));
  }
    where
      go : (a b : List ℕ) → m + k ≤ length a → (r : Read A) → R a ≡ r → carry (longer b r) next ≡ longer b (carry r next)
      go a b l (good v rest) e = (N v a rest e).alike rest b (omega (arith, L.left a v rest e))
      go a b l (bad number place) e = refl

  settled_then : Local R m → ((v : A) (file rest : List ℕ) → R file ≡ good v rest → Settled (next v) k) → Settled (λ file. carry (R file) next) (m + k)
  unfolding carry Settled
  settled_then L N a b l = rw (L.alike a b (omega arith)) (go (R a) refl)
    where
      go : (r : Read A) → R a ≡ r → carry (longer b r) next ≡ carry r next
      go (good v rest) e = N v a rest e rest b (omega (arith, L.left a v rest e))
      go (bad number place) e = refl

module _ {B : Type 0} (number place : ℕ) (t : Bool) (next : Unit {0} → Reader B) (m : ℕ) where
  local_test : (t ≡ true → Local (next tt) m) → Local (λ file. carry (require number place t file) next) m
  unfolding carry require
  local_test = go t
    where
      go : (b : Bool) → (b ≡ true → Local (next tt) m) → Local (λ file. carry (cond b (good tt file) (bad number place)) next) m
      go true N = N refl
      go false N = record { alike = λ a b l. refl; left = λ a v rest e. not_good e }

  settled_test : (t ≡ true → Settled (next tt) m) → Settled (λ file. carry (require number place t file) next) m
  unfolding carry require Settled
  settled_test = go t
    where
      go : (b : Bool) → (b ≡ true → Settled (next tt) m) → Settled (λ file. carry (cond b (good tt file) (bad number place)) next) m
      go true N = N refl
      go false N = λ a b l. refl

settled_end : {B : Type 0} (number place : ℕ) (next : Unit {0} → Reader B) → Settled (λ file. carry (end number place file) next) 0
unfolding carry end Settled
settled_end number place next [] b l = absurd (omega arith)
settled_end number place next (x ∷ a) b l = refl

local_bytes : (number place n : ℕ) → Local (next_bytes number place n) n
unfolding next_bytes
local_bytes number place n = record {
  alike = λ a b l.
      let p : n ≤ length (a ++ b) = simp length-append (omega arith) in
      rw (le-leb n (length a) l, le-leb n (length (a ++ b)) p, take-append-le n a b l, drop-append-le n a b l);
  left = λ a v rest e. go a v rest (leb n (length a)) e;
}
  where
    go : (a v rest : List ℕ) (t : Bool) → cond t (good (take n a) (drop n a)) (bad number place) ≡ good v rest → length a ≤ length rest + n
    go a v rest true e = let h : drop n a ≡ rest = cc in omega (arith, ap length h, length-drop n a)
    go a v rest false e = not_good e

local_record : (number place : ℕ) (mark : List ℕ) (n : ℕ) → Local (next_record number place mark n) n
unfolding next_record
local_record number place mark n =
    weaken _ (n + 0) n
    (local_then (next_bytes number place n) _ n 0 (local_bytes number place n) (λ b _ _ _. local_test number place (same mark (take 2 b)) _ 0 (λ _. local_done b)))
    (omega arith)

local_records : {A : Type 0} (read : ℕ → Reader A) (m : ℕ) → ((place : ℕ) → Local (read place) m) → (place n : ℕ) → Local (records read place n) (n * m)
unfolding records
local_records read m L place zero = weaken _ 0 (0 * m) (local_done []) (omega arith)
local_records read m L place (suc n) =
    weaken _ (m + (n * m + 0)) (suc n * m)
    (local_then (read place) _ m (n * m + 0) (L place)
    (λ a _ _ _. local_then (records read (place + 1) n) _ (n * m) 0 (local_records read m L (place + 1) n) (λ rest _ _ _. local_done (a ∷ rest))))
    (omega (arith, suc-mul n m))

-- the table ------------------------------------------------------------------------------------------------------------------

local_header : Local header 11
unfolding header
local_header =
    weaken _ (7 + (4 + 0)) 11
    (local_then _ _ 7 (4 + 0) (local_record 1 0 TA 7) (λ b _ _ _.
    local_test _ _ _ _ _ (λ t.
    local_test _ _ _ _ _ (λ _.
    local_test _ _ _ _ _ (λ _.
    local_test _ _ _ _ _ (λ _.
    local_then _ _ 4 0
    (weaken _ (at b 2) 4 (local_bytes 1 0 (at b 2)) ((between_law 1 4 (at b 2)).0 t).1)
    (λ c _ _ _. local_test _ _ _ _ _ (λ _. local_done _))))))))
    (omega arith)

local_location : (place : ℕ) → Local (location place) 3
unfolding location
local_location place =
    weaken _ (3 + 0) 3 (local_then _ _ 3 0 (local_record 1 place LO 3) (λ b _ _ _. local_test _ _ _ _ _ (λ _. local_done _))) (omega arith)

local_edge : (n L place : ℕ) → n ≤ 4 → Local (edge_record n L place) 49
unfolding edge_record
local_edge n L place h =
    weaken _ (5 + (44 + 0)) 49
    (local_then _ _ 5 (44 + 0) (local_record 1 place ED 5) (λ b _ _ _.
    local_test _ _ _ _ _ (λ _.
    local_test _ _ _ _ _ (λ _.
    local_test _ _ _ _ _ (λ t.
    local_then _ _ 44 0
    (weaken _ (3 * at b 4 + 5 * n) 44 (local_bytes 1 place (3 * at b 4 + 5 * n)) (omega (arith, leb-true (at b 4) 8 t)))
    (λ d _ _ _. local_test _ _ _ _ _ (λ _. local_test _ _ _ _ _ (λ _. local_done _))))))))
    (omega arith)

settled_table : Settled table_file 12747
unfolding table_file
settled_table =
    settled_then header _ 11 12736 local_header (λ h f r e.
    let i : HeaderIn h = header_in f h r e in
    settled_then (records location 1 h.locations) _ 192 12544
    (weaken _ (h.locations * 3) 192 (local_records location 3 local_location 1 h.locations) (omega (arith, i.locations_high)))
    (λ finals _ _ _.
    settled_then (records (edge_record (length h.bounds) h.locations) (1 + h.locations) h.edges) _ 12544 0
    (weaken _ (h.edges * 49) 12544
    (local_records (edge_record (length h.bounds) h.locations) 49 (λ place. local_edge (length h.bounds) h.locations place i.clocks_high) (1 + h.locations) h.edges)
    (omega (arith, i.edges_high)))
    (λ edges _ _ _. settled_end 4 (1 + h.locations + h.edges) _)))

settled_take : {A : Type 0} (R : Reader A) (m n : ℕ) → Settled R m → m < n → (file : List ℕ) → R (take n file) ≡ R file
unfolding Settled
settled_take R m n S l file = go (dec_le (length file) n)
  where
    go : Dec (length file ≤ n) → R (take n file) ≡ R file
    go (yes h) = ap R (take_all n file h)
    go (no h) = sym (S (take n file) (drop n file) (omega (arith, length-take n file))) ∙ ap R (take-append-drop n file)

settled_admitted : Settled admitted 12747
unfolding admitted Settled
settled_admitted a b l = rw (settled_table a b l)

-- the first 12,748 bytes of a table tell
pub admitted_prefix : (n : ℕ) → 12747 < n → (file : List ℕ) → admitted (take n file) ≡ admitted file
admitted_prefix n l file = settled_take admitted 12747 n settled_admitted l file

pub admission_prefix : (n : ℕ) → 12747 < n → (file : List ℕ) → admission (take n file) ≡ admission file
unfolding admission
admission_prefix n l file = rw (admitted_prefix n l file)

-- and what list is made from it
pub make_prefix : (n : ℕ) → 12747 < n → (table : List ℕ) (room records : ℕ) → make_answer (take n table) room records ≡ make_answer table room records
unfolding make_answer making
make_prefix n l table room records = ap (λ (r : Read Table). answered length (carry r (λ T _. rows_made T room records []))) (admitted_prefix n l table)

pub make_buffer_prefix : (n : ℕ) → 12747 < n → (table : List ℕ) (records : ℕ) (buffer : List ℕ) → make_buffer (take n table) records buffer ≡ make_buffer table records buffer
unfolding make_buffer making
make_buffer_prefix n l table records buffer = ap (λ (r : Read Table). made_in (carry r (λ T _. rows_made T (length buffer) records [])) buffer) (admitted_prefix n l table)

-- the paper ------------------------------------------------------------------------------------------------------------------

module _ (T : Table) (few : clocks T ≤ 4) where
  local_step : (place : ℕ) → Local (step_record T place) 24
  unfolding step_record
  local_step place =
      weaken _ (8 + 4 * clocks T + 0) 24
      (local_then _ _ (8 + 4 * clocks T) 0 (local_record 7 place ST (8 + 4 * clocks T)) (λ b _ _ _. local_test _ _ _ _ _ (λ _. local_done _)))
      (omega arith)

  local_row : (place : ℕ) → Local (row_record T place) 11
  unfolding row_record
  local_row place =
      weaken _ (row_width (clocks T) + 0) 11
      (local_then _ _ (row_width (clocks T)) 0 (local_record 7 place RW (row_width (clocks T)))
      (λ b _ _ _. local_test _ _ _ _ _ (λ _. local_test _ _ _ _ _ (λ _. local_done _))))
      (omega (arith, row_width_is (clocks T)))

  settled_run : Settled (run_file T) 49158
  unfolding run_file
  settled_run =
      settled_then _ _ 6 49152 (local_record 7 0 RN 6) (λ b _ _ _.
      settled_test _ _ _ _ _ (λ _.
      settled_test _ _ _ _ _ (λ t.
      settled_then _ _ 49152 0
      (weaken _ (two b 4 * 24) 49152 (local_records (step_record T) 24 local_step 1 (two b 4)) (omega (arith, leb-true (two b 4) 2048 t)))
      (λ moves _ _ _. settled_end _ _ _))))

  settled_list : Settled (region_file T) 45060
  unfolding region_file
  settled_list =
      settled_then _ _ 4 45056 (local_record 7 0 RL 4) (λ b _ _ _.
      settled_test _ _ _ _ _ (λ t.
      settled_then _ _ 45056 0
      (weaken _ (two b 2 * 11) 45056 (local_records (row_record T) 11 local_row 1 (two b 2)) (omega (arith, leb-true (two b 2) 4096 t)))
      (λ rows _ _ _. settled_end _ _ _)))

  run_prefix_of : (n : ℕ) → 49158 < n → (file : List ℕ) → run_checked T (take n file) ≡ run_checked T file
  unfolding run_checked
  run_prefix_of n l file = rw (settled_take (run_file T) 49158 n settled_run l file)

  list_prefix_of : (n : ℕ) → 45060 < n → (file : List ℕ) → list_checked T (take n file) ≡ list_checked T file
  unfolding list_checked
  list_prefix_of n l file = rw (settled_take (region_file T) 45060 n settled_list l file)

  settled_follow : (number room : ℕ) → Settled (rows_followed T number room) 11
  unfolding rows_followed
  settled_follow number room = settled_then _ _ 11 0 (local_row 0) (λ _ _ _ _. settled_end 9 1 _)

-- what the same readings of the paper give with a table
over : {A : Type 0} (table : List ℕ) (R R' : Table → Read A) → ((T : Table) → clocks T ≤ 4 → R T ≡ R' T) → carry (admitted table) (λ T _. R T) ≡ carry (admitted table) (λ T _. R' T)
unfolding carry
over {A} table R R' same_read = go (admitted table) refl
  where
    go : (r : Read Table) → admitted table ≡ r → carry r (λ T _. R T) ≡ carry r (λ T _. R' T)
    go (good T rest) e = same_read T (read_limits table T rest e).few_clocks
    go (bad number place) e = refl

-- the first 49,159 bytes of a run list tell, the first 45,061 of a region list, and the first 12 of a row
pub run_prefix : (n : ℕ) → 49158 < n → (table file : List ℕ) → run_answer table (take n file) ≡ run_answer table file
unfolding run_answer
run_prefix n l table file = ap (answered (λ (r : RunList). length r.moves)) (over table _ _ (λ T few. run_prefix_of T few n l file))

pub list_prefix : (n : ℕ) → 45060 < n → (table file : List ℕ) → list_answer table (take n file) ≡ list_answer table file
unfolding list_answer
list_prefix n l table file = ap (answered length) (over table _ _ (λ T few. list_prefix_of T few n l file))

pub follow_prefix : (n : ℕ) → 11 < n → (table row : List ℕ) (number : ℕ) (buffer : List ℕ)
    → (follow_answer table (take n row) number buffer ≡ follow_answer table row number buffer) × (follow_buffer table (take n row) number buffer ≡ follow_buffer table row number buffer)
unfolding follow_answer follow_buffer following
follow_prefix n l table row number buffer =
    let e = over table _ _ (λ T few. settled_take (rows_followed T number (length buffer)) 11 n (settled_follow T few number (length buffer)) l row) in
    (ap (answered length) e, ap (λ (r : Read (List Row)). written r buffer) e)

-- of both files, what the program prints -----------------------------------------------------------------------------------------

first_two : (n : ℕ) → 2 ≤ n → (file : List ℕ) → take 2 (take n file) ≡ take 2 file
first_two zero h file = absurd (omega arith)
first_two (suc zero) h file = absurd (omega arith)
first_two (suc (suc n)) h [] = refl
first_two (suc (suc n)) h (x ∷ []) = refl
first_two (suc (suc n)) h (x ∷ (y ∷ file)) = refl

-- the first 65,536 bytes of both files tell what is printed
module _ (table file : List ℕ) where
  enough_run : run_answer (take 65536 table) (take 65536 file) ≡ run_answer table file
  unfolding run_answer
  enough_run =
      ap (λ (r : Read Table). answered (λ (l : RunList). length l.moves) (carry r (λ T _. run_checked T (take 65536 file)))) (admitted_prefix 65536 (omega arith) table)
      ∙ run_prefix 65536 (omega arith) table file

  enough_list : list_answer (take 65536 table) (take 65536 file) ≡ list_answer table file
  unfolding list_answer
  enough_list =
      ap (λ (r : Read Table). answered length (carry r (λ T _. list_checked T (take 65536 file)))) (admitted_prefix 65536 (omega arith) table)
      ∙ list_prefix 65536 (omega arith) table file

  pub printed_prefix : printed_line (take 65536 table) (take 65536 file) ≡ printed_line table file
  printed_prefix = rw (first_two 65536 (omega arith) file) (go (same RN (take 2 file)))
    where
      go : (b : Bool) → line_for b (take 65536 table) (take 65536 file) ≡ line_for b table file
      go true = ap (printed "REACHED") enough_run
      go false = ap (printed "EMPTY") enough_list
