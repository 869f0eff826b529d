-- A file is admitted just if it is the file of a table within document 01's limits, and that table is read from it. Assumes nothing.
use Prim.Native.Nat.{ℕ, zero, suc, ◌+◌, ◌%◌, ◌≤◌, ◌<◌}
use native.Mathlib.Omega.{arith}
use mathlib.Core.Path.{◌≡◌, refl, sym, ap, ◌∙◌}
use mathlib.Core.Bool.{Bool, true, false}
use mathlib.Core.Logic.{◌↔◌}
use mathlib.Core.List.Memᴰ
use mathlib.Core.List.{List, [], ◌∷◌, ◌++◌, map, append-nil}
use lib.ListN.{length, get_or, take, length-map, take-append-drop, drop_of_length-le, get_or-map}
use lib.Seq.{ext_get_or}
use lib.Dec.{leb, eqb}
use borrow.Author.Tests.{leb-true, le-leb, lt-ltb}
use Rattle.automata.specs.Clocks.{at}
use Rattle.automata.specs.Edge.{Guard, Action, keep, constant, clock, Edge, idle, BoundedBy, Bounded, ActionIn}
use Rattle.automata.specs.Automaton.{Table, clocks, edge, blank, final, Admitted}
use Rattle.automata.specs.Closed.{Mem}
use Rattle.automata.specs.Rows.{gather}
use Rattle.automata.proofs.Laws.Tests.{Says, eqb_law, leb_law, and_law, allb_law, same_test}
use Rattle.automata.proofs.Laws.Members.{get_or_in, in_get_or}
use Rattle.automata.proofs.Laws.Checks.{every_law}
use Rattle.table_files.specs.Bytes.{AreBytes, TA, LO, two, two_bytes}
use Rattle.table_files.specs.Answer.{accepted}
use Rattle.table_files.specs.Reading.{good, end, records}
use Rattle.table_files.specs.TableFile.{Header, header, location, edge_record, table_file}
use Rattle.table_files.specs.Admission.{guard_bounded, constant_bounded, clock_bounded, edges_bounded, admitted, record_count, admission, table_of}
use Rattle.table_files.specs.Meaning.{Limits}
use Rattle.table_files.specs.TableBytes.{location_bytes, edge_bytes, table_bytes, EdgeFields, TableOf}
use Rattle.table_files.proofs.Laws.Bytes.{bytes_append, bytes_before, bytes_after, are_bytes, gather_bytes, byte_next, bytes_next, two_next}
use Rattle.table_files.proofs.Laws.Reading.{same_read, itself, between_law, cons_all, parts, tested, ended, took, took_record, each_record, records_bytes, goes, passes, bytes_back, record_back, records_back}
use Rattle.table_files.proofs.Laws.Tables.{EdgeIn}
use Rattle.table_files.proofs.Laws.Admission.{read_limits, read_admitted, admission_read, read_admission}
use Rattle.table_files.proofs.Laws.EdgeBytes.{edge_back, edge_are_bytes, edge_read}

-- from the table to the file -------------------------------------------------------------------------------------------------

header_back : (T : Table) → Limits T → T.initial < T.locations → (rest : List ℕ)
    → header (TA ++ (clocks T ∷ T.locations ∷ T.initial ∷ (two_bytes (length T.edges) ++ (T.bounds ++ rest))))
    ≡ good (record { locations = T.locations; initial = T.initial; edges = length T.edges; bounds = T.bounds }) rest
unfolding header
header_back T M l rest =
    goes _ _ b more (record_back 1 0 TA 7 b more refl refl)
    ∙ goes _ _ tt more (passes 2 0 _ more ((between_law 1 4 (clocks T)).1 (M.some_clock, M.few_clocks)))
    ∙ goes _ _ tt more (passes 2 0 _ more ((between_law 1 64 T.locations).1 (M.some_location, M.few_locations)))
    ∙ goes _ _ tt more (passes 2 0 _ more (lt-ltb T.initial T.locations l))
    ∙ goes _ _ tt more (passes 2 0 _ more (le-leb (two b 5) 256 (omega (arith, M.few_edges))))
    ∙ goes _ _ T.bounds rest (bytes_back 1 0 (clocks T) T.bounds rest refl)
    ∙ goes _ _ tt rest (passes 2 0 _ rest ((every_law (λ (c : ℕ). leb c 127) (λ c. leb_law c 127) T.bounds).1 low))
    ∙ (λ i. good (record { locations = T.locations; initial = T.initial; edges = E i; bounds = T.bounds }) rest)
  where
    b : List ℕ
    b = TA ++ (clocks T ∷ T.locations ∷ T.initial ∷ two_bytes (length T.edges))

    more : List ℕ
    more = T.bounds ++ rest

    E : two b 5 ≡ length T.edges
    E = omega arith

    low : (c : ℕ) → Mem c T.bounds → c ≤ 127
    low c m = let (z, k, e) = in_get_or 0 m in rw (← e) (M.low_bounds z k)

-- whether bit 0 is set
abbrev is_final : ℕ → Bool
is_final flags = eqb (flags % 2) 1

locations_back : (place : ℕ) (flags rest : List ℕ) → ((f : ℕ) → Mem f flags → f ≤ 3)
    → records location place (length flags) (gather location_bytes flags ++ rest) ≡ good (map is_final flags) rest
unfolding records location
locations_back place [] rest low = refl
locations_back place (f ∷ flags) rest low =
    goes _ _ (is_final f) more
    (goes _ _ (location_bytes f) more (record_back 1 place LO 3 (location_bytes f) more refl refl)
    ∙ goes _ _ tt more (passes 3 place (leb f 3) more (le-leb f 3 (low f (Memᴰ.head refl)))))
    ∙ goes _ _ (map is_final flags) rest (locations_back (place + 1) flags rest (λ g m. low g (Memᴰ.tail m)))
  where
    more : List ℕ
    more = gather location_bytes flags ++ rest

-- the bound rules
bounded_tests : (c : List ℕ) (z : ℕ) (a : Action) → BoundedBy c z a → (constant_bounded c z a ≡ true) × (clock_bounded c z a ≡ true)
bounded_tests c z keep h = (refl, refl)
bounded_tests c z (constant k) h = (le-leb k (at c z) h, refl)
bounded_tests c z (clock y up down) h = (refl, le-leb (at c z + down) (at c y + up) h.1)

bounds_pass : (c : List ℕ) (place : ℕ) (es : List Edge) (f : List ℕ) → ((e : Edge) → Mem e es → Bounded c e) → edges_bounded c place es f ≡ good tt f
unfolding edges_bounded
bounds_pass c place [] f B = refl
bounds_pass c place (e ∷ es) f B =
    goes _ _ tt f (passes 5 place _ f
    ((and_law _ _ (every_law (guard_bounded c) (λ g. itself _) e.guards) (allb_law (length c) _ (λ z. itself _))).1 (guards, λ z l. (tests z l).0)))
    ∙ goes _ _ tt f (passes 6 place _ f ((allb_law (length c) _ (λ z. itself _)).1 (λ z l. (tests z l).1)))
    ∙ bounds_pass c (place + 1) es f (λ x m. B x (Memᴰ.tail m))
  where
    here : Bounded c e
    here = B e (Memᴰ.head refl)

    tests : (z : ℕ) → z < length c
        → (constant_bounded c z (get_or e.updates z idle).action ≡ true) × (clock_bounded c z (get_or e.updates z idle).action ≡ true)
    tests z l = bounded_tests c z (get_or e.updates z idle).action (here.updates_in z l)

    guards : (g : Guard) → Mem g e.guards → guard_bounded c g ≡ true
    guards g m = let (i, l, q) = in_get_or g m in le-leb g.constant (at c g.clock) (rw q at (here.guards_in i l g).1)

module _ (T : Table) (file : List ℕ) (k : ℕ) (O : TableOf T file k) where
  abbrev flags' : List ℕ
  flags' = O.flags

  edge_of : (e : Edge) → Mem e T.edges → Bounded T.bounds e × EdgeIn (clocks T) T.locations e
  edge_of e m =
      let (i, l, q) = in_get_or blank m in
      let A = O.admitted in
      rw (← q) (A.bounded i l, inside (edge T i) (A.source_in i l) (A.target_in i l) (A.bounded i l))
    where
      action_in : (z : ℕ) (a : Action) → BoundedBy T.bounds z a → ActionIn (clocks T) a
      action_in z keep h = tt
      action_in z (constant k) h = tt
      action_in z (clock y up down) h = h.0

      inside : (e : Edge) → e.source < T.locations → e.target < T.locations → Bounded T.bounds e → EdgeIn (clocks T) T.locations e
      inside e s t B = record {
        source_in = s;
        target_in = t;
        guards_in = λ g m. let (i, l, q) = in_get_or g m in rw q at (B.guards_in i l g).0;
        updates_length = B.updates_length;
        updates_in = λ u m.
            let (z, l, q) = in_get_or idle m in
            rw (← q) (action_in z (get_or e.updates z idle).action (B.updates_in z (omega (arith, B.updates_length))));
      }

  low_flags : (f : ℕ) → Mem f flags' → f ≤ 3
  low_flags f m = let (l, h, q) = in_get_or 0 m in rw (← q) (O.flags_low l (omega (arith, O.flags_length)))

  finals_are : map is_final flags' ≡ T.finals
  finals_are =
      ext_get_or false (map is_final flags') T.finals (length-map flags' is_final ∙ O.flags_length ∙ sym O.limits.finals_length) (λ l h.
      get_or-map is_final flags' l 0
      ∙ same_test (is_final (at flags' l)) (final T l) (eqb_law (at flags' l % 2) 1) (O.flags_final l (omega (arith, length-map flags' is_final, O.flags_length))))

  table_back : table_file (table_bytes flags' T) ≡ good T []
  unfolding table_file end
  table_back =
      goes _ _ head (gather location_bytes flags' ++ edges) (header_back T O.limits O.admitted.initial_in (gather location_bytes flags' ++ edges))
      ∙ goes _ _ (map is_final flags') edges (rw O.flags_length at (locations_back 1 flags' edges low_flags))
      ∙ goes _ _ T.edges [] (records_back (edge_record (clocks T) T.locations) edge_bytes (1 + T.locations) T.edges (λ place e rest m.
      edge_back (clocks T) T.locations place e (edge_of e m).1 (O.fields e m) rest))
      ∙ goes _ _ tt [] refl
      ∙ (λ i. good (record { bounds = T.bounds; locations = T.locations; initial = T.initial; finals = finals_are i; edges = T.edges }) [])
    where
      edges : List ℕ
      edges = gather edge_bytes T.edges

      head : Header
      head = record { locations = T.locations; initial = T.initial; edges = length T.edges; bounds = T.bounds }

  admitted_back : admitted (table_bytes flags' T) ≡ good T []
  unfolding admitted
  admitted_back =
      goes _ _ T [] table_back
      ∙ goes _ _ tt [] (bounds_pass T.bounds (1 + T.locations) T.edges [] (λ e m. (edge_of e m).0))

  accepted_back : (admission file ≡ accepted k) × (table_of file ≡ T)
  accepted_back = let (p, q) = read_admission (table_bytes flags' T) admitted_back in rw (O.bytes, ← O.counted) (p, q)

  file_are_bytes : AreBytes file
  file_are_bytes = rw O.bytes (
    omega arith,
    (
      omega arith,
      (
        omega (arith, O.limits.few_clocks),
        (
          omega (arith, O.limits.few_locations),
          (
            omega (arith, O.admitted.initial_in, O.limits.few_locations),
            (
              omega (arith, O.limits.few_edges),
              (
                omega arith,
                bytes_append T.bounds (gather location_bytes flags' ++ gather edge_bytes T.edges)
                    (are_bytes T.bounds (λ z l. omega (arith, O.limits.low_bounds z l)))
                    (bytes_append (gather location_bytes flags') (gather edge_bytes T.edges)
                    (gather_bytes location_bytes flags' (λ f m. (omega arith, (omega arith, (omega (arith, low_flags f m), tt)))))
                    (gather_bytes edge_bytes T.edges (λ e m.
                    edge_are_bytes (clocks T) T.locations 0 e (edge_of e m).1 (O.fields e m) O.limits.few_clocks O.limits.few_locations))),
              ),
            ),
          ),
        ),
      ),
    ),
  )

-- the file of a table within the limits is bytes, is accepted with its count of records, and has that very table
pub table_accepts : (file : List ℕ) (k : ℕ) (T : Table) → TableOf T file k → AreBytes file × (admission file ≡ accepted k) × (table_of file ≡ T)
table_accepts file k T O = let (p, q) = accepted_back T file k O in (file_are_bytes T file k O, p, q)

-- from the file to the table -------------------------------------------------------------------------------------------------

header_read : (f : List ℕ) (h : Header) (left : List ℕ) → header f ≡ good h left → AreBytes f
    → f ≡ TA ++ (length h.bounds ∷ h.locations ∷ h.initial ∷ (two_bytes h.edges ++ (h.bounds ++ left)))
unfolding header
header_read f h left e p =
    parts _ _ e λ b f1 e1 h1.
    tested _ _ _ _ _ h1 λ t2 h2.
    tested _ _ _ _ _ h2 λ t3 h3.
    tested _ _ _ _ _ h3 λ t4 h4.
    tested _ _ _ _ _ h4 λ t5 h5.
    parts _ _ h5 λ c f6 e6 h6.
    tested _ _ _ _ _ h6 λ t7 h7.
    let (x, y) = same_read h7 in
    let (k, m) = took_record 1 0 TA 7 f e1 in
    let K = took 1 0 (at b 2) f1 e6 in
    rw (← x, ← y) (
    k.whole
    ∙ (λ i. head b (bytes_before b f1 (rw k.whole at p)) m k.sized i ++ K.whole i)
    ∙ (λ i. TA ++ (sym K.sized i ∷ at b 3 ∷ at b 4 ∷ (two_bytes (two b 5) ++ (c ++ f6)))))
  where
    head : (b : List ℕ) → AreBytes b → TA ≡ take 2 b → length b ≡ 7 → b ≡ TA ++ (at b 2 ∷ at b 3 ∷ at b 4 ∷ two_bytes (two b 5))
    head b p m l =
        sym (take-append-drop 2 b)
        ∙ (λ i. sym m i ++ bytes_next b 2 3 (omega arith) i)
        ∙ (λ i. TA ++ (at b 2 ∷ at b 3 ∷ at b 4 ∷ two_next b p 5 (omega arith) i))
        ∙ (λ i. TA ++ (at b 2 ∷ at b 3 ∷ at b 4 ∷ (two_bytes (two b 5) ++ drop_of_length-le b {i = 7} (omega arith) i)))

record LocationsOf (n : ℕ) (f : List ℕ) (finals : List Bool) (left : List ℕ) : Type 0 where
  flags : List ℕ
  sized : length flags ≡ n
  low : (x : ℕ) → Mem x flags → x ≤ 3
  finals_are : map is_final flags ≡ finals
  whole : f ≡ gather location_bytes flags ++ left

location_read : (place : ℕ) (f : List ℕ) (t : Bool) (left : List ℕ) → location place f ≡ good t left
    → (x : ℕ) × (x ≤ 3) × (is_final x ≡ t) × (f ≡ location_bytes x ++ left)
unfolding location
location_read place f t left h =
    parts _ _ h λ b f1 e1 h1.
    tested _ _ _ _ _ h1 λ t2 h2.
    let (x, y) = same_read h2 in
    let (k, m) = took_record 1 place LO 3 f e1 in
    (at b 2, leb-true (at b 2) 3 t2, x, k.whole ∙ (λ i. head b m k.sized i ++ y i))
  where
    head : (b : List ℕ) → LO ≡ take 2 b → length b ≡ 3 → b ≡ location_bytes (at b 2)
    head b m l =
        sym (take-append-drop 2 b)
        ∙ (λ i. sym m i ++ byte_next b 2 (omega arith) i)
        ∙ (λ i. LO ++ (at b 2 ∷ drop_of_length-le b {i = 3} (omega arith) i))

locations_read : (place n : ℕ) (f : List ℕ) (finals : List Bool) (left : List ℕ) → records location place n f ≡ good finals left → LocationsOf n f finals left
unfolding records
locations_read place zero f finals left h =
    let (x, y) = same_read h in
    record { flags = []; sized = refl; low = λ x m. absurd (Memᴰ.not-nil m); finals_are = x; whole = y }
locations_read place (suc n) f finals left h =
    parts _ _ h λ t f1 e1 h1.
    parts _ _ h1 λ more f2 e2 h2.
    let (x, y) = same_read h2 in
    let (w, l, t_is, one) = location_read place f t f1 e1 in
    let others = locations_read (place + 1) n f1 more f2 e2 in
    record {
      flags = w ∷ others.flags;
      sized = ap suc others.sized;
      low = cons_all (λ (x : ℕ). x ≤ 3) l others.low;
      finals_are = (λ i. t_is i ∷ others.finals_are i) ∙ x;
      whole = one ∙ (λ i. location_bytes w ++ others.whole i) ∙ (λ i. location_bytes w ++ (gather location_bytes others.flags ++ y i));
    }

final_bit : (flags : List ℕ) (finals : List Bool) → map is_final flags ≡ finals → (l : ℕ) → Says (get_or finals l false) (at flags l % 2 ≡ 1)
final_bit flags finals e l = rw (← e, get_or-map is_final flags l 0) (eqb_law (at flags l % 2) 1)

table_read : (file : List ℕ) (T : Table) (left : List ℕ) → AreBytes file → table_file file ≡ good T left → Limits T → Admitted T
    → TableOf T file (1 + T.locations + length T.edges)
unfolding table_file
table_read file T left p h =
    parts _ _ h λ hd f1 e1 h1.
    parts _ _ h1 λ finals f2 e2 h2.
    parts _ _ h2 λ edges f3 e3 h3.
    parts _ _ h3 λ u f4 e4 h4.
    let n : ℕ = length hd.bounds in
    let L : ℕ = hd.locations in
    let head = header_read file hd f1 e1 p in
    let q : AreBytes (hd.bounds ++ f1) = (rw head at p).1.1.1.1.1.1.1 in
    let S = locations_read 1 L f1 finals f2 e2 in
    let r : AreBytes (gather location_bytes S.flags ++ f2) = rw S.whole at (bytes_after hd.bounds f1 q) in
    let (many, fields) = each_record (edge_record n L) EdgeFields (λ place f e l k. (edge_read n L place f e l k).0) (1 + L) hd.edges f2 edges f3 e3 in
    let whole : f2 ≡ gather edge_bytes edges ++ f3 =
    records_bytes (edge_record n L) edge_bytes (λ place f e l b k. (edge_read n L place f e l k).1 b) (1 + L) hd.edges f2 edges f3
    (bytes_after (gather location_bytes S.flags) f2 r) e3 in
    let front : List ℕ → List ℕ =
    λ rest. TA ++ (n ∷ L ∷ hd.initial ∷ (two_bytes (length edges) ++ (hd.bounds ++ (gather location_bytes S.flags ++ rest)))) in
    rw (← (same_read h4).0) (λ M A. record {
      limits = M;
      admitted = A;
      fields = fields;
      flags = S.flags;
      flags_length = S.sized;
      flags_low = λ l k. S.low _ (get_or_in S.flags l 0 (omega (arith, S.sized)));
      flags_final = λ l k. final_bit S.flags finals S.finals_are l;
      bytes =
          head
          ∙ (λ i. TA ++ (n ∷ L ∷ hd.initial ∷ (two_bytes (sym many i) ++ (hd.bounds ++ S.whole i))))
          ∙ ap front (whole ∙ (λ i. gather edge_bytes edges ++ ended 4 (1 + L + hd.edges) f3 e4 i) ∙ append-nil (gather edge_bytes edges));
      counted = refl;
    })

read_back : (file : List ℕ) (T : Table) (left : List ℕ) → AreBytes file → admitted file ≡ good T left → TableOf T file (record_count T)
unfolding admitted
read_back file T left p h =
    parts _ _ h λ T' f1 e1 h1.
    parts _ _ h1 λ u f2 e2 h2.
    table_read file T f1 p (e1 ∙ ap (λ (x : Table). good x f1) (same_read h2).0) (read_limits file T left h) (read_admitted file T left h)

-- a file of bytes is accepted with k and has the table T just if it is the file of that table, within document 01's limits, of k records
pub table_law : (file : List ℕ) (k : ℕ) (T : Table) → AreBytes file → ((admission file ≡ accepted k) × (table_of file ≡ T)) ↔ TableOf T file k
table_law file k T p = (λ t. to t.0 t.1, λ O. accepted_back T file k O)
  where
    to : admission file ≡ accepted k → table_of file ≡ T → TableOf T file k
    to h e = let (rest, a, n) = admission_read file k h in rw (← e, ← n) (read_back file (table_of file) rest p a)
