-- Edge records: what is read is an edge within the limits and its bytes, and such an edge is read back. Assumes nothing.
use Prim.Native.Nat.{ℕ, zero, suc, ◌+◌, ◌*◌, ◌-◌, ◌%◌, ◌≤◌, ◌<◌}
use Rattle.automata.proofs.Laws.Lists.{length_from}
use native.Mathlib.Decide.{dec_lt}
use native.Mathlib.Omega.{arith}
use mathlib.Core.Path.{◌≡◌, refl, sym, ap, ◌∙◌}
use mathlib.Core.Bool.{true}
use mathlib.Core.Logic.{◌⊎◌, inl, inr}
use mathlib.Core.List.{List, [], ◌∷◌, ◌++◌, map, map-map, append_assoc, append-nil}
use lib.ListN.{length, get_or, take, drop, length-append, length-map, take-append-drop, drop_of_length-le, get_or-append}
use lib.Seq.{get_or-append-add}
use lib.Dec.{leb, ltb}
use borrow.Author.Tests.{leb-true, le-leb, lt-ltb, le-ltb}
use Rattle.automata.specs.Comparison.{comparisons}
use Rattle.automata.specs.Clocks.{at}
use Rattle.automata.specs.Edge.{Guard, Action, keep, constant, clock, Update, Edge, idle, ActionIn}
use Rattle.automata.specs.Closed.{Mem}
use Rattle.automata.specs.Rows.{from, gather}
use Rattle.automata.specs.Checks.{every}
use Rattle.automata.proofs.Laws.Tests.{Says, eqb_law, leb_law, ltb_law, and_law, or_law}
use Rattle.automata.proofs.Laws.Members.{get_or_in, map_in, map_out, from_in, from_out}
use Rattle.automata.proofs.Laws.Checks.{every_law}
use Rattle.table_files.specs.Bytes.{AreBytes, ED, two, two_bytes, up, down}
use Rattle.table_files.specs.Reading.{good}
use Rattle.table_files.specs.TableFile.{guard, guard_in_range, Fields, fields, fields_in_range, update, edge_record}
use Rattle.table_files.specs.TableBytes.{guard_bytes, offset_bytes, action_bytes, update_bytes, edge_bytes, Offset, UpdateFields, EdgeFields}
use Rattle.table_files.proofs.Laws.Bytes.{bytes_append, bytes_before, bytes_after, gather_bytes, bytes_next, two_next, two_small}
use Rattle.table_files.proofs.Laws.Reading.{same_read, parts, tested, took, took_record, goes, passes, bytes_back, record_back}
use Rattle.table_files.proofs.Laws.Tables.{EdgeIn}

-- parts of one width, one after the other ------------------------------------------------------------------------------------

module _ {A : Type 0} (f : A → List ℕ) (k : ℕ) (wide : (a : A) → length (f a) ≡ k) where
  pub length_parts : (xs : List A) → length (gather f xs) ≡ k * length xs
  length_parts [] = omega arith
  length_parts (x ∷ xs) = length-append (f x) (gather f xs) ∙ omega (arith, wide x, length_parts xs)

  -- byte j of part i
  pub at_part : (xs : List A) (i j : ℕ) (d : A) → i < length xs → j < k → at (gather f xs) (k * i + j) ≡ at (f (get_or xs i d)) j
  at_part [] i j d h l = absurd (omega arith)
  at_part (x ∷ xs) zero j d h l =
      let e : k * 0 + j ≡ j = omega arith in
      ap (at (f x ++ gather f xs)) e ∙ get_or-append (f x) (gather f xs) 0 j (omega (arith, wide x))
  at_part (x ∷ xs) (suc i) j d h l =
      let e : k * suc i + j ≡ length (f x) + (k * i + j) = omega (arith, wide x) in
      ap (at (f x ++ gather f xs)) e ∙ get_or-append-add (f x) (gather f xs) (k * i + j) 0 ∙ at_part xs i j d (omega arith) l

-- a list from its elements
map_from : {A : Type 0} (f : ℕ → A) (d : A) (xs : List A) → ((i : ℕ) → i < length xs → f i ≡ get_or xs i d) → map f (from 0 (length xs)) ≡ xs
map_from {A} f d xs h = go 0 xs (λ i l. let e : 0 + i ≡ i = omega arith in ap f e ∙ h i l)
  where
    go : (a : ℕ) (xs : List A) → ((i : ℕ) → i < length xs → f (a + i) ≡ get_or xs i d) → map f (from a (length xs)) ≡ xs
    go a [] h = refl
    go a (x ∷ xs) h =
        let e : a ≡ a + 0 = omega arith in
        λ i. (ap f e ∙ h 0 (omega arith)) i ∷ go (a + 1) xs (λ k l. let q : a + 1 + k ≡ a + suc k = omega arith in ap f q ∙ h (suc k) (omega arith)) i

-- offsets --------------------------------------------------------------------------------------------------------------------

signed_up : (w : ℕ) → w < 32768 → (up w ≡ w) × (down w ≡ 0)
signed_up w h = rw (lt-ltb w 32768 h) (refl, refl)

signed_down : (w : ℕ) → 32768 ≤ w → (up w ≡ 0) × (down w ≡ 65536 - w)
signed_down w h = rw (le-ltb w 32768 h) (refl, refl)

offset_back : (u d : ℕ) → Offset u d → (up (two (offset_bytes u d) 0) ≡ u) × (down (two (offset_bytes u d) 0) ≡ d)
offset_back u d o = let e : two (offset_bytes u d) 0 ≡ (65536 + u - d) % 65536 = omega arith in rw e (go o (dec_lt 0 d))
  where
    w : ℕ
    w = (65536 + u - d) % 65536

    go : Offset u d → Dec (0 < d) → (up w ≡ u) × (down w ≡ d)
    go (inl (e, l)) q = let s = signed_up w (omega arith) in (s.0 ∙ omega arith, s.1 ∙ sym e)
    go (inr (e, l)) (yes q) = let s = signed_down w (omega arith) in (s.0 ∙ sym e, s.1 ∙ omega arith)
    go (inr (e, l)) (no q) = let s = signed_up w (omega arith) in (s.0 ∙ omega arith, s.1 ∙ omega arith)

-- guards and updates ---------------------------------------------------------------------------------------------------------

-- what the tests of a guard's and of an update's fields say
guard_law : (n : ℕ) (g : Guard) → Says (guard_in_range n g) (((g.clock < n) × (g.comparison < comparisons)) × (g.constant ≤ 127))
guard_law n g = and_law _ _ (and_law _ _ (ltb_law g.clock n) (ltb_law g.comparison comparisons)) (leb_law g.constant 127)

abbrev FieldsIn : ℕ → Fields → Type 0
FieldsIn n x =
    (((((x.kind ≡ 0) × (x.comparison ≡ 0)) × (x.y ≡ 0)) × (x.offset ≡ 0)) ⊎ ((((x.kind ≡ 1) × (x.comparison < comparisons)) × (x.y ≡ 0)) × (x.offset ≤ 127)))
    ⊎ (((((x.kind ≡ 2) × (x.comparison < comparisons)) × (x.y < n)) × (up x.offset ≤ 127)) × (down x.offset ≤ 127))

fields_law : (n : ℕ) (x : Fields) → Says (fields_in_range n x) (FieldsIn n x)
fields_law n x =
    or_law _ _
    (or_law _ _ (and_law _ _ (and_law _ _ (and_law _ _ (eqb_law x.kind 0) (eqb_law x.comparison 0)) (eqb_law x.y 0)) (eqb_law x.offset 0))
    (and_law _ _ (and_law _ _ (and_law _ _ (eqb_law x.kind 1) (ltb_law x.comparison comparisons)) (eqb_law x.y 0)) (leb_law x.offset 127)))
    (and_law _ _ (and_law _ _ (and_law _ _ (and_law _ _ (eqb_law x.kind 2) (ltb_law x.comparison comparisons)) (ltb_law x.y n)) (leb_law (up x.offset) 127))
    (leb_law (down x.offset) 127))

update_wide : (u : Update) → length (update_bytes u) ≡ 5
update_wide u = go u.action
  where
    go : (a : Action) → length (action_bytes u.comparison a) ≡ 5
    go keep = refl
    go (constant k) = refl
    go (clock y up down) = refl

-- the fields in an update's bytes
abbrev fields_of : Update → Fields
fields_of u = fields (update_bytes u) 0

update_back : (u : Update) → UpdateFields u.comparison u.action → update (fields_of u) ≡ u
update_back u h = go u.comparison u.action h
  where
    go : (c : ℕ) (a : Action) → UpdateFields c a → update (fields_of (record { action = a; comparison = c })) ≡ record { action = a; comparison = c }
    go c keep e = λ i. record { action = keep; comparison = sym e i }
    go c (constant k) t = let e : two (two_bytes k) 0 ≡ k = omega arith in λ i. record { action = constant (e i); comparison = c }
    go c (clock y u d) (l, o) = let (p, q) = offset_back u d o in λ i. record { action = clock y (p i) (q i); comparison = c }

update_range : (n : ℕ) (u : Update) → UpdateFields u.comparison u.action → ActionIn n u.action → FieldsIn n (fields_of u)
update_range n u h k = go u.comparison u.action h k
  where
    go : (c : ℕ) (a : Action) → UpdateFields c a → ActionIn n a → FieldsIn n (fields_of (record { action = a; comparison = c }))
    go c keep e k = inl (inl (((refl, refl), refl), refl))
    go c (constant x) (l, m) k = inl (inr (((refl, l), refl), omega arith))
    go c (clock y u d) (l, o) k = let (p, q) = offset_back u d o in let (h, h') = within o in inr ((((refl, l), k), rw p h), rw q h')
      where
        within : Offset u d → (u ≤ 127) × (d ≤ 127)
        within (inl t) = (t.1, omega (arith, t.0))
        within (inr t) = (omega (arith, t.0), t.1)

update_are_bytes : (n : ℕ) → n ≤ 4 → (u : Update) → UpdateFields u.comparison u.action → ActionIn n u.action → AreBytes (update_bytes u)
update_are_bytes n few u h k = go u.comparison u.action h k
  where
    go : (c : ℕ) (a : Action) → UpdateFields c a → ActionIn n a → AreBytes (action_bytes c a)
    go c keep e k = (omega arith, (omega arith, (omega arith, (omega arith, (omega arith, tt)))))
    go c (constant x) t k = (omega arith, (omega (arith, t.0), (omega arith, (omega (arith, t.1), (omega arith, tt)))))
    go c (clock y u d) t k = (omega arith, (omega (arith, t.0), (omega arith, (omega arith, (omega arith, tt)))))

-- an edge --------------------------------------------------------------------------------------------------------------------

module _ (n L place : ℕ) (e : Edge) (I : EdgeIn n L e) (F : EdgeFields e) where
  abbrev guards_part : List ℕ
  guards_part = gather guard_bytes e.guards

  abbrev updates_part : List ℕ
  updates_part = gather update_bytes e.updates

  abbrev body : List ℕ
  body = guards_part ++ updates_part

  abbrev count : ℕ
  count = length e.guards

  guards_length : length guards_part ≡ 3 * count
  guards_length = length_parts guard_bytes 3 (λ g. refl) e.guards

  body_length : 3 * count + 5 * n ≡ length body
  body_length =
      omega (arith, length-append guards_part updates_part, guards_length, length_parts update_bytes 5 update_wide e.updates, I.updates_length)

  guard_at : (d : Guard) (i : ℕ) → i < count → guard body (3 * i) ≡ get_or e.guards i d
  guard_at d i l = λ j. record {
    clock = byte (3 * i) 0 (omega arith) (omega arith) j;
    comparison = byte (3 * i + 1) 1 refl (omega arith) j;
    constant = byte (3 * i + 2) 2 refl (omega arith) j;
  }
    where
      byte : (p k : ℕ) → p ≡ 3 * i + k → k < 3 → at body p ≡ at (guard_bytes (get_or e.guards i d)) k
      byte p k q h =
          ap (at body) q
          ∙ get_or-append guards_part updates_part 0 (3 * i + k) (omega (arith, guards_length))
          ∙ at_part guard_bytes 3 (λ g. refl) e.guards i k d l h

  fields_at : (z : ℕ) → z < n → fields body (3 * count + 5 * z) ≡ fields_of (get_or e.updates z idle)
  fields_at z l = λ j. record {
    kind = byte p 0 (omega arith) (omega arith) j;
    comparison = byte (p + 1) 1 refl (omega arith) j;
    y = byte (p + 2) 2 refl (omega arith) j;
    offset = byte (p + 3) 3 refl (omega arith) j * 256 + byte (p + 3 + 1) 4 (omega arith) (omega arith) j;
  }
    where
      p : ℕ
      p = 3 * count + 5 * z

      byte : (q k : ℕ) → q ≡ 3 * count + 5 * z + k → k < 5 → at body q ≡ at (update_bytes (get_or e.updates z idle)) k
      byte q k r h =
          let s : q ≡ length guards_part + (5 * z + k) = omega (arith, guards_length) in
          ap (at body) s
          ∙ get_or-append-add guards_part updates_part (5 * z + k) 0
          ∙ at_part update_bytes 5 update_wide e.updates z k idle (omega (arith, I.updates_length)) h

  guards_back : map (λ (i : ℕ). guard body (3 * i)) (from 0 count) ≡ e.guards
  guards_back = map_from (λ (i : ℕ). guard body (3 * i)) none e.guards (guard_at none)
    where
      none : Guard
      none = record { clock = 0; comparison = 0; constant = 0 }

  abbrev read_fields : List Fields
  read_fields = map (λ (z : ℕ). fields body (3 * count + 5 * z)) (from 0 n)

  update_in : (z : ℕ) → z < n → Mem (get_or e.updates z idle) e.updates
  update_in z l = get_or_in e.updates z idle (omega (arith, I.updates_length))

  updates_back : map update read_fields ≡ e.updates
  updates_back =
      map-map update (λ (z : ℕ). fields body (3 * count + 5 * z)) (from 0 n)
      ∙ rw (← I.updates_length) (map_from (λ (z : ℕ). update (fields body (3 * count + 5 * z))) idle e.updates (λ z l.
      ap update (fields_at z (omega (arith, I.updates_length)))
      ∙ update_back (get_or e.updates z idle) (F.updates _ (get_or_in e.updates z idle l))))

  guards_range : every (guard_in_range n) e.guards ≡ true
  guards_range =
      (every_law (guard_in_range n) (guard_law n) e.guards).1 (λ g m.
      ((I.guards_in g m, (F.guards g m).comparison), (F.guards g m).constant_low))

  fields_range : every (fields_in_range n) read_fields ≡ true
  fields_range =
      (every_law (fields_in_range n) (fields_law n) read_fields).1 (λ x m.
      let (z, k, q) = map_out (λ (z : ℕ). fields body (3 * count + 5 * z)) (from 0 n) m in
      let l : z < n = omega (arith, from_out 0 n z k) in
      let u : Mem (get_or e.updates z idle) e.updates = update_in z l in
      rw (q ∙ fields_at z l) (update_range n (get_or e.updates z idle) (F.updates _ u) (I.updates_in _ u)))

  pub edge_are_bytes : n ≤ 4 → L ≤ 64 → AreBytes (edge_bytes e)
  edge_are_bytes few less = (
    omega arith,
    (
      omega arith,
      (
        omega (arith, I.source_in),
        (
          omega (arith, I.target_in),
          (
            omega (arith, F.few_guards),
            bytes_append guards_part updates_part
                (gather_bytes guard_bytes e.guards (λ g m.
                (omega (arith, I.guards_in g m), (omega (arith, (F.guards g m).comparison), (omega (arith, (F.guards g m).constant_low), tt)))))
                (gather_bytes update_bytes e.updates (λ u m. update_are_bytes n few u (F.updates u m) (I.updates_in u m))),
          ),
        ),
      ),
    ),
  )

  pub edge_back : (rest : List ℕ) → edge_record n L place (edge_bytes e ++ rest) ≡ good e rest
  unfolding edge_record
  edge_back rest =
      goes _ _ head (body ++ rest) (record_back 1 place ED 5 head (body ++ rest) refl refl)
      ∙ goes _ _ tt (body ++ rest) (passes 3 place (ltb e.source L) (body ++ rest) (lt-ltb e.source L I.source_in))
      ∙ goes _ _ tt (body ++ rest) (passes 3 place (ltb e.target L) (body ++ rest) (lt-ltb e.target L I.target_in))
      ∙ goes _ _ tt (body ++ rest) (passes 3 place (leb count 8) (body ++ rest) (le-leb count 8 F.few_guards))
      ∙ goes _ _ body rest (bytes_back 1 place (3 * count + 5 * n) body rest body_length)
      ∙ goes _ _ tt rest (passes 3 place _ rest (ap (every (guard_in_range n)) guards_back ∙ guards_range))
      ∙ goes _ _ tt rest (passes 3 place (every (fields_in_range n) read_fields) rest fields_range)
      ∙ (λ i. good (record { source = e.source; target = e.target; guards = guards_back i; updates = updates_back i }) rest)
    where
      head : List ℕ
      head = ED ++ (e.source ∷ e.target ∷ count ∷ [])

-- from the file to the edge --------------------------------------------------------------------------------------------------

-- parts, each where the one before it ends
parts_next : {A : Type 0} (b : List ℕ) (bytes : A → List ℕ) (read : ℕ → A) (place : ℕ → ℕ) (n : ℕ)
    → ((z : ℕ) → z < n → drop (place z) b ≡ bytes (read z) ++ drop (place (z + 1)) b)
    → (a m : ℕ) → a + m ≤ n → drop (place a) b ≡ gather bytes (map read (from a m)) ++ drop (place (a + m)) b
parts_next b bytes read place n one a zero h = let e : a ≡ a + 0 = omega arith in λ i. drop (place (e i)) b
parts_next b bytes read place n one a (suc m) h =
    let e : a + 1 + m ≡ a + suc m = omega arith in
    let more : List ℕ = gather bytes (map read (from (a + 1) m)) in
    one a (omega arith)
    ∙ (λ i. bytes (read a) ++ parts_next b bytes read place n one (a + 1) m (omega arith) i)
    ∙ (λ i. bytes (read a) ++ (more ++ drop (place (e i)) b))
    ∙ sym (append_assoc (bytes (read a)) more (drop (place (a + suc m)) b))

three_next : (b : List ℕ) (p : ℕ) → p + 3 ≤ length b → drop p b ≡ at b p ∷ at b (p + 1) ∷ at b (p + 2) ∷ drop (p + 3) b
three_next b p h = bytes_next b p 3 h ∙ (let e : p + 0 ≡ p = omega arith in λ i. at b (e i) ∷ at b (p + 1) ∷ at b (p + 2) ∷ drop (p + 3) b)

five_next : (b : List ℕ) → AreBytes b → (p : ℕ) → p + 5 ≤ length b
    → drop p b ≡ at b p ∷ at b (p + 1) ∷ at b (p + 2) ∷ (two_bytes (two b (p + 3)) ++ drop (p + 5) b)
five_next b q p h =
    three_next b p (omega arith)
    ∙ (λ i. at b p ∷ at b (p + 1) ∷ at b (p + 2) ∷ two_next b q (p + 3) (omega arith) i)
    ∙ (let e : p + 3 + 2 ≡ p + 5 = omega arith in λ i. at b p ∷ at b (p + 1) ∷ at b (p + 2) ∷ (two_bytes (two b (p + 3)) ++ drop (e i) b))

-- what the bytes of its update are
update_whole : (n : ℕ) (x : Fields) → FieldsIn n x → x.offset < 65536 → update_bytes (update x) ≡ x.kind ∷ x.comparison ∷ x.y ∷ two_bytes x.offset
update_whole n x (inl (inl (((k, c), y), o))) l = rw (k, c, y, o)
update_whole n x (inl (inr (((k, c), y), o))) l = rw (k, y)
update_whole n x (inr ((((k, c), y), o), o')) l = rw (k, signed x.offset l (dec_lt x.offset 32768))
  where
    signed : (w : ℕ) → w < 65536 → Dec (w < 32768) → (65536 + up w - down w) % 65536 ≡ w
    signed w l (yes h) = let (p, q) = signed_up w h in rw (p, q) (omega arith)
    signed w l (no h) = let (p, q) = signed_down w (omega arith) in rw (p, q) (omega arith)

update_fields : (n : ℕ) (x : Fields) → FieldsIn n x → UpdateFields x.comparison (update x).action
update_fields n x (inl (inl (((k, c), y), o))) = rw k c
update_fields n x (inl (inr (((k, c), y), o))) = rw k (c, o)
update_fields n x (inr ((((k, c), y), o), o')) = rw k (c, go (dec_lt x.offset 32768))
  where
    go : Dec (x.offset < 32768) → Offset (up x.offset) (down x.offset)
    go (yes h) = inl ((signed_up x.offset h).1, o)
    go (no h) = inr ((signed_down x.offset (omega arith)).0, o')

-- guards and updates in the bytes after the guard count
module _ (n count : ℕ) (d : List ℕ) (sized : length d ≡ 3 * count + 5 * n) where
  abbrev guards_in : List Guard
  guards_in = map (λ (i : ℕ). guard d (3 * i)) (from 0 count)

  abbrev field : ℕ → Fields
  field z = fields d (3 * count + 5 * z)

  abbrev fields_in : List Fields
  fields_in = map field (from 0 n)

  body_whole : AreBytes d → every (fields_in_range n) fields_in ≡ true → d ≡ gather guard_bytes guards_in ++ gather update_bytes (map update fields_in)
  body_whole p t =
      parts_next d guard_bytes (λ (i : ℕ). guard d (3 * i)) (λ (i : ℕ). 3 * i) count one_guard 0 count (omega arith)
      ∙ (λ i. gather guard_bytes guards_in ++ drop (start i) d)
      ∙ ap (λ (l : List ℕ). gather guard_bytes guards_in ++ l) (
      parts_next d update_bytes (λ (z : ℕ). update (field z)) (λ (z : ℕ). 3 * count + 5 * z) n one_update 0 n (omega arith)
      ∙ (λ i. gather update_bytes (sym (map-map update field (from 0 n)) i) ++ drop_of_length-le d {i = 3 * count + 5 * (0 + n)} (omega arith) i)
      ∙ append-nil (gather update_bytes (map update fields_in)))
    where
      start : 3 * (0 + count) ≡ 3 * count + 5 * 0
      start = omega arith

      one_guard : (i : ℕ) → i < count → drop (3 * i) d ≡ guard_bytes (guard d (3 * i)) ++ drop (3 * (i + 1)) d
      one_guard i l =
          let e : 3 * i + 3 ≡ 3 * (i + 1) = omega arith in
          three_next d (3 * i) (omega arith) ∙ (λ j. guard_bytes (guard d (3 * i)) ++ drop (e j) d)

      one_update : (z : ℕ) → z < n → drop (3 * count + 5 * z) d ≡ update_bytes (update (field z)) ++ drop (3 * count + 5 * (z + 1)) d
      one_update z l =
          let q : ℕ = 3 * count + 5 * z in
          let e : q + 5 ≡ 3 * count + 5 * (z + 1) = omega arith in
          let m : Mem (field z) fields_in = map_in field (from_in 0 n z (omega arith) (omega arith)) in
          let r : FieldsIn n (field z) = (every_law (fields_in_range n) (fields_law n) fields_in).0 t (field z) m in
          five_next d p q (omega arith) ∙ (λ j. sym (update_whole n (field z) r (two_small d p (q + 3))) j ++ drop (e j) d)

-- what an edge record that is read holds
pub edge_read : (n L place : ℕ) (f : List ℕ) (e : Edge) (left : List ℕ) → edge_record n L place f ≡ good e left
    → EdgeFields e × (AreBytes f → f ≡ edge_bytes e ++ left)
unfolding edge_record
edge_read n L place f e left h0 =
    parts _ _ h0 λ b f1 e1 h1.
    tested _ _ _ _ _ h1 λ t2 h2.
    tested _ _ _ _ _ h2 λ t3 h3.
    tested _ _ _ _ _ h3 λ t4 h4.
    parts _ _ h4 λ d f5 e5 h5.
    tested _ _ _ _ _ h5 λ t6 h6.
    tested _ _ _ _ _ h6 λ t7 h7.
    let (x, y) = same_read h7 in
    let (k, m) = took_record 1 place ED 5 f e1 in
    let K = took 1 place (3 * at b 4 + 5 * n) f1 e5 in
    let many : length (guards_in n (at b 4) d K.sized) ≡ at b 4 = simp (length-map, length_from) in
    rw (← x, ← y) (
      record {
        few_guards = omega (arith, leb-true (at b 4) 8 t4);
        guards = λ g i. let t = (every_law (guard_in_range n) (guard_law n) _).0 t6 g i in record { comparison = t.0.1; constant_low = t.1 };
        updates = λ u i.
            let (w, j, q) = map_out update (fields_in n (at b 4) d K.sized) i in
            rw q (update_fields n w ((every_law (fields_in_range n) (fields_law n) (fields_in n (at b 4) d K.sized)).0 t7 w j));
      },
      λ p.
          let q : AreBytes (b ++ f1) = rw k.whole at p in
          let r : AreBytes (d ++ f5) = rw K.whole at (bytes_after b f1 q) in
          k.whole
          ∙ (λ i. head b m k.sized i ++ K.whole i)
          ∙ (λ i. ED ++ (at b 2 ∷ at b 3 ∷ sym many i ∷ (body_whole n (at b 4) d K.sized (bytes_before d f5 r) t7 i ++ f5))),
    )
  where
    head : (b : List ℕ) → ED ≡ take 2 b → length b ≡ 5 → b ≡ ED ++ (at b 2 ∷ at b 3 ∷ at b 4 ∷ [])
    head b m l =
        sym (take-append-drop 2 b)
        ∙ (λ i. sym m i ++ three_next b 2 (omega arith) i)
        ∙ (λ i. ED ++ (at b 2 ∷ at b 3 ∷ at b 4 ∷ drop_of_length-le b {i = 5} (omega arith) i))
