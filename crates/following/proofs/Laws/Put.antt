-- Rows written one after the other to the front of a buffer. Assumes nothing.
use Prim.Native.Nat.{ℕ, zero, suc, ◌+◌, ◌-◌, ◌≤◌, ◌<◌}
use native.Mathlib.Numerals.{add-one}
use native.Mathlib.Omega.{arith}
use mathlib.Core.Path.{◌≡◌, refl, sym, ap, subst, ◌∙◌}
use mathlib.Core.Bool.{Bool, true, false, cond}
use mathlib.Core.List.{List, [], ◌∷◌, ◌++◌, append_assoc, append-nil}
use lib.ListN.{length, get_or, take, drop, length-append, length-drop, take-append-drop}
use Rattle.automata.specs.Row.{Row}
use Rattle.automata.specs.Rows.{select}
use Rattle.regions.specs.Values.{row_of}
use Rattle.regions.specs.declared.region.Region.{Region}
use Rattle.calls.specs.RegionFile.{row_width, row_bytes, rows_bytes}
use Rattle.following.specs.Writing.{Holds, row_if}
use Rattle.automata.proofs.Laws.Tests.{never}
use Rattle.regions.proofs.Laws.Values.{length_first}
use Rattle.calls.proofs.Laws.Rows.{row_width_is}
use Rattle.calls.proofs.Laws.Writing.{rest_next}

pub rows_append : (xs ys : List Row) → rows_bytes (xs ++ ys) ≡ rows_bytes xs ++ rows_bytes ys
rows_append [] ys = refl
rows_append (x ∷ xs) ys = ap (λ (l : List ℕ). row_bytes x ++ l) (rows_append xs ys) ∙ sym (append_assoc (row_bytes x) (rows_bytes xs) (rows_bytes ys))

pub rows_length : (xs ys : List Row) → length (rows_bytes (xs ++ ys)) ≡ length (rows_bytes xs) + length (rows_bytes ys)
rows_length xs ys = ap length (rows_append xs ys) ∙ length-append (rows_bytes xs) (rows_bytes ys)

-- the rows stand at the front of a buffer that had o, up to this place
pub record Put (rows : List Row) (o buffer : List ℕ) (place : ℕ) : Type 0 where
  pub place_is : length (rows_bytes rows) ≡ place
  pub out_is : buffer ≡ rows_bytes rows ++ drop place o
  pub long : length buffer ≡ length o

-- the rows are written, in so many bytes
abbrev pub Wrote : List Row → List ℕ → List ℕ → ℕ → Type 0
Wrote written o buffer place = record { bytes : place ≡ length (rows_bytes written); rows : Holds written o buffer }

pub put_none : (o : List ℕ) → Put [] o o 0
put_none o = record { place_is = refl; out_is = refl; long = refl }

module _ (rows : List Row) (o buffer : List ℕ) (place : ℕ) (P : Put rows o buffer place) where
  pub put_holds : Wrote rows o buffer place
  put_holds = record { bytes = sym P.place_is; rows = P.out_is ∙ ap (λ (k : ℕ). rows_bytes rows ++ drop k o) (sym P.place_is) }

  -- more rows, written to the rest of the buffer
  pub put_more : (more : List Row) → length (rows_bytes (rows ++ more)) ≤ length o → (w : List ℕ) → Holds more (take (length buffer - place) (drop place buffer)) w
      → Put (rows ++ more) o (take place buffer ++ (w ++ drop (length buffer - place) (drop place buffer))) (place + length (rows_bytes more))
  put_more more room w h =
      let k : ℕ = length (rows_bytes more) in
      let out : take place buffer ++ (w ++ drop (length buffer - place) (drop place buffer)) ≡ rows_bytes (rows ++ more) ++ drop (place + k) o =
      rest_next (rows_bytes rows) o buffer w (rows_bytes more) place k P.place_is P.out_is h
      ∙ ap (λ (l : List ℕ). l ++ drop (place + k) o) (sym (rows_append rows more)) in
      let further : length (rows_bytes (rows ++ more)) ≡ place + k = rows_length rows more ∙ ap (λ (i : ℕ). i + k) P.place_is in
      record {
        place_is = further;
        out_is = out;
        long = ap length out ∙ simp (length-append, length-drop) (omega (arith, further, room));
      }

  -- there is room for them in the rest
  pub put_room : (more : List Row) → length (rows_bytes (rows ++ more)) ≤ length o → place + length (rows_bytes more) ≤ length buffer
  put_room more room = omega (arith, rows_length rows more, P.place_is, P.long)

-- those of the rows that pass a test, row by row ----------------------------------------------------------------------------------

module _ (p : Row → Bool) where
  select_append : (xs ys : List Row) → select p (xs ++ ys) ≡ select p xs ++ select p ys
  select_append [] ys = refl
  select_append (x ∷ xs) ys = go (p x) (select_append xs ys)
    where
      go : (b : Bool) → select p (xs ++ ys) ≡ select p xs ++ select p ys
          → cond b (x ∷ select p (xs ++ ys)) (select p (xs ++ ys)) ≡ cond b (x ∷ select p xs) (select p xs) ++ select p ys
      go true e = ap (λ (l : List Row). x ∷ l) e
      go false e = e

  take_more : (xs : List Row) (j : ℕ) (d : Row) → j < length xs → take (j + 1) xs ≡ take j xs ++ (get_or xs j d ∷ [])
  take_more xs j d h = rw add-one (go xs j h)
    where
      go : (xs : List Row) (j : ℕ) → j < length xs → take (suc j) xs ≡ take j xs ++ (get_or xs j d ∷ [])
      go [] j h = absurd (omega arith)
      go (x ∷ xs) zero h = refl
      go (x ∷ xs) (suc j) h = ap (λ (l : List Row). x ∷ l) (go xs j (omega arith))

  -- one more
  pub passed_more : (xs : List Row) (j : ℕ) (x d : Row) (b : Bool) → j < length xs → x ≡ get_or xs j d → b ≡ p x → select p (take (j + 1) xs) ≡ select p (take j xs) ++ row_if b x
  passed_more xs j x d b h e f =
      ap (select p) (take_more xs j d h) ∙ select_append (take j xs) (get_or xs j d ∷ []) ∙ rw (← e, ← f) (one b)
    where
      one : (b : Bool) → select p (take j xs) ++ cond b (x ∷ []) [] ≡ select p (take j xs) ++ row_if b x
      one b = refl

  -- they are no more than all
  pub passed_short : (xs : List Row) (j : ℕ) → length (rows_bytes (select p (take j xs))) ≤ length (rows_bytes (select p xs))
  passed_short xs j =
      let e : select p xs ≡ select p (take j xs) ++ select p (drop j xs) = ap (select p) (sym (take-append-drop j xs)) ∙ select_append (take j xs) (drop j xs) in
      omega (arith, ap (λ (l : List Row). length (rows_bytes l)) e, rows_length (select p (take j xs)) (select p (drop j xs)))

-- one row, or none ----------------------------------------------------------------------------------------------------------------

module _ (n : ℕ) (few : n ≤ 4) (v : Region) (p : length v.intervals ≡ 4) (q : length v.ranks ≡ 4) where
  pub one_long : length (rows_bytes (row_of n v ∷ [])) ≡ row_width n
  one_long =
      ap length (append-nil (row_bytes (row_of n v)))
      ∙ omega (arith, row_width_is n, length-append (take n v.intervals) (take n v.ranks), length_first n v.intervals few p, length_first n v.ranks few q)

  pub room_one : (b : Bool) (room : ℕ) → b ≡ true → length (rows_bytes (row_if b (row_of n v))) ≤ room → row_width n ≤ room
  room_one true room e h = omega (arith, one_long)
  room_one false room e h = never e

  pub wrote_one : (b : Bool) (k : ℕ) (before after : List ℕ) → b ≡ true → k ≡ row_width n → after ≡ row_bytes (row_of n v) ++ drop (row_width n) before
      → Wrote (row_if b (row_of n v)) before after k
  wrote_one true k before after e f h =
      record { bytes = f ∙ sym one_long; rows = h ∙ sym (λ i. append-nil (row_bytes (row_of n v)) i ++ drop (one_long i) before) }
  wrote_one false k before after e f h = never e

-- row j of a list is written where it passes --------------------------------------------------------------------------------------

module _ (p : Row → Bool) (rows : List Row) (o buffer : List ℕ) (place j : ℕ) (P : Put (select p (take j rows)) o buffer place) where
  module _ (x d : Row) (b : Bool) (h : j < length rows) (e : x ≡ get_or rows j d) (f : b ≡ p x) (room : length (rows_bytes (select p rows)) ≤ length o) where
    fits_in : length (rows_bytes (select p (take j rows) ++ row_if b x)) ≤ length o
    fits_in = omega (arith, ap (λ (l : List Row). length (rows_bytes l)) (passed_more p rows j x d b h e f), passed_short p rows (j + 1))

    pub turn_room : place + length (rows_bytes (row_if b x)) ≤ length buffer
    turn_room = put_room (select p (take j rows)) o buffer place P (row_if b x) fits_in

    pub turn_more : (w : List ℕ) → Holds (row_if b x) (take (length buffer - place) (drop place buffer)) w
        → Put (select p (take (j + 1) rows)) o (take place buffer ++ (w ++ drop (length buffer - place) (drop place buffer))) (place + length (rows_bytes (row_if b x)))
    turn_more w g =
        subst (λ (l : List Row). Put l o (take place buffer ++ (w ++ drop (length buffer - place) (drop place buffer))) (place + length (rows_bytes (row_if b x))))
        (sym (passed_more p rows j x d b h e f)) (put_more (select p (take j rows)) o buffer place P (row_if b x) fits_in w g)
