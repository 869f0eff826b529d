-- The follower's ways out: what is answered and written for the next rows. Assumes nothing.
use Prim.Native.Nat.{ℕ, zero, suc, ◌+◌, ◌*◌, ◌/◌, ◌≤◌, ◌<◌}
use native.Mathlib.Nat.{suc-mul, zero-mul}
use native.Mathlib.Omega.{arith}
use mathlib.Core.Path.{◌≡◌, refl, sym, ap, subst, ◌∙◌}
use mathlib.Core.Bool.{Bool, true, false, ◌&&◌}
use mathlib.Core.Option.{Option, none, some}
use mathlib.Core.Logic.{◌⊎◌, inl, inr}
use mathlib.Core.List.Memᴰ
use mathlib.Core.List.{List, [], ◌∷◌}
use lib.ListN.{length, length-append}
use lib.Dec.{eqb, leb}
use lib.Seq.{get_or-take, length-take-le}
use borrow.Author.Tests.{le-leb, lt-leb}
use Rattle.automata.specs.Clocks.{at}
use Rattle.automata.specs.Row.{Row, IsRow}
use Rattle.automata.specs.Closed.{Mem}
use Rattle.automata.specs.Wait.{wait}
use Rattle.automata.specs.Successors.{held, wait_rows, guardsb, leadsb, edge_rows}
use Rattle.automata.specs.Rows.{rows_at}
use Rattle.edge_walk.specs.Choice.{Ready}
use Rattle.edge_walk.specs.Way.{rows_on}
use Rattle.edge_walk.specs.declared.way.Way.{Way}
use Rattle.regions.specs.Values.{Few, bounds_of, row_of, edge_of, sought, found_of}
use Rattle.regions.specs.declared.clocks.Clocks as clocks_code
use Rattle.regions.specs.declared.region.Region.{Region}
use Rattle.std.specs.declared.option.Option as option_code
use Rattle.std.specs.Prelude.{None, Some, is_some}
use Rattle.regions.specs.declared.edge.Edge as edge_code
use Rattle.automata.proofs.Laws.Tests.{never, leb_law, says, same_test}
use Rattle.automata.proofs.Laws.Waiting.{wait_row}
use Rattle.automata.proofs.Laws.Successors.{edge_rows_law}
use Rattle.regions.proofs.Laws.Values.{found_sought}
use Rattle.edge_walk.proofs.Laws.Way.{select_none}
use Rattle.edge_walk.proofs.Laws.Along.{on_start}
use Rattle.table_files.specs.Answer.{Answer, accepted, refused}
use Rattle.calls.specs.RegionFile.{row_width, row_bytes, rows_bytes}
use Rattle.calls.proofs.Laws.Rows.{row_width_is}
use Rattle.following.specs.Following.{Stands, Leaves, rows_waited, rows_led, row_found, fits, told, put}
use Rattle.following.specs.Writing.{Low}
use Rattle.following.proofs.Laws.Put.{one_long}

-- rows of n clocks, whose intervals are bytes --------------------------------------------------------------------------------------

pub record Sized (n : ℕ) (r : Row) : Type 0 where
  pub intervals_length : length r.intervals ≡ n
  pub ranks_length : length r.ranks ≡ n
  pub narrow : (z : ℕ) → z < n → at r.intervals z < 256

pub row_long : (n : ℕ) (r : Row) → Sized n r → length (row_bytes r) ≡ row_width n
row_long n r s = omega (arith, row_width_is n, length-append r.intervals r.ranks, s.intervals_length, s.ranks_length)

-- each takes as many bytes
rows_long : (n : ℕ) (rows : List Row) → ((r : Row) → Mem r rows → Sized n r) → length (rows_bytes rows) ≡ length rows * row_width n
rows_long n [] h = sym (zero-mul (row_width n))
rows_long n (r ∷ rows) h =
    length-append (row_bytes r) (rows_bytes rows)
    ∙ (λ i. row_long n r (h r (Memᴰ.head refl)) i + rows_long n rows (λ s m. h s (Memᴰ.tail m)) i)
    ∙ sym (suc_mul' (length rows) (row_width n))
  where
    suc_mul' : (a b : ℕ) → suc a * b ≡ b + a * b
    suc_mul' a b = omega (arith, suc-mul a b)

module _ (k : clocks_code.Clocks) (four : length k.bounds ≡ 4) (few : Few k) (low : Low k) where
  bounds_long : length (bounds_of k) ≡ k.count
  bounds_long = length-take-le k.count k.bounds (omega (arith, few.few))

  pub row_sized : (s : Row) → IsRow (bounds_of k) s → Sized k.count s
  row_sized s R = record {
    intervals_length = R.intervals_length ∙ bounds_long;
    ranks_length = R.ranks_length ∙ bounds_long;
    narrow = λ z h. omega (arith, R.in_range z (omega (arith, bounds_long)), get_or-take k.count k.bounds z 0 h, low z h);
  }

-- the rows on a way
module _ (w : Way) (ready : Ready w.search) (four : length w.search.clocks.bounds ≡ 4) (low : Low w.search.clocks) where
  pub way_long : length (rows_bytes (rows_on w)) ≡ length (rows_on w) * row_width w.search.clocks.count
  way_long = rows_long w.search.clocks.count (rows_on w) (λ r m. row_sized w.search.clocks four ready.few low r (on_start w ready r m).held.is_row)

  pub way_fits : (count room : ℕ) (t : Bool) → count ≡ length (rows_on w) → t ≡ leb (count * row_width w.search.clocks.count) room → t ≡ fits (rows_on w) room
  way_fits count room t n e = e ∙ ap (λ (i : ℕ). leb i room) (ap (λ (i : ℕ). i * row_width w.search.clocks.count) n ∙ sym way_long)

-- whether they fit -----------------------------------------------------------------------------------------------------------------

-- in so many bytes fit as many rows as their number divided by a row's
pub fit_count : (n : ℕ) → n ≤ 4 → (count room width : ℕ) → width ≡ row_width n → leb count (room / width) ≡ leb (count * row_width n) room
fit_count n few count room width e =
    let d : width ≡ 3 + 2 * n = e ∙ row_width_is n in
    let f : row_width n ≡ 3 + 2 * n = row_width_is n in
    rw (d, f) (go n few)
  where
    both : (a b : ℕ) → (count ≤ a → b ≤ room) → (b ≤ room → count ≤ a) → leb count a ≡ leb b room
    both a b p q = same_test (leb count a) (leb b room) (leb_law count a) (says _ (leb_law b room) (q, p))

    go : (n : ℕ) → n ≤ 4 → leb count (room / (3 + 2 * n)) ≡ leb (count * (3 + 2 * n)) room
    go zero h = both (room / 3) (count * 3) (λ p. omega arith) (λ p. omega arith)
    go (suc zero) h = both (room / 5) (count * 5) (λ p. omega arith) (λ p. omega arith)
    go (suc (suc zero)) h = both (room / 7) (count * 7) (λ p. omega arith) (λ p. omega arith)
    go (suc (suc (suc zero))) h = both (room / 9) (count * 9) (λ p. omega arith) (λ p. omega arith)
    go (suc (suc (suc (suc zero)))) h = both (room / 11) (count * 11) (λ p. omega arith) (λ p. omega arith)
    go (suc (suc (suc (suc (suc n))))) h = absurd (omega arith)

-- what is answered and written ---------------------------------------------------------------------------------------------------

-- the answer and the buffer after, for these next rows and the buffer before
abbrev pub Done : List Row → List ℕ → Answer → List ℕ → Type 0
Done rows o given after = record { answer : given ≡ told (fits rows (length o)) rows; buffer : after ≡ put (fits rows (length o)) rows o }

pub not_fitted : (rows : List Row) (o : List ℕ) → false ≡ fits rows (length o) → Done rows o (refused 19 0) o
not_fitted rows o e = rw (← e) (record { answer = refl; buffer = refl })

pub nothing_done : (rows : List Row) (o : List ℕ) → [] ≡ rows → Done rows o (accepted 0) o
nothing_done rows o e = rw (← e, le-leb 0 (length o) (omega arith)) (record { answer = refl; buffer = refl })

-- one row or none
module _ (n : ℕ) where
  -- its region can be written
  pub narrow_row : (next : option_code.Option Region) → ((r : Row) → Mem r (row_found n next) → Sized n r) → (region : Region) → next ≡ Some region
      → (z : ℕ) → z < n → at region.intervals z < 256
  narrow_row (Some v) h region e z l =
      rw (get_or-take n region.intervals z 0 l) at ((h (row_of n region) (subst (λ (o : option_code.Option Region). Mem (row_of n region) (row_found n o)) (sym e) (Memᴰ.head refl))).narrow z l)
  narrow_row None h region e z l = never (ap is_some e)

  pub short_done : n ≤ 4 → (v : Region) → length v.intervals ≡ 4 → length v.ranks ≡ 4 → (o : List ℕ) → length o < row_width n → Done (row_of n v ∷ []) o (refused 19 0) o
  short_done few v p q o h = not_fitted (row_of n v ∷ []) o (sym (lt-leb (length (rows_bytes (row_of n v ∷ []))) (length o) (omega (arith, one_long n few v p q))))

-- the rows of an edge and of a wait ----------------------------------------------------------------------------------------------

module _ (k : clocks_code.Clocks) (four : length k.bounds ≡ 4) (r : Region) (S : Stands k r) where
  pub led_sized : (e : edge_code.Edge) → Leaves k e → (s : Row) → Mem s (rows_led k e r) → Sized k.count s
  led_sized e E s m = row_sized k four S.few S.low s ((edge_rows_law (bounds_of k) (edge_of k.count e) (row_of k.count r) s S.is_row E.bounded).0 m).is_row

  -- by waiting
  module _ (next : option_code.Option Region) (e : next ≡ sought (wait (bounds_of k) (row_of k.count r))) where
    sized : (s : Row) → wait (bounds_of k) (row_of k.count r) ≡ some s → Sized k.count s
    sized s p = row_sized k four S.few S.low s (wait_row (bounds_of k) (row_of k.count r) s S.is_row p)

    found_is : found_of k.count next ≡ wait (bounds_of k) (row_of k.count r)
    found_is = ap (found_of k.count) e ∙ found_sought k.count (wait (bounds_of k) (row_of k.count r)) (λ s p. ((sized s p).intervals_length, (sized s p).ranks_length))

    pub waited_is : rows_waited k r ≡ row_found k.count next
    unfolding wait_rows
    waited_is = ap held (sym found_is)

    pub waited_sized : (s : Row) → Mem s (row_found k.count next) → Sized k.count s
    waited_sized s m = go (wait (bounds_of k) (row_of k.count r)) refl (subst (λ (o : Option Row). Mem s (held o)) found_is m)
      where
        go : (o : Option Row) → wait (bounds_of k) (row_of k.count r) ≡ o → Mem s (held o) → Sized k.count s
        go none p i = absurd (Memᴰ.not-nil i)
        go (some t) p i = here (Memᴰ.cases_cons i)
          where
            here : (s ≡ t) ⊎ Mem s [] → Sized k.count s
            here (inl d) = rw d (sized t p)
            here (inr j) = absurd (Memᴰ.not-nil j)

  -- by an edge that cannot be taken
  pub no_image : (e : edge_code.Edge) → Leaves k e → eqb r.location e.source && guardsb (row_of k.count r) (edge_of k.count e).guards ≡ false → rows_led k e r ≡ []
  unfolding edge_rows leadsb
  no_image e E f =
      select_none (leadsb (bounds_of k) (edge_of k.count e) (row_of k.count r)) (rows_at (bounds_of k) e.target)
      (λ x m. go (eqb r.location e.source) (guardsb (row_of k.count r) (edge_of k.count e).guards) f _ _ _)
    where
      go : (a g : Bool) → a && g ≡ false → (b i p : Bool) → (((a && b) && g) && i) && p ≡ false
      go false g e b i p = refl
      go true false e true i p = refl
      go true false e false i p = refl
      go true true e b i p = never (sym e)
