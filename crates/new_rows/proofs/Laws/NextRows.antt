-- The next rows of a row: they are rows, and where they are; what the code has of them. Assumes nothing.
use Prim.Native.Nat.{ℕ, ◌≤◌, ◌<◌}
use native.Mathlib.Omega.{arith}
use mathlib.Core.Path.{◌≡◌, refl, sym, ap, ◌∙◌}
use mathlib.Core.Bool.{Bool, true, false, ◌&&◌}
use mathlib.Core.Option.{none}
use mathlib.Core.List.Memᴰ
use mathlib.Core.List.{List, [], ◌∷◌}
use lib.ListN.{length}
use lib.Dec.{eqb}
use Rattle.automata.specs.Clocks.{at}
use Rattle.automata.specs.Row.{Row, IsRow}
use Rattle.automata.specs.Edge.{Edge}
use Rattle.automata.specs.Closed.{Mem}
use Rattle.automata.specs.Rows.{rows_at}
use Rattle.automata.specs.Wait.{wait}
use Rattle.automata.specs.Successors.{guardsb, leadsb, held, wait_rows, edge_rows}
use Rattle.regions.specs.Values.{bounds_of, row_of, edge_of, sought, found_of}
use Rattle.regions.specs.declared.clocks.Clocks.{Clocks}
use Rattle.regions.specs.declared.region.Region.{Region}
use Rattle.std.specs.declared.option.Option as option_code
use Rattle.std.specs.Prelude.{is_some}
use Rattle.regions.specs.declared.edge.Edge as edge_code
use Rattle.edge_walk.specs.Walk.{first_above}
use Rattle.automata.proofs.Laws.Tests.{never}
use Rattle.automata.proofs.Laws.Members.{select_out}
use Rattle.automata.proofs.Laws.Rows.{rows_at_out}
use Rattle.automata.proofs.Laws.Waiting.{wait_row, wait_location}
use Rattle.automata.proofs.Laws.Successors.{wait_rows_law}
use Rattle.regions.proofs.Laws.Values.{at_take, found_sought}
use Rattle.edge_walk.proofs.Laws.Way.{select_none}

-- rows ----------------------------------------------------------------------------------------------------------------------------

-- the rows that an edge leads to are rows, in its target
pub led_row : (c : List ℕ) (e : Edge) (r x : Row) → Mem x (edge_rows c e r) → IsRow c x × (x.location ≡ e.target)
unfolding edge_rows
led_row c e r x m = let (l, i) = rows_at_out c e.target x (select_out (leadsb c e r) (rows_at c e.target) m).0 in (i, l)

-- the row that waiting leads to is a row, in the same location
pub waited_row : (c : List ℕ) (r x : Row) → IsRow c r → Mem x (wait_rows c r) → IsRow c x × (x.location ≡ r.location)
waited_row c r x R m = let e = (wait_rows_law c r x).0 m in (wait_row c r x R e, wait_location c r x R e)

-- it can be written: its intervals are bytes
pub new_narrow : (k : Clocks) → length (bounds_of k) ≡ k.count → ((z : ℕ) → z < k.count → at k.bounds z ≤ 127)
    → (v : Region) → IsRow (bounds_of k) (row_of k.count v) → (z : ℕ) → z < k.count → at v.intervals z < 256
new_narrow k long low v i z h =
    omega (arith, i.in_range z (omega (arith, long)), at_take k.count v.intervals z h, at_take k.count k.bounds z h, low z h)

-- what the code has of them -------------------------------------------------------------------------------------------------------

-- the region after this one in time, or none
pub waited : (c : List ℕ) (n : ℕ) → length c ≡ n → (r : Row) → IsRow c r → (s : option_code.Option Region) → s ≡ sought (wait c r) → held (found_of n s) ≡ wait_rows c r
unfolding wait_rows
waited c n e r R s f =
    ap (λ (t : option_code.Option Region). held (found_of n t)) f
    ∙ ap held (found_sought n (wait c r) (λ x q. let i = wait_row c r x R q in (i.intervals_length ∙ e, i.ranks_length ∙ e)))

-- an edge that cannot be taken leads nowhere
pub none_led : (k : Clocks) (v : Region) (e : edge_code.Edge)
    → eqb v.location e.source && guardsb (row_of k.count v) (edge_of k.count e).guards ≡ false
    → edge_rows (bounds_of k) (edge_of k.count e) (row_of k.count v) ≡ []
unfolding edge_rows leadsb
none_led k v e f =
    select_none (leadsb (bounds_of k) (edge_of k.count e) (row_of k.count v)) (rows_at (bounds_of k) e.target)
    (λ x m. go (eqb v.location e.source) (guardsb (row_of k.count v) (edge_of k.count e).guards) f _ _ _)
  where
    go : (a g : Bool) → a && g ≡ false → (b i p : Bool) → (((a && b) && g) && i) && p ≡ false
    go false g e b i p = refl
    go true false e true i p = refl
    go true false e false i p = refl
    go true true e b i p = never (sym e)

-- whether there is a first row says whether there is any
pub some_led : (rows : List Row) → is_some (sought (first_above none rows)) ≡ true → (x : Row) × Mem x rows
unfolding first_above
some_led [] h = never h
some_led (x ∷ xs) h = (x, Memᴰ.head refl)

pub nothing_led : (rows : List Row) → is_some (sought (first_above none rows)) ≡ false → rows ≡ []
unfolding first_above
nothing_led [] h = refl
nothing_led (x ∷ xs) h = never (sym h)
