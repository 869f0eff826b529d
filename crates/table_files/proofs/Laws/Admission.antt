-- An admitted file's table is admitted. Assumes nothing.
use Prim.Native.Nat.{ℕ, ◌+◌, ◌≤◌, ◌<◌}
use native.Mathlib.Omega.{arith}
use mathlib.Core.Path.{◌≡◌, refl, ap}
use mathlib.Core.Bool.{true, ◌&&◌}
use mathlib.Core.List.Memᴰ
use mathlib.Core.List.{List, [], ◌∷◌}
use lib.ListN.{length, get_or}
use borrow.Author.Tests.{leb-true}
use Rattle.automata.specs.Clocks.{at}
use Rattle.automata.specs.Edge.{Guard, Action, keep, constant, clock, Edge, idle, BoundedBy, Bounded, ActionIn}
use Rattle.automata.specs.Automaton.{Table, blank, Admitted}
use Rattle.automata.specs.Closed.{Mem}
use Rattle.automata.specs.Checks.{every}
use Rattle.automata.proofs.Laws.Tests.{leb_law, and_law, allb_law}
use Rattle.automata.proofs.Laws.Members.{get_or_in}
use Rattle.automata.proofs.Laws.Checks.{every_law}
use Rattle.table_files.specs.Answer.{accepted}
use Rattle.table_files.specs.Reading.{Read, good, bad, answered}
use Rattle.table_files.specs.Admission.{guard_bounded, constant_bounded, clock_bounded, each_update, edges_bounded, admitted, record_count, admission, table_of, table_read}
use Rattle.table_files.specs.Meaning.{Limits}
use Rattle.table_files.proofs.Laws.Reading.{itself, cons_all, parts, tested, not_refused}
use Rattle.table_files.proofs.Laws.Tables.{EdgeIn, TableIn, table_in}

-- the bound rules ------------------------------------------------------------------------------------------------------------

record Fits (c : List ℕ) (e : Edge) : Type 0 where
  guards_fit : (g : Guard) → Mem g e.guards → g.constant ≤ at c g.clock
  constants_fit : (z : ℕ) → z < length c → constant_bounded c z (get_or e.updates z idle).action ≡ true
  clocks_fit : (z : ℕ) → z < length c → clock_bounded c z (get_or e.updates z idle).action ≡ true

each_fits : (c : List ℕ) (place : ℕ) (es : List Edge) (f : List ℕ) (u : Unit {0}) (left : List ℕ) → edges_bounded c place es f ≡ good u left
    → (e : Edge) → Mem e es → Fits c e
unfolding edges_bounded
each_fits c place [] f u left h e m = absurd (Memᴰ.not-nil m)
each_fits c place (e ∷ es) f u left h x m =
    tested _ _ _ _ _ h λ t1 h1.
    tested _ _ _ _ _ h1 λ t2 h2.
    cons_all (Fits c) (fit t1 t2) (each_fits c (place + 1) es f u left h2) x m
  where
    fit : (every (guard_bounded c) e.guards && each_update constant_bounded c e) ≡ true → each_update clock_bounded c e ≡ true → Fits c e
    fit t1 t2 =
        let (gs, us) =
        (and_law _ _ (every_law (guard_bounded c) (λ g. leb_law g.constant (at c g.clock)) e.guards) (allb_law (length c) _ (λ z. itself _))).0 t1 in
        record { guards_fit = gs; constants_fit = us; clocks_fit = (allb_law (length c) _ (λ z. itself _)).0 t2 }

bounded_by : (c : List ℕ) (z : ℕ) (a : Action) → ActionIn (length c) a → constant_bounded c z a ≡ true → clock_bounded c z a ≡ true → BoundedBy c z a
bounded_by c z keep i h k = tt
bounded_by c z (constant x) i h k = leb-true x (at c z) h
bounded_by c z (clock y up down) i h k = (i, leb-true (at c z + down) (at c y + up) k)

bounded : (c : List ℕ) (L : ℕ) (e : Edge) → EdgeIn (length c) L e → Fits c e → Bounded c e
bounded c L e i h = record {
  guards_in = λ j l d. let m = get_or_in e.guards j d l in (i.guards_in _ m, h.guards_fit _ m);
  updates_length = i.updates_length;
  updates_in = λ z l.
      bounded_by c z (get_or e.updates z idle).action
      (i.updates_in _ (get_or_in e.updates z idle (omega (arith, i.updates_length)))) (h.constants_fit z l) (h.clocks_fit z l);
}

-- the table ------------------------------------------------------------------------------------------------------------------

record Admits (T : Table) : Type 0 where
  table_in : TableIn T
  fits : (e : Edge) → Mem e T.edges → Fits T.bounds e

read_admits : (file : List ℕ) (T : Table) (left : List ℕ) → admitted file ≡ good T left → Admits T
unfolding admitted
read_admits file T left h =
    parts _ _ h λ T' f1 e1 h1.
    parts _ _ h1 λ u f2 e2 h2.
    let same_table : T' ≡ T = cc in
    rw (← same_table) (record { table_in = table_in file T' f1 e1; fits = each_fits T'.bounds (1 + T'.locations) T'.edges f1 u f2 e2 })

pub read_limits : (file : List ℕ) (T : Table) (left : List ℕ) → admitted file ≡ good T left → Limits T
read_limits file T left h = (read_admits file T left h).table_in.limits

pub read_admitted : (file : List ℕ) (T : Table) (left : List ℕ) → admitted file ≡ good T left → Admitted T
read_admitted file T left h =
    let A = read_admits file T left h in
    let E : (i : ℕ) → i < length T.edges → EdgeIn (length T.bounds) T.locations (get_or T.edges i blank) =
    λ i l. A.table_in.edges_in _ (get_or_in T.edges i blank l) in
    record {
      initial_in = A.table_in.initial_in;
      source_in = λ i l. (E i l).source_in;
      target_in = λ i l. (E i l).target_in;
      bounded = λ i l. bounded T.bounds T.locations (get_or T.edges i blank) (E i l) (A.fits _ (get_or_in T.edges i blank l));
    }

-- the table that an accepted file has
pub admission_read : (file : List ℕ) (k : ℕ) → admission file ≡ accepted k → (rest : List ℕ) × (admitted file ≡ good (table_of file) rest) × (record_count (table_of file) ≡ k)
unfolding admission table_of
admission_read file k h = go (admitted file) h
  where
    go : (r : Read Table) → answered record_count r ≡ accepted k → (rest : List ℕ) × (r ≡ good (table_read r) rest) × (record_count (table_read r) ≡ k)
    go (good T rest) h = (rest, refl, cc)
    go (bad number place) h = not_refused h

pub read_admission : (file : List ℕ) {T : Table} {rest : List ℕ} → admitted file ≡ good T rest → (admission file ≡ accepted (record_count T)) × (table_of file ≡ T)
unfolding admission table_of
read_admission file e = (ap (answered record_count) e, ap table_read e)

pub admission_admitted : (file : List ℕ) (k : ℕ) → admission file ≡ accepted k → Admitted (table_of file)
admission_admitted file k h = let (rest, e, _) = admission_read file k h in read_admitted file (table_of file) rest e

pub admission_limits : (file : List ℕ) (k : ℕ) → admission file ≡ accepted k → Limits (table_of file)
admission_limits file k h = let (rest, e, _) = admission_read file k h in read_limits file (table_of file) rest e
