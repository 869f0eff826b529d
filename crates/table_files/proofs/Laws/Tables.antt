-- What is known of a table that was read. Assumes nothing.
use Prim.Native.Nat.{ℕ, ◌+◌, ◌≤◌, ◌<◌}
use Rattle.automata.proofs.Laws.Lists.{length_from}
use native.Mathlib.Omega.{arith}
use mathlib.Core.Path.{◌≡◌, sym, ap, ◌∙◌}
use mathlib.Core.Bool.{Bool, true}
use mathlib.Core.Logic.{◌⊎◌, inl, inr}
use mathlib.Core.List.{List, map}
use lib.ListN.{length, length-map}
use borrow.Author.Tests.{leb-true, ltb-true}
use Rattle.automata.specs.Comparison.{comparisons}
use Rattle.automata.specs.Clocks.{at}
use Rattle.automata.specs.Edge.{Guard, Update, Edge, ActionIn}
use Rattle.automata.specs.Automaton.{Table, clocks}
use Rattle.automata.specs.Closed.{Mem}
use Rattle.automata.specs.Rows.{from}
use Rattle.automata.specs.Checks.{every}
use Rattle.automata.proofs.Laws.Tests.{eqb_law, leb_law, ltb_law, and_law, or_law}
use Rattle.automata.proofs.Laws.Members.{get_or_in, map_out}
use Rattle.automata.proofs.Laws.Checks.{every_law}
use Rattle.table_files.specs.Reading.{good}
use Rattle.table_files.specs.TableFile.{Header, header, location, guard_in_range, Fields, fields_in_range, update, edge_record, table_file}
use Rattle.table_files.specs.Meaning.{Limits}
use Rattle.table_files.proofs.Laws.Reading.{same_read, itself, parts, tested, between_law, took, each_record}

-- the header -----------------------------------------------------------------------------------------------------------------

pub record HeaderIn (h : Header) : Type 0 where
  pub clocks_low : 1 ≤ length h.bounds
  pub clocks_high : length h.bounds ≤ 4
  pub locations_low : 1 ≤ h.locations
  pub locations_high : h.locations ≤ 64
  pub initial_in : h.initial < h.locations
  pub edges_high : h.edges ≤ 256
  pub bounds_high : (z : ℕ) → z < length h.bounds → at h.bounds z ≤ 127

pub header_in : (f : List ℕ) (h : Header) (left : List ℕ) → header f ≡ good h left → HeaderIn h
unfolding header
header_in f h left e =
    parts _ _ e λ b f1 e1 h1.
    tested _ _ _ _ _ h1 λ t2 h2.
    tested _ _ _ _ _ h2 λ t3 h3.
    tested _ _ _ _ _ h3 λ t4 h4.
    tested _ _ _ _ _ h4 λ t5 h5.
    parts _ _ h5 λ c f6 e6 h6.
    tested _ _ _ _ _ h6 λ t7 h7.
    let (n, n') = (between_law 1 4 (length c)).0 (rw (← (took 1 0 _ f1 e6).sized) at t2) in
    let (L, L') = (between_law 1 64 _).0 t3 in
    rw (← (same_read h7).0) (record {
      clocks_low = n;
      clocks_high = n';
      locations_low = L;
      locations_high = L';
      initial_in = ltb-true _ _ t4;
      edges_high = leb-true _ 256 t5;
      bounds_high = λ z l. (every_law _ (λ x. leb_law x 127) c).0 t7 _ (get_or_in c z 0 l);
    })

-- edges ----------------------------------------------------------------------------------------------------------------------

guard_clock : (n : ℕ) (g : Guard) → guard_in_range n g ≡ true → g.clock < n
guard_clock n g h = ((and_law _ _ (and_law _ _ (ltb_law g.clock n) (ltb_law g.comparison comparisons)) (leb_law g.constant 127)).0 h).0.0

update_in : (n : ℕ) (x : Fields) → fields_in_range n x ≡ true → ActionIn n (update x).action
update_in n x h =
    go
    ((or_law _ _
    (or_law _ _ (and_law _ _ (and_law _ _ (and_law _ _ (eqb_law x.kind 0) (itself _)) (itself _)) (itself _))
    (and_law _ _ (and_law _ _ (and_law _ _ (eqb_law x.kind 1) (itself _)) (itself _)) (itself _)))
    (and_law _ _ (and_law _ _ (and_law _ _ (and_law _ _ (eqb_law x.kind 2) (itself _)) (ltb_law x.y n)) (itself _)) (itself _))).0 h)
  where
    go : {P Q R P' Q' R' P'' Q'' R'' : Type 0}
        → (((((x.kind ≡ 0) × P) × Q) × R) ⊎ ((((x.kind ≡ 1) × P') × Q') × R')) ⊎ (((((x.kind ≡ 2) × P'') × (x.y < n)) × Q'') × R'')
        → ActionIn n (update x).action
    go (inl (inl t)) = rw t.0.0.0 tt
    go (inl (inr t)) = rw t.0.0.0 tt
    go (inr t) = rw t.0.0.0.0 t.0.0.1

pub record EdgeIn (n L : ℕ) (e : Edge) : Type 0 where
  pub source_in : e.source < L
  pub target_in : e.target < L
  pub guards_in : (g : Guard) → Mem g e.guards → g.clock < n
  pub updates_length : length e.updates ≡ n
  pub updates_in : (u : Update) → Mem u e.updates → ActionIn n u.action

updates_in : (n : ℕ) (F : ℕ → Fields) (zs : List ℕ) → every (fields_in_range n) (map F zs) ≡ true
    → (u : Update) → Mem u (map update (map F zs)) → ActionIn n u.action
updates_in n F zs t u m =
    let (x, k, q) = map_out update {b = u} (map F zs) m in
    rw q (update_in n x ((every_law (fields_in_range n) (λ w. itself (fields_in_range n w)) (map F zs)).0 t x k))

edge_in : (n L place : ℕ) (f : List ℕ) (e : Edge) (left : List ℕ) → edge_record n L place f ≡ good e left → EdgeIn n L e
unfolding edge_record
edge_in n L place f e left h0 =
    parts _ _ h0 λ b f1 e1 h1.
    tested _ _ _ _ _ h1 λ t2 h2.
    tested _ _ _ _ _ h2 λ t3 h3.
    tested _ _ _ _ _ h3 λ t4 h4.
    parts _ _ h4 λ d f5 e5 h5.
    tested _ _ _ _ _ h5 λ t6 h6.
    tested _ _ _ _ _ h6 λ t7 h7.
    rw (← (same_read h7).0) (record {
      source_in = ltb-true _ L t2;
      target_in = ltb-true _ L t3;
      guards_in = λ x m. guard_clock n x ((every_law (guard_in_range n) (λ y. itself (guard_in_range n y)) _).0 t6 x m);
      updates_length = simp (length-map, length_from);
      updates_in = updates_in n _ (from 0 n) t7;
    })

-- the table ------------------------------------------------------------------------------------------------------------------

pub record TableIn (T : Table) : Type 0 where
  pub limits : Limits T
  pub initial_in : T.initial < T.locations
  pub edges_in : (e : Edge) → Mem e T.edges → EdgeIn (clocks T) T.locations e

pub table_in : (file : List ℕ) (T : Table) (left : List ℕ) → table_file file ≡ good T left → TableIn T
unfolding table_file
table_in file T left h =
    parts _ _ h λ hd f1 e1 h1.
    parts _ _ h1 λ finals f2 e2 h2.
    parts _ _ h2 λ edges f3 e3 h3.
    parts _ _ h3 λ u f4 e4 h4.
    let b : hd.bounds ≡ T.bounds = cc in
    let l : hd.locations ≡ T.locations = cc in
    let i : hd.initial ≡ T.initial = cc in
    let fs : finals ≡ T.finals = cc in
    let es : edges ≡ T.edges = cc in
    let n : length hd.bounds ≡ clocks T = ap length b in
    let H = header_in file hd f1 e1 in
    let (many, each) =
    each_record (edge_record (length hd.bounds) hd.locations) (EdgeIn (length hd.bounds) hd.locations)
    (edge_in (length hd.bounds) hd.locations) (1 + hd.locations) hd.edges f2 edges f3 e3 in
    let all = (each_record location (λ (_ : Bool). Unit {0}) (λ _ _ _ _ _. tt) 1 hd.locations f1 finals f2 e2).0 in
    record {
      limits = record {
        some_clock = omega (arith, H.clocks_low);
        few_clocks = omega (arith, H.clocks_high);
        some_location = omega (arith, H.locations_low);
        few_locations = omega (arith, H.locations_high);
        finals_length = ap length (sym fs) ∙ all ∙ l;
        few_edges = omega (arith, ap length (sym es), H.edges_high);
        low_bounds = rw b at H.bounds_high;
      };
      initial_in = omega (arith, H.initial_in);
      edges_in = rw (n, l, es) at each;
    }
