-- A table file from its header to its end: each way in which it is admitted or refused. Assumes nothing.
use Prim.Native.Nat.{ℕ, ◌+◌, ◌-◌, ◌≤◌, ◌<◌}
use native.Mathlib.Omega.{arith}
use mathlib.Core.Path.{◌≡◌, refl, sym, ap, ◌∙◌}
use mathlib.Core.Bool.{Bool}
use mathlib.Core.List.{List, [], ◌∷◌}
use lib.ListN.{length, drop, length-drop, drop_of_length-le}
use Rattle.automata.specs.Edge.{Edge}
use Rattle.automata.specs.Automaton.{Table}
use Rattle.regions.specs.Values.{bounds_of, Few}
use Rattle.table_files.specs.Reading.{Read, good, bad, Reader, carry, end, records}
use Rattle.table_files.specs.TableFile.{Header, header, location, edge_record, table_file}
use Rattle.table_files.specs.Admission.{edges_bounded, admitted}
use Rattle.tables.specs.Values.{Describes}
use Rattle.table_records.specs.Scan.{Scanned}
use Rattle.table_records.specs.Header.{Headed}
use Rattle.table_records.specs.Edge.{edge_at, after_edge, Stands}
use Rattle.tables.specs.Bounds.{edges_at, AllStand}
use Rattle.std.specs.Prelude.{Ok}
use Rattle.table_records.specs.declared.head.Head.{Head}
use Rattle.table_files.proofs.Laws.Reading.{goes}
use Rattle.table_files.proofs.Laws.Tables.{HeaderIn, header_in}
use Rattle.table_files.proofs.Laws.Admission.{read_admission}
use Rattle.table_records.proofs.Laws.Skips.{All, all_read, length_values}
use Rattle.table_records.proofs.Laws.Edges.{edge_one}

-- a reading that is refused refuses what comes after it
pub stopped : {A B : Type 0} (r : Read A) (next : A → Reader B) {number place : ℕ} → r ≡ bad number place → carry r next ≡ bad number place
unfolding carry
stopped r next e = rw e

-- the header that a head says
abbrev pub header_of : Head → Header
header_of k = record { locations = k.locations; initial = k.initial; edges = k.edges; bounds = bounds_of k.clocks }

-- the header has been read
pub record Begun (file : List ℕ) (k : Head) : Type 0 where
  pub reads : header file ≡ good (header_of k) (drop (7 + k.clocks.count) file)
  pub few : Few k.clocks
  pub sized : k.clocks.count ≡ length (bounds_of k.clocks)
  pub fits : 7 + k.clocks.count ≤ length file
  pub few_locations : k.locations ≤ 64
  pub few_edges : k.edges ≤ 256

pub begun : (file : List ℕ) (k : Head) → Headed file (header file) (Ok k) → Begun file k
begun file k ((hd, p, e), l) =
    let I : HeaderIn hd = header_in file hd (drop (7 + k.clocks.count) file) e in
    record {
      reads = e ∙ (λ i. good (record { locations = sym p.locations i; initial = sym p.initial i; edges = sym p.edges i; bounds = sym p.bounds i }) (drop (7 + k.clocks.count) file));
      few = p.few;
      sized = p.count ∙ ap length (sym p.bounds);
      fits = l;
      few_locations = omega (arith, p.locations, I.locations_high);
      few_edges = omega (arith, p.edges, I.edges_high);
    }

pub not_begun : (file : List ℕ) {number place : ℕ} → header file ≡ bad number place → admitted file ≡ bad number place
unfolding admitted table_file
not_begun file e = stopped _ _ (stopped _ _ e)

-- what comes after it, as equations -----------------------------------------------------------------------------------------

abbrev pub locations_read : List ℕ → Head → Read (List Bool)
locations_read file k = records location 1 k.locations (drop (7 + k.clocks.count) file)

abbrev pub edges_read : List ℕ → Head → ℕ → Read (List Edge)
edges_read file k p = records (edge_record k.clocks.count k.locations) (1 + k.locations) k.edges (drop p file)

abbrev pub table_with : Head → List Bool → List Edge → Table
table_with k finals es = record { bounds = bounds_of k.clocks; locations = k.locations; initial = k.initial; finals = finals; edges = es }

module _ (file : List ℕ) (k : Head) (b : Begun file k) where
  pub no_locations : {number place : ℕ} → locations_read file k ≡ bad number place → admitted file ≡ bad number place
  unfolding admitted table_file
  no_locations h = stopped _ _ (goes _ _ _ _ b.reads ∙ stopped _ _ h)

  module _ {finals : List Bool} (p : ℕ) (locations : locations_read file k ≡ good finals (drop p file)) where
    -- the clocks are as many as the bounds
    edges_same : {r : Read (List Edge)} → edges_read file k p ≡ r
        → records (edge_record (length (bounds_of k.clocks)) k.locations) (1 + k.locations) k.edges (drop p file) ≡ r
    edges_same h = rw b.sized at h

    pub no_edges : {number place : ℕ} → edges_read file k p ≡ bad number place → admitted file ≡ bad number place
    unfolding admitted table_file
    no_edges h = stopped _ _ (goes _ _ _ _ b.reads ∙ goes _ _ _ _ locations ∙ stopped _ _ (edges_same h))

    module _ {es : List Edge} {rest : List ℕ} (edges : edges_read file k p ≡ good es rest) where
      no_end : {number place : ℕ} → end 4 (1 + k.locations + k.edges) rest ≡ bad number place → admitted file ≡ bad number place
      unfolding admitted table_file
      no_end h = stopped _ _ (goes _ _ _ _ b.reads ∙ goes _ _ _ _ locations ∙ goes _ _ _ _ (edges_same edges) ∙ stopped _ _ h)

      module _ {u : Unit {0}} {f : List ℕ} (ends : end 4 (1 + k.locations + k.edges) rest ≡ good u f) where
        table_ends : table_file file ≡ good (table_with k finals es) f
        unfolding table_file
        table_ends = goes _ _ _ _ b.reads ∙ goes _ _ _ _ locations ∙ goes _ _ _ _ (edges_same edges) ∙ goes _ _ _ _ ends

        bounds_break : {number place : ℕ} → edges_bounded (bounds_of k.clocks) (1 + k.locations) es f ≡ bad number place → admitted file ≡ bad number place
        unfolding admitted
        bounds_break h = goes _ _ _ _ table_ends ∙ stopped _ _ h

        bounds_keep : {v : Unit {0}} {g : List ℕ} → edges_bounded (bounds_of k.clocks) (1 + k.locations) es f ≡ good v g → admitted file ≡ good (table_with k finals es) g
        unfolding admitted
        bounds_keep h = goes _ _ _ _ table_ends ∙ goes _ _ _ _ h

-- and as scans ---------------------------------------------------------------------------------------------------------------

module _ (file : List ℕ) (k : Head) (b : Begun file k) (p : ℕ) (locations : Scanned file (locations_read file k) (Ok p)) where
  pub edges_refused : {number place : ℕ} → edges_read file k p ≡ bad number place → admitted file ≡ bad number place
  edges_refused h = no_edges file k b p locations.0.1 h

  module _ (q : ℕ) (edges : Scanned file (edges_read file k p) (Ok q)) where
    by_position : All (edge_at k.clocks.count file) (after_edge k.clocks.count file) (Stands k.clocks.count file) file k.edges p edges.0.0 (drop q file)
    by_position = all_read (edge_record k.clocks.count k.locations) _ _ _ file (edge_one k.clocks.count k.locations file) k.edges (1 + k.locations) p edges.0.1

    pub edges_stand : AllStand k.clocks.count file k.edges p
    edges_stand = by_position.stand

    pub bytes_follow : q < length file → admitted file ≡ bad 4 (1 + k.locations + k.edges)
    unfolding end
    bytes_follow h = no_end file k b p locations.0.1 edges.0.1 (go (drop q file) (length-drop q file))
      where
        go : (f : List ℕ) → length f ≡ length file - q → end 4 (1 + k.locations + k.edges) f ≡ bad 4 (1 + k.locations + k.edges)
        go [] e = absurd (omega arith)
        go (x ∷ f) e = refl

    module _ (ended : length file ≤ q) where
      ends : end 4 (1 + k.locations + k.edges) (drop q file) ≡ good tt []
      unfolding end
      ends = rw (drop_of_length-le file ended)

      abbrev bounds_whole : Read (Unit {0})
      bounds_whole = edges_bounded (bounds_of k.clocks) (1 + k.locations) (edges_at k.clocks.count file k.edges p) []

      edges_are : {r : Read (Unit {0})} → bounds_whole ≡ r → edges_bounded (bounds_of k.clocks) (1 + k.locations) edges.0.0 [] ≡ r
      edges_are h = rw by_position.says h

      pub bounds_refused : {number place : ℕ} → bounds_whole ≡ bad number place → admitted file ≡ bad number place
      bounds_refused h = bounds_break file k b p locations.0.1 edges.0.1 ends (edges_are h)

      pub describes : bounds_whole ≡ good tt [] → Describes file k
      describes h =
          let (a, t) = read_admission file (bounds_keep file k b p locations.0.1 edges.0.1 ends (edges_are h)) in
          record {
            passes = (_, a);
            few = b.few;
            bounds = sym (ap (λ (T : Table). T.bounds) t);
            count = b.sized ∙ ap (λ (T : Table). length T.bounds) (sym t);
            locations = sym (ap (λ (T : Table). T.locations) t);
            initial = sym (ap (λ (T : Table). T.initial) t);
            edges = sym (ap length by_position.says ∙ length_values _ _ k.edges p) ∙ ap (λ (T : Table). length T.edges) (sym t);
          }
