-- Where the records of an admitted table stand, and what they say. Assumes nothing.
use Prim.Native.Nat.{ℕ, ◌+◌, ◌*◌, ◌%◌, ◌≤◌, ◌<◌}
use mathlib.Core.Path.{◌≡◌, sym, ap, ◌∙◌}
use mathlib.Core.Bool.{Bool, false}
use mathlib.Core.List.{List}
use lib.ListN.{length, drop, get_or}
use lib.Dec.{eqb}
use Rattle.automata.specs.Clocks.{at}
use Rattle.automata.specs.Edge.{Edge}
use Rattle.automata.specs.Automaton.{Table, edge, blank, final}
use Rattle.table_files.specs.Reading.{good}
use Rattle.table_files.specs.Records.{part_at}
use Rattle.table_files.specs.TableFile.{location, edge_record, table_file}
use Rattle.table_files.specs.Admission.{admitted, table_of}
use Rattle.tables.specs.Values.{Describes}
use Rattle.table_records.specs.Edge.{edge_at, after_edge, Stands}
use Rattle.tables.specs.Bounds.{edge_start}
use Rattle.table_records.specs.declared.head.Head.{Head}
use Rattle.table_files.proofs.Laws.Reading.{parts}
use Rattle.table_records.proofs.Laws.Parts.{part_there}
use Rattle.table_files.proofs.Laws.Admission.{admission_read}
use Rattle.table_records.proofs.Laws.Skips.{All, all_read, length_values, value_th, stands_th, skip_threes}
use Rattle.table_records.proofs.Laws.Header.{header_left}
use Rattle.table_records.proofs.Laws.Locations.{final_at, location_one}
use Rattle.table_records.proofs.Laws.Edges.{edge_one}

-- what was read of the locations and of the edges
record Reads (file : List ℕ) (T : Table) (n L E : ℕ) : Type 0 where
  between : List ℕ
  after : List ℕ
  finals : All (final_at file) (λ (q : ℕ). q + 3) (λ (q : ℕ). q + 3 ≤ length file) file L (7 + n) T.finals between
  edges : All (edge_at n file) (after_edge n file) (Stands n file) file E (7 + n + 3 * L) T.edges after

reads_table : (file : List ℕ) (T : Table) (rest : List ℕ) → table_file file ≡ good T rest → Reads file T (length T.bounds) T.locations (length T.edges)
unfolding table_file
reads_table file T rest h =
    parts _ _ h λ hd f1 e1 h1.
    parts _ _ h1 λ finals f2 e2 h2.
    parts _ _ h2 λ es f3 e3 h3.
    parts _ _ h3 λ u f4 e4 h4.
    let n : ℕ = length hd.bounds in
    let L : ℕ = hd.locations in
    let F : All (final_at file) (λ (q : ℕ). q + 3) (λ (q : ℕ). q + 3 ≤ length file) file L (7 + n) finals f2 =
    all_read location _ _ _ file (location_one file) L 1 (7 + n) (rw (header_left file hd f1 e1) at e2) in
    let l : f2 ≡ drop (7 + n + 3 * L) file = F.leaves ∙ (λ i. drop (skip_threes L (7 + n) i) file) in
    let G : All (edge_at n file) (after_edge n file) (Stands n file) file hd.edges (7 + n + 3 * L) es f3 =
    all_read (edge_record n L) _ _ _ file (edge_one n L file) hd.edges (1 + L) (7 + n + 3 * L) (rw l at e3) in
    let m : length es ≡ hd.edges = ap length G.says ∙ length_values _ _ hd.edges (7 + n + 3 * L) in
    let t : record { bounds = hd.bounds; locations = L; initial = hd.initial; finals = finals; edges = es } ≡ T = cc in
    rw (← t) (record { between = f2; after = f3; finals = F; edges = rw m G })

module _ (file : List ℕ) (k : Head) (d : Describes file k) where
  reads_back : Reads file (table_of file) k.clocks.count k.locations k.edges
  unfolding admitted
  reads_back =
      let (records, a) = d.passes in
      let (rest, e, _) = admission_read file records a in
      parts _ _ e λ T f1 e1 h1.
      parts _ _ h1 λ u f2 e2 h2.
      let t : T ≡ table_of file = cc in
      rw (d.count, d.locations, d.edges) (rw t at (reads_table file T f1 e1))

  -- location l's record
  module _ (l : ℕ) (h : l < k.locations) where
    fits : 7 + k.clocks.count + 3 * l + 3 ≤ length file
    fits = rw skip_threes at (stands_th _ _ k.locations (7 + k.clocks.count) l h reads_back.finals.stand)

    module _ {b : List ℕ} (is : b ≡ part_at file (7 + k.clocks.count + 3 * l) 3) where
      pub location_sized : length b ≡ 3
      location_sized = ap length is ∙ (part_there file (7 + k.clocks.count + 3 * l) 3 fits).1

      pub location_says : eqb (at b 2 % 2) 1 ≡ final (table_of file) l
      unfolding final_at
      location_says =
          sym (ap (λ (fs : List Bool). get_or fs l false) reads_back.finals.says
          ∙ value_th _ _ k.locations (7 + k.clocks.count) l false h
          ∙ ap (final_at file) (skip_threes l (7 + k.clocks.count))
          ∙ rw is)

  -- edge i's record, at p
  module _ (i : ℕ) (h : i < k.edges) {p : ℕ} (here : p ≡ edge_start k.clocks.count k.locations file i) where
    pub edge_stands : Stands k.clocks.count file p
    edge_stands = rw here (stands_th _ _ k.edges (7 + k.clocks.count + 3 * k.locations) i h reads_back.edges.stand)

    pub edge_says : edge_at k.clocks.count file p ≡ edge (table_of file) i
    edge_says =
        ap (edge_at k.clocks.count file) here
        ∙ sym (ap (λ (es : List Edge). get_or es i blank) reads_back.edges.says ∙ value_th _ _ k.edges (7 + k.clocks.count + 3 * k.locations) i blank h)
