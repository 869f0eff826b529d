-- The ways in which an edge record is read or refused. Assumes nothing.
use Prim.Native.Nat.{ℕ, ◌+◌, ◌*◌, ◌≤◌, ◌<◌}
use native.Mathlib.Omega.{arith}
use mathlib.Core.Path.{◌≡◌, refl, sym, ◌∙◌}
use mathlib.Core.Bool.{true, false, ◌&&◌}
use mathlib.Core.List.{List}
use lib.ListN.{length, drop}
use lib.Dec.{leb, ltb}
use borrow.Author.Tests.{leb-true}
use Rattle.automata.specs.Clocks.{at}
use Rattle.automata.specs.Edge.{Edge}
use Rattle.automata.specs.Checks.{every}
use Rattle.table_files.specs.Bytes.{ED}
use Rattle.table_files.specs.Reading.{Read, good, bad, Reader, carry, ◌>>=◌, ◌>>◌, done, next_bytes, require}
use Rattle.table_files.specs.Records.{part_at, record_at}
use Rattle.table_files.specs.TableFile.{guard_in_range, fields_in_range, edge_record}
use Rattle.table_records.specs.Edge.{ends_in_range, size_of, guards_from, fields_from, edge_from, edge_at, after_edge, Stands}
use Rattle.table_files.proofs.Laws.Reading.{parts, tested, took, took_record, goes, passes, fails, both}
use Rattle.table_records.proofs.Laws.Parts.{Found, Taken, record_found, record_lacks, bytes_found, bytes_lack, TookPart, took_part}
use Rattle.table_records.proofs.Laws.Skips.{One}

-- the record -----------------------------------------------------------------------------------------------------------------

module _ (file : List ℕ) (n L place p : ℕ) {b : List ℕ} (is : b ≡ record_at file p 5 ED) where
  abbrev whole : Read Edge
  whole = edge_record n L place (drop p file)

  abbrev rest_of : Unit {0} → Reader Edge
  rest_of _ = do
    d ← next_bytes 1 place (size_of (at b 4) n)
    require 3 place (every (guard_in_range n) (guards_from d (at b 4)))
    require 3 place (every (fields_in_range n) (fields_from d (3 * at b 4) n))
    done (edge_from n b d)

  pub edge_short : length b < 5 → whole ≡ bad 1 place
  unfolding edge_record carry
  edge_short h = rw (record_lacks file p 5 1 place ED b is h)

  module _ (there : 5 ≤ length b) where
    pub found : Found file p 5 1 place ED b
    found = record_found file p 5 1 place ED b is (omega arith) there

    -- the tests of the fields before the guards are one
    ends_tested : whole ≡ carry (require 3 place (ends_in_range L b) (drop (p + 5) file)) rest_of
    unfolding edge_record ends_in_range
    ends_tested =
        goes _ _ _ _ found.reads
        ∙ both 3 place (ltb (at b 2) L) (ltb (at b 3) L) (drop (p + 5) file) _
        ∙ both 3 place (ltb (at b 2) L && ltb (at b 3) L) (leb (at b 4) 8) (drop (p + 5) file) rest_of

    pub ends_fail : ends_in_range L b ≡ false → whole ≡ bad 3 place
    ends_fail h = ends_tested ∙ fails 3 place (ends_in_range L b) (drop (p + 5) file) rest_of h

    module _ (ends : ends_in_range L b ≡ true) {size : ℕ} (sized : size ≡ size_of (at b 4) n) {d : List ℕ} (part : d ≡ part_at file (p + 5) size) where
      rest_due : whole ≡ rest_of tt (drop (p + 5) file)
      rest_due = ends_tested ∙ goes _ _ tt _ (passes 3 place (ends_in_range L b) (drop (p + 5) file) ends)

      pub rest_short : length d < size → whole ≡ bad 1 place
      unfolding carry
      rest_short h = rest_due ∙ rw (bytes_lack file (p + 5) (size_of (at b 4) n) 1 place d (rw sized at part) (rw sized at h))

      module _ (rest_there : size ≤ length d) where
        pub taken : Taken file (p + 5) (size_of (at b 4) n) 1 place d
        taken = bytes_found file (p + 5) (size_of (at b 4) n) 1 place d (rw sized at part) (λ z. found.fits) (rw sized at rest_there)

        pub rest_fits : p + 5 + size ≤ length file
        rest_fits = rw sized taken.fits

        pub guards_fail : every (guard_in_range n) (guards_from d (at b 4)) ≡ false → whole ≡ bad 3 place
        guards_fail h = rest_due ∙ goes _ _ _ _ taken.reads ∙ fails 3 place (every (guard_in_range n) (guards_from d (at b 4))) _ _ h

        module _ (guards : every (guard_in_range n) (guards_from d (at b 4)) ≡ true) where
          updates_due : whole ≡ carry (require 3 place (every (fields_in_range n) (fields_from d (3 * at b 4) n)) (drop (p + 5 + size_of (at b 4) n) file)) (λ _. done (edge_from n b d))
          updates_due = rest_due ∙ goes _ _ _ _ taken.reads ∙ goes _ _ tt _ (passes 3 place (every (guard_in_range n) (guards_from d (at b 4))) _ guards)

          pub updates_fail : every (fields_in_range n) (fields_from d (3 * at b 4) n) ≡ false → whole ≡ bad 3 place
          updates_fail h = updates_due ∙ fails 3 place _ _ _ h

          pub edge_read : every (fields_in_range n) (fields_from d (3 * at b 4) n) ≡ true → whole ≡ good (edge_from n b d) (drop (p + 5 + size) file)
          edge_read h = updates_due ∙ goes _ _ tt _ (passes 3 place _ _ h) ∙ (λ i. good (edge_from n b d) (drop (p + 5 + sym sized i) file))

-- by position ----------------------------------------------------------------------------------------------------------------

pub edge_one : (n L : ℕ) (file : List ℕ) (place p : ℕ) (e : Edge) (rest : List ℕ) → edge_record n L place (drop p file) ≡ good e rest
    → One (edge_at n file) (after_edge n file) (Stands n file) file p e rest
unfolding edge_record edge_at after_edge
edge_one n L file place p e rest h0 =
    parts _ _ h0 λ b f1 e1 h1.
    tested _ _ _ _ _ h1 λ t2 h2.
    tested _ _ _ _ _ h2 λ t3 h3.
    tested _ _ _ _ _ h3 λ t4 h4.
    parts _ _ h4 λ d f5 e5 h5.
    tested _ _ _ _ _ h5 λ t6 h6.
    tested _ _ _ _ _ h6 λ t7 h7.
    let first : TookPart file p 5 b f1 = took_part (λ z. absurd (omega arith)) refl (took_record 1 place ED 5 (drop p file) e1).0 in
    let others : TookPart file (p + 5) (size_of (at b 4) n) d f5 = took_part (λ z. first.fits) first.leaves (took 1 place (size_of (at b 4) n) f1 e5) in
    let v : edge_from n b d ≡ e = cc in
    let l : f5 ≡ rest = cc in
    record {
      says = rw (← first.bytes, ← others.bytes) (sym v);
      leaves = rw (← first.bytes) (sym l ∙ others.leaves);
      stands = record { whole = rw (← first.bytes) others.fits; few_guards = rw (← first.bytes) (leb-true (at b 4) 8 t4) };
    }
