-- The ways in which a location record is read or refused. Assumes nothing.
use Prim.Native.Nat.{ℕ, ◌+◌, ◌%◌, ◌≤◌, ◌<◌}
use native.Mathlib.Omega.{arith}
use mathlib.Core.Path.{◌≡◌, refl, sym, ◌∙◌}
use mathlib.Core.Bool.{Bool}
use mathlib.Core.List.{List}
use lib.ListN.{length, drop}
use lib.Dec.{eqb}
use borrow.Author.Tests.{le-leb, lt-leb}
use Rattle.automata.specs.Clocks.{at}
use Rattle.table_files.specs.Bytes.{LO}
use Rattle.table_files.specs.Reading.{good, bad, carry, require}
use Rattle.table_files.specs.Records.{part_at, record_at}
use Rattle.table_files.specs.TableFile.{location}
use Rattle.table_files.proofs.Laws.Reading.{parts, tested, took_record}
use Rattle.table_records.proofs.Laws.Skips.{One}
use Rattle.table_records.proofs.Laws.Parts.{record_found, record_lacks, TookPart, took_part}

-- what is kept of the record at p
unfoldable pub final_at : List ℕ → ℕ → Bool
final_at file p = eqb (at (part_at file p 3) 2 % 2) 1

module _ (file : List ℕ) (p place : ℕ) {b : List ℕ} (is : b ≡ record_at file p 3 LO) where
  pub location_short : length b < 3 → location place (drop p file) ≡ bad 1 place
  unfolding location carry
  location_short h = rw (record_lacks file p 3 1 place LO b is h)

  pub location_fails : 3 ≤ length b → 3 < at b 2 → location place (drop p file) ≡ bad 3 place
  unfolding location carry require
  location_fails there h = rw ((record_found file p 3 1 place LO b is (omega arith) there).reads, lt-leb (at b 2) 3 h)

  pub location_read : 3 ≤ length b → at b 2 ≤ 3 → location place (drop p file) ≡ good (eqb (at b 2 % 2) 1) (drop (p + 3) file)
  unfolding location carry require
  location_read there h = rw ((record_found file p 3 1 place LO b is (omega arith) there).reads, le-leb (at b 2) 3 h)

-- by position
pub location_one : (file : List ℕ) (place p : ℕ) (f : Bool) (rest : List ℕ) → location place (drop p file) ≡ good f rest
    → One (final_at file) (λ (q : ℕ). q + 3) (λ (q : ℕ). q + 3 ≤ length file) file p f rest
unfolding location final_at
location_one file place p f rest h =
    parts _ _ h λ b f1 e1 h1.
    tested _ _ _ _ _ h1 λ t2 h2.
    let first : TookPart file p 3 b f1 = took_part (λ z. absurd (omega arith)) refl (took_record 1 place LO 3 (drop p file) e1).0 in
    let v : eqb (at b 2 % 2) 1 ≡ f = cc in
    let l : f1 ≡ rest = cc in
    record { says = rw (← first.bytes) (sym v); leaves = sym l ∙ first.leaves; stands = first.fits }
