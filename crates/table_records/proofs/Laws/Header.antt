-- The ways in which a header is read or refused. Assumes nothing.
use Prim.Native.Nat.{ℕ, ◌+◌, ◌≤◌, ◌<◌}
use native.Mathlib.Decide.{ℕ_discrete}
use native.Mathlib.Numerals.{add-one}
use native.Mathlib.Omega.{arith}
use mathlib.Core.Path.{◌≡◌, refl, sym, ap, ◌∙◌}
use mathlib.Core.Bool.{true, false, ◌&&◌}
use mathlib.Core.List.{List}
use lib.ListN.{length, take, drop, set, replicate, length-set}
use lib.Seq.{take-suc, take-suc-set, take-length, get_or-set_same, get_or-set_other}
use lib.Dec.{leb, ltb}
use Rattle.automata.specs.Clocks.{at}
use Rattle.automata.proofs.Laws.Tests.{and_law}
use Rattle.automata.proofs.Laws.Lists.{zeros}
use Rattle.automata.specs.Checks.{every}
use Rattle.table_files.specs.Bytes.{TA, two}
use Rattle.table_files.specs.Reading.{good, bad, Reader, carry, ◌>>=◌, ◌>>◌, done, next_bytes, between, require}
use Rattle.table_files.specs.Records.{part_at, record_at}
use Rattle.table_files.specs.TableFile.{Header, header}
use Rattle.table_records.specs.Header.{counts_in_range, low, Copied, header_from, HeadOf, Headed}
use Rattle.table_records.specs.declared.head.Head.{Head}
use Rattle.std.specs.Prelude.{Ok}
use Rattle.table_files.proofs.Laws.Reading.{Took, itself, parts, tested, took, took_record, between_law, goes, passes, fails, both}
use Rattle.table_records.proofs.Laws.Parts.{Found, Taken, record_found, record_lacks, bytes_found, bytes_lack, TookPart, took_part}

-- the bounds as an array -----------------------------------------------------------------------------------------------------

-- the first k bytes are copied
pub record Copying (bytes : List ℕ) (k : ℕ) (xs : List ℕ) : Type 0 where
  pub sized : length xs ≡ 4
  pub first : take k xs ≡ take k bytes
  pub small : (z : ℕ) → at xs z ≤ 255

pub copied_none : {bytes : List ℕ} → Copying bytes 0 (replicate 4 0)
copied_none = record { sized = refl; first = refl; small = λ z. omega (arith, zeros 4 z) }

module _ {bytes : List ℕ} {k : ℕ} {xs : List ℕ} (p : Copying bytes k xs) where
  pub copied_one : k < length bytes → length bytes ≤ 4 → at bytes k < 256 → Copying bytes (k + 1) (set xs k (at bytes k))
  copied_one l few v = record {
    sized = length-set xs k (at bytes k) ∙ p.sized;
    first = rw (add-one k, take-suc-set xs k (at bytes k) h, take-suc bytes k 0 l, p.first);
    small = λ z. go z (ℕ_discrete z k);
  }
    where
      h : k < length xs
      h = omega (arith, p.sized)

      go : (z : ℕ) → Dec (z ≡ k) → at (set xs k (at bytes k)) z ≤ 255
      go z (yes e) = rw (e, get_or-set_same xs k (at bytes k) 0 h) (omega arith)
      go z (no n) = rw (get_or-set_other xs k z (at bytes k) 0 n) (p.small z)

  pub copied_all : k ≡ length bytes → Copied bytes xs
  copied_all e = record { begins = rw e at p.first ∙ take-length bytes; small = p.small }

-- the header -----------------------------------------------------------------------------------------------------------------

pub head_of : (b c bs : List ℕ) (E : ℕ) (few : at b 2 ≤ 4) (low : (z : ℕ) → at bs z ≤ 16383) → at b 2 ≡ length c → Copied c bs → E ≡ two b 5
    → HeadOf (header_from b c) (record { clocks = record { count = at b 2; bounds = bs; few = few; low = low }; locations = at b 3; initial = at b 4; edges = E })
head_of b c bs E few low e p q = record {
  few = record { few = few; low = low };
  bounds = rw e p.begins;
  count = e;
  locations = refl;
  initial = refl;
  edges = q;
}

-- the header and its bounds, as they are due
module _ (file : List ℕ) {b : List ℕ} (is : b ≡ record_at file 0 7 TA) where
  abbrev rest_of : Unit {0} → Reader Header
  rest_of _ = do
    c ← next_bytes 1 0 (at b 2)
    require 2 0 (every low c)
    done (header_from b c)

  pub header_short : length b < 7 → header file ≡ bad 1 0
  unfolding header carry
  header_short h = rw (record_lacks file 0 7 1 0 TA b is h)

  module _ (there : 7 ≤ length b) where
    found : Found file 0 7 1 0 TA b
    found = record_found file 0 7 1 0 TA b is (omega arith) there

    -- the four tests of the counts are one
    counts_tested : header file ≡ carry (require 2 0 (counts_in_range b) (drop 7 file)) rest_of
    unfolding header counts_in_range
    counts_tested =
        let clocks = between 1 4 (at b 2) in
        let locations = between 1 64 (at b 3) in
        let initial = ltb (at b 4) (at b 3) in
        goes _ _ _ _ found.reads
        ∙ both 2 0 clocks locations (drop 7 file) _
        ∙ both 2 0 (clocks && locations) initial (drop 7 file) _
        ∙ both 2 0 (clocks && locations && initial) (leb (two b 5) 256) (drop 7 file) rest_of

    pub counts_fail : counts_in_range b ≡ false → header file ≡ bad 2 0
    counts_fail h = counts_tested ∙ fails 2 0 (counts_in_range b) (drop 7 file) rest_of h

    module _ (counts : counts_in_range b ≡ true) {c : List ℕ} (part : c ≡ part_at file 7 (at b 2)) where
      bounds_due : header file ≡ rest_of tt (drop 7 file)
      bounds_due = counts_tested ∙ goes _ _ tt _ (passes 2 0 (counts_in_range b) (drop 7 file) counts)

      clocks_in : (1 ≤ at b 2) × (at b 2 ≤ 4)
      unfolding counts_in_range
      clocks_in = ((and_law _ _ (and_law _ _ (and_law _ _ (between_law 1 4 (at b 2)) (itself _)) (itself _)) (itself _)).0 counts).0.0.0

      pub bounds_short : length c < at b 2 → header file ≡ bad 1 0
      unfolding carry
      bounds_short h = bounds_due ∙ rw (bytes_lack file 7 (at b 2) 1 0 c part h)

      module _ (bounds_there : at b 2 ≤ length c) where
        taken : Taken file 7 (at b 2) 1 0 c
        taken = bytes_found file 7 (at b 2) 1 0 c part (λ z. found.fits) bounds_there

        pub header_due : (at b 2 ≡ length c) × (length c ≤ 4)
        header_due = let t = taken.sized in let l = clocks_in in (sym t, omega arith)

        pub bounds_fail : every low c ≡ false → header file ≡ bad 2 0
        bounds_fail h = bounds_due ∙ goes _ _ _ _ taken.reads ∙ fails 2 0 (every low c) _ _ h

        bounds_pass : every low c ≡ true → header file ≡ good (header_from b c) (drop (7 + at b 2) file)
        bounds_pass h = bounds_due ∙ goes _ _ _ _ taken.reads ∙ goes _ _ tt _ (passes 2 0 (every low c) _ h)

        pub header_read : every low c ≡ true → {k : Head} → HeadOf (header_from b c) k → Headed file (header file) (Ok k)
        header_read h {k} p =
            let n : at b 2 ≡ k.clocks.count = sym taken.sized ∙ sym p.count in
            ((header_from b c, p, bounds_pass h ∙ (λ i. good (header_from b c) (drop (7 + n i) file))), omega (arith, taken.fits))

-- by position
pub header_left : (file : List ℕ) (h : Header) (rest : List ℕ) → header file ≡ good h rest → rest ≡ drop (7 + length h.bounds) file
unfolding header
header_left file h rest e =
    parts _ _ e λ b f1 e1 h1.
    tested _ _ _ _ _ h1 λ t2 h2.
    tested _ _ _ _ _ h2 λ t3 h3.
    tested _ _ _ _ _ h3 λ t4 h4.
    tested _ _ _ _ _ h4 λ t5 h5.
    parts _ _ h5 λ c f6 e6 h6.
    tested _ _ _ _ _ h6 λ t7 h7.
    let first : TookPart file 0 7 b f1 = took_part (λ z. absurd (omega arith)) refl (took_record 1 0 TA 7 file e1).0 in
    let others : Took (at b 2) f1 c f6 = took 1 0 (at b 2) f1 e6 in
    let bounds : TookPart file 7 (at b 2) c f6 = took_part (λ z. first.fits) first.leaves others in
    let l : f6 ≡ rest = cc in
    let cs : c ≡ h.bounds = cc in
    let n : at b 2 ≡ length h.bounds = sym others.sized ∙ ap length cs in
    sym l ∙ bounds.leaves ∙ (λ i. drop (7 + n i) file)
