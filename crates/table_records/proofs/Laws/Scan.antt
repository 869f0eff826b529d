-- How scans go on: one reading after another, and records in a row. Assumes nothing.
use Prim.Native.Nat.{ℕ, suc, ◌+◌, ◌-◌, ◌≤◌, ◌<◌}
use native.Mathlib.Omega.{arith}
use mathlib.Core.Path.{◌≡◌, refl}
use mathlib.Core.List.{List}
use lib.ListN.{length, drop}
use Rattle.std.specs.Prelude.{Result, Ok, Err}
use Rattle.table_files.specs.Reading.{Read, bad, Reader, carry, done, records}
use Rattle.table_records.specs.Refusal.{number_of}
use Rattle.table_records.specs.Scan.{Scanned}
use Rattle.table_records.specs.declared.refusal.Fault.{Fault}
use Rattle.table_records.specs.declared.refusal.Refusal.{Refusal}

-- what a scan is
abbrev pub Scan : Type 0
Scan = Result ℕ Refusal

-- a refusal
pub refusal : {A : Type 0} {r : Read A} {f : Fault} {place : ℕ} {e : Refusal} → e ≡ record { fault = f; place = place } → r ≡ bad (number_of f) place → r ≡ bad (number_of e.fault) e.place
refusal k h = rw k h

module _ {A B : Type 0} (file : List ℕ) (r : Read A) (next : A → Reader B) where
  -- the first refusal stands
  pub stops : {number place : ℕ} → r ≡ bad number place → carry r next ≡ bad number place
  unfolding carry
  stops h = rw h

  -- else the next reading decides
  pub goes_on : (p : ℕ) → Scanned file r (Ok p) → (t : Scan) → ((a : A) → Scanned file (next a (drop p file)) t) → Scanned file (carry r next) t
  unfolding carry
  goes_on p ((a, g), _) t k = rw g (k a)

-- what is made of what was read changes nothing
pub made : {A B : Type 0} (file : List ℕ) (r : Read A) (f : A → B) (s : Scan) → Scanned file r s → Scanned file (carry r (λ a. done (f a))) s
unfolding carry
made file r f (Ok p) ((a, g), l) = rw g ((f a, refl), l)
made file r f (Err e) h = rw h refl

-- records in a row ----------------------------------------------------------------------------------------------------------

-- a loop over records has come to this place and position: whatever the records that are left come to, the whole reading does
pub record Left {A B : Type 0} (read : ℕ → Reader A) (file : List ℕ) (whole : Read B) (stop p place : ℕ) : Type 0 where
  pub in_file : p ≤ length file
  pub onward : (s : Scan) → Scanned file (records read place (stop - place) (drop p file)) s → Scanned file whole s

module _ {A : Type 0} (read : ℕ → Reader A) (file : List ℕ) (stop p place : ℕ) where
  -- before the first
  pub all_left : (n : ℕ) → stop ≡ place + n → p ≤ length file → Left read file (records read place n (drop p file)) stop p place
  all_left n e l = let d : stop - place ≡ n = omega arith in record { in_file = l; onward = λ s h. rw d at h }

  module _ {B : Type 0} {whole : Read B} (left : Left read file whole stop p place) where
    -- after the last
    pub none_left : stop ≤ place → Scanned file whole (Ok p)
    unfolding records
    none_left e =
        let z : stop - place ≡ 0 = omega arith in
        left.onward (Ok p) (rw z ((_, refl), left.in_file))

    module _ (more : place < stop) where
      some_left : stop - place ≡ suc (stop - (place + 1))
      some_left = omega arith

      -- one is refused
      pub one_refused : (e : Refusal) → Scanned file (read place (drop p file)) (Err e) → Scanned file whole (Err e)
      unfolding records
      one_refused e one = left.onward (Err e) (rw some_left (stops file (read place (drop p file)) _ one))

      -- one is read
      pub one_read : (q : ℕ) → Scanned file (read place (drop p file)) (Ok q) → Left read file whole stop q (place + 1)
      unfolding records
      one_read q one = record {
        in_file = one.1;
        onward = λ t k. left.onward t (rw some_left (goes_on file (read place (drop p file)) _ q one t (λ a. made file _ _ t k)));
      }
