-- Every answer is small, so that the packed number tells it. Assumes nothing.
use Prim.Native.Nat.{ℕ, ◌≤◌}
use native.Mathlib.Omega.{arith}
use mathlib.Core.Path.{◌≡◌, refl}
use mathlib.Core.List.{List, []}
use lib.ListN.{length}
use Rattle.automata.specs.Automaton.{Table}
use Rattle.table_files.specs.Answer.{Answer, accepted, refused, refusals, packed}
use Rattle.table_files.specs.Reading.{Read, good, bad, carry, answered}
use Rattle.table_files.specs.Admission.{admitted, record_count, admission}
use Rattle.calls.specs.RunFile.{RunList, run_checked, run_answer}
use Rattle.calls.specs.RegionFile.{list_checked, list_answer}
use Rattle.calls.specs.Making.{rows_made, making, make_answer}
use Rattle.table_files.specs.Meaning.{Limits}
use Rattle.calls.specs.Meaning.{Small}
use Rattle.table_files.proofs.Laws.Admission.{read_limits}
use Rattle.calls.proofs.Laws.Refusals.{Slight, slight, answered_bad, tame_admitted, tame_run, tame_list, tame_made}
use Rattle.calls.proofs.Laws.Runs.{run_few}
use Rattle.calls.proofs.Laws.RegionLists.{list_few}
use Rattle.calls.proofs.Laws.Making.{make_few}

pub admission_small : (table : List ℕ) → Small (admission table)
unfolding admission
admission_small table = go (admitted table) refl
  where
    go : (r : Read Table) → admitted table ≡ r → Small (answered record_count r)
    go (good T rest) e = let M : Limits T = read_limits table T rest e in omega (arith, M.few_locations, M.few_edges)
    go (bad number place) e = (tame_admitted {top = refusals} (omega arith)).slight' table number place e

-- what is answered from a paper and a table
module _ {A : Type 0} (count : A → ℕ) (table : List ℕ) (R : Table → Read A) where
  abbrev over : Read A
  over = carry (admitted table) (λ T _. R T)

  small : ((T : Table) (number place : ℕ) → R T ≡ bad number place → Slight refusals 4097 number place) → ((k : ℕ) → answered count over ≡ accepted k → k ≤ 4096) → Small (answered count over)
  unfolding carry
  small tame few = go (answered count over) refl
    where
      refuses : (r : Read Table) → admitted table ≡ r → {number place : ℕ} → carry r (λ T _. R T) ≡ bad number place → Slight refusals 4097 number place
      refuses (good T rest) e h = tame T _ _ h
      refuses (bad n p) e h = slight ((tame_admitted {top = refusals} (omega arith)).slight' table n p e) h

      go : (a : Answer) → answered count over ≡ a → Small a
      go (accepted k) e = few k e
      go (refused number place) e = refuses (admitted table) refl (answered_bad count over e)

pub run_small : (table file : List ℕ) → Small (run_answer table file)
unfolding run_answer
run_small table file = small (λ (r : RunList). length r.moves) table (λ T. run_checked T file) (λ T. (tame_run {top = refusals} T (omega arith)).slight' file) (λ k e. omega (arith, run_few table file k e))

pub list_small : (table file : List ℕ) → Small (list_answer table file)
unfolding list_answer
list_small table file = small length table (λ T. list_checked T file) (λ T. (tame_list {top = refusals} T (omega arith)).slight' file) (list_few table file)

pub make_small : (table : List ℕ) (room records : ℕ) → Small (make_answer table room records)
unfolding make_answer making
make_small table room records = small length table (λ T. rows_made T room records []) (λ T. (tame_made {top = refusals} T (omega arith) room records).slight' []) (make_few table room records)

-- the packed number tells the answer
pub packed_law : (a b : Answer) → Small a → Small b → packed a ≡ packed b → a ≡ b
packed_law (accepted k) (accepted l) p q e = rw e
packed_law (accepted k) (refused n i) p q e = absurd (omega arith)
packed_law (refused n i) (accepted l) p q e = absurd (omega arith)
packed_law (refused n i) (refused m j) p q e = let x : n ≡ m = omega arith in let y : i ≡ j = omega arith in rw (x, y)
