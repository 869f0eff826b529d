-- What the numbers promise that a host program gets from the admission, the run check and the making of a list. Assumes nothing.
use Prim.Native.Nat.{ℕ, ◌<◌}
use native.Mathlib.Omega.{arith}
use mathlib.Core.Path.{◌≡◌, sym, ap, ◌∙◌}
use mathlib.Core.Logic.{◌↔◌}
use mathlib.Core.List.{List}
use lib.ListN.{length}
use Rattle.automata.specs.Row.{Row}
use Rattle.automata.specs.Automaton.{Admitted}
use Rattle.automata.specs.Run.{Reached}
use Rattle.automata.specs.Closed.{Closed, ExactlyOne}
use Rattle.table_files.specs.Answer.{Answer, accepted, refused, packed}
use Rattle.table_files.specs.Admission.{admission, table_of}
use Rattle.table_files.specs.Meaning.{Passes}
use Rattle.table_files.proofs.Laws.Admission.{admission_admitted}
use Rattle.calls.specs.RunFile.{run_answer}
use Rattle.calls.specs.RegionFile.{list_answer}
use Rattle.calls.specs.Making.{make_answer, make_buffer, list_in}
use Rattle.calls.specs.Meaning.{Small, RunListOf, RegionListOf}
use Rattle.calls.proofs.Laws.SmallAnswers.{admission_small, run_small, make_small}
use Rattle.calls.proofs.Laws.Making.{promises_list, promises_empty, promises_reached}
use Rattle.calls.proofs.Laws.Claims.{exactly_one}
use Rattle.region_lists.proofs.Laws.RegionCall.{count_only}

-- the admission: an admitted table has exactly one of the two
pub admission_promises : (table : List ℕ) (r : ℕ) → r ≡ packed (admission table)
    → (r ≡ packed (admission table))
    × (r < 65536 → Admitted (table_of table) × ExactlyOne (Reached (table_of table)) ((rows : List Row) × Closed (table_of table) rows))
admission_promises table r e = (
  e,
  λ l.
      let a : admission table ≡ accepted r = count_only (admission table) r (admission_small table) l (sym e) in
      (admission_admitted table r a, exactly_one table r a),
)

-- the run check: a number below 65,536 is the count of steps of a run into a final location
module _ (table list : List ℕ) (a : Answer) (r : ℕ) (e : r ≡ packed a) (is : a ≡ run_answer table list)
    (run : (k : ℕ) → (a ≡ accepted k) ↔ (Passes table × RunListOf (table_of table) list k)) (reached : (k : ℕ) → a ≡ accepted k → Reached (table_of table)) where
  counted : (k : ℕ) → k < 65536 → r ≡ k → a ≡ accepted k
  counted k l q = is ∙ count_only (run_answer table list) k (run_small table list) l (sym (ap packed is) ∙ sym e ∙ q)

  pub run_promises : (r ≡ packed (run_answer table list))
      × (((k : ℕ) → k < 65536 → (r ≡ k) ↔ (Passes table × RunListOf (table_of table) list k))
      × (r < 65536 → Reached (table_of table)))
  run_promises = (
    e ∙ ap packed is,
    (λ k l. (λ q. (run k).0 (counted k l q), λ t. e ∙ ap packed ((run k).1 t)), λ l. reached r (counted r l (λ i. r))),
  )

-- the number of refusal 21 is that of no other answer
reached_only : (a : Answer) → Small a → packed a ≡ packed (refused 21 0) → (place : ℕ) × (a ≡ refused 21 place)
reached_only (accepted count) s e = absurd (omega (arith, s))
reached_only (refused number place) (_, _, low) e =
    let n : number ≡ 21 = omega arith in
    (place, ap (λ (m : ℕ). refused m place) n)

-- the making of a list: a number below 65,536 is the count of rows of a closed list that the check accepts, and the number of 21 is given where some run
-- ends in a final location
module _ (table : List ℕ) (records : ℕ) (buffer after : List ℕ) (r : ℕ) (e : r ≡ packed (make_answer table (length buffer) records))
    (w : after ≡ make_buffer table records buffer) where
  made : r < 65536 → make_answer table (length buffer) records ≡ accepted r
  made l = count_only (make_answer table (length buffer) records) r (make_small table (length buffer) records) l (sym e)

  pub made_list : r < 65536
      → Passes table
      × RegionListOf (table_of table) (list_in (table_of table) r after) r
      × (list_answer table (list_in (table_of table) r after) ≡ accepted r)
  made_list l = promises_list table records buffer after (make_answer table (length buffer) records) (λ i. make_answer table (length buffer) records) w r (made l)

  pub made_empty : r < 65536 → Reached (table_of table) → ⊥
  made_empty l = promises_empty table records buffer after (make_answer table (length buffer) records) (λ i. make_answer table (length buffer) records) w r (made l)

  pub made_reached : r ≡ packed (refused 21 0) → Reached (table_of table)
  made_reached q =
      let (place, is) = reached_only (make_answer table (length buffer) records) (make_small table (length buffer) records) (sym e ∙ q) in
      promises_reached table records buffer after (make_answer table (length buffer) records) (λ i. make_answer table (length buffer) records) w place is
