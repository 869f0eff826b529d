-- The call that checks a region list: what it answers, and what that promises. Assumes nothing.
use Prim.Native.Nat.{ℕ, ◌≤◌, ◌<◌}
use native.Mathlib.Omega.{arith}
use mathlib.Core.Path.{◌≡◌, sym, ap, ◌∙◌}
use mathlib.Core.Logic.{◌↔◌}
use mathlib.Core.List.{List}
use lib.ListN.{length}
use Rattle.automata.specs.Row.{Row}
use Rattle.automata.specs.Run.{Reached}
use Rattle.automata.specs.Closed.{Closed}
use Rattle.table_files.specs.Bytes.{AreBytes}
use Rattle.table_files.specs.Answer.{Answer, accepted, refused, packed}
use Rattle.table_files.specs.Reading.{bad, carry, answered}
use Rattle.table_files.specs.Admission.{admitted, table_of}
use Rattle.table_files.specs.Meaning.{Passes}
use Rattle.tables.specs.Values.{Describes}
use Rattle.table_records.specs.declared.head.Head.{Head}
use Rattle.calls.specs.RegionFile.{region_file, list_checked, list_answer, list_bytes}
use Rattle.calls.specs.Meaning.{Small, RegionListOf}
use Rattle.calls.proofs.Laws.SmallAnswers.{list_small}
use Rattle.calls.proofs.Laws.RegionLists.{list_over, list_law}
use Rattle.calls.proofs.Laws.Claims.{list_empty, closed_accepted}

-- 1 to 6 -------------------------------------------------------------------------------------------------------------------------------

pub opened_refused : (table list : List ℕ) {number place : ℕ} → admitted table ≡ bad number place → refused number place ≡ list_answer table list
unfolding list_answer carry
opened_refused table list e = rw e

-- 7 to 9, 14 to 17 -----------------------------------------------------------------------------------------------------------------------

module _ (table list : List ℕ) (head : Head) (D : Describes table head) where
  -- what the rows of an admitted table's list answer is what the call answers
  pub rows_answer : (a : Answer) → a ≡ answered length (list_checked (table_of table) list) → a ≡ list_answer table list
  rows_answer a h = h ∙ sym (list_over table D.passes list)

  pub read_refused : {number place : ℕ} → region_file (table_of table) list ≡ bad number place → refused number place ≡ list_answer table list
  unfolding list_checked carry
  read_refused e = rows_answer _ (rw e)

-- what the answer promises ---------------------------------------------------------------------------------------------------------------

abbrev pub Promises : List ℕ → List ℕ → Answer → Type 0
Promises table list a =
    (a ≡ list_answer table list)
    × (((k : ℕ) → (a ≡ accepted k) ↔ (Passes table × RegionListOf (table_of table) list k))
    × (((k : ℕ) → a ≡ accepted k → Reached (table_of table) → ⊥)
    × (Passes table → (rows : List Row) → Closed (table_of table) rows → length rows ≤ 4096 → list ≡ list_bytes rows → a ≡ accepted (length rows))))

pub promises : (table list : List ℕ) (a : Answer) → AreBytes list → a ≡ list_answer table list → Promises table list a
promises table list a bytes h = (
  h,
  (
    λ k. (λ e. (list_law table list k bytes).0 (sym h ∙ e), λ t. h ∙ (list_law table list k bytes).1 t),
    (λ k e. (list_empty table list k (sym h ∙ e)).2, λ p rows C few e. h ∙ ap (list_answer table) e ∙ (closed_accepted table p rows C few).1),
  ),
)

-- one number -------------------------------------------------------------------------------------------------------------------------------

-- a number below 65,536 is a count
pub count_only : (a : Answer) (k : ℕ) → Small a → k < 65536 → packed a ≡ k → a ≡ accepted k
count_only (accepted count) k s l e = ap accepted e
count_only (refused number place) k (some, _, _) l e = absurd (omega arith)

module _ (table list : List ℕ) (a : Answer) (r : ℕ) (e : r ≡ packed a) (p : Promises table list a) where
  small : Small a
  small = rw p.0 (list_small table list)

  pub packed_promises : (r ≡ packed (list_answer table list))
      × (((k : ℕ) → k < 65536 → (r ≡ k) ↔ (Passes table × RegionListOf (table_of table) list k))
      × ((r < 65536 → Reached (table_of table) → ⊥)
      × (Passes table → (rows : List Row) → Closed (table_of table) rows → length rows ≤ 4096 → list ≡ list_bytes rows → r ≡ length rows)))
  packed_promises = (
    e ∙ ap packed p.0,
    (
      λ k l. (λ q. (p.1.0 k).0 (count_only a k small l (sym e ∙ q)), λ t. e ∙ ap packed ((p.1.0 k).1 t)),
      (λ l. p.1.1.0 r (count_only a r small l (sym e)), λ ok rows C few q. e ∙ ap packed (p.1.1.1 ok rows C few q)),
    ),
  )
