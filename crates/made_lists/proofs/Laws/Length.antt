-- How long a list of the table is. Assumes nothing.
use Prim.Native.Nat.{ℕ, ◌+◌, ◌*◌, ◌≤◌, ◌<◌}
use native.Mathlib.Nat.{mul-le-mul}
use native.Mathlib.Omega.{arith}
use mathlib.Core.Path.{◌≡◌, sym, ap, ◌∙◌}
use mathlib.Core.List.{List}
use lib.ListN.{length}
use Rattle.automata.specs.Row.{Row}
use Rattle.automata.specs.Automaton.{clocks}
use Rattle.table_files.specs.Answer.{Answer, accepted, refused}
use Rattle.table_files.specs.Reading.{Read, answered}
use Rattle.table_files.specs.Admission.{admission, table_of}
use Rattle.table_files.specs.Meaning.{Passes}
use Rattle.table_files.proofs.Laws.Reading.{not_refused}
use Rattle.calls.specs.RegionFile.{row_width}
use Rattle.calls.specs.Making.{making, make_answer}
use Rattle.calls.specs.Program.{longest_list, made_file}
use Rattle.calls.proofs.Laws.Rows.{row_width_is}
use Rattle.calls.proofs.Laws.Making.{Outcome, not_admitted, not_fit, entered, made, make_outcome}
use Rattle.calls.proofs.Laws.MadeFiles.{file_length, made_length}

-- so many rows of n clocks have so few bytes
pub few_bytes : (rows n : ℕ) → rows < 65536 → n ≤ 4 → rows * row_width n ≤ 65535 * 11
few_bytes rows n h k = mul-le-mul {n₁ = rows} {m₁ = row_width n} {n₂ = 65535} {m₂ = 11} (omega arith) (omega (arith, row_width_is n))

module _ (table : List ℕ) where
  -- a table that is refused does not pass
  pub not_both : {X : Type 0} {number place : ℕ} → admission table ≡ refused number place → Passes table → X
  not_both e (k, p) = not_refused (sym e ∙ p)

  -- a table that a list is made from does
  passes : (rows : ℕ) → accepted rows ≡ make_answer table longest_list 4096 → Passes table
  unfolding make_answer
  passes rows = go (making table longest_list 4096) (make_outcome table longest_list 4096)
    where
      go : (r : Read (List Row)) → Outcome table longest_list 4096 r → accepted rows ≡ answered length r → Passes table
      go _ (not_admitted number place e) h = not_refused (sym h)
      go _ (not_fit p out) h = p
      go _ (entered p f e) h = p
      go _ (made p f e) h = p

  -- the file of what was made with this answer
  length_is : (a : Answer) → a ≡ make_answer table longest_list 4096 → length (made_file table) ≡ file_length (clocks (table_of table)) a
  length_is a e = made_length table ∙ ap (file_length (clocks (table_of table))) (sym e)

  pub list_long : (a : Answer) (rows r : ℕ) → a ≡ accepted rows → (Passes table → r ≡ 4 + rows * row_width (clocks (table_of table)))
      → a ≡ make_answer table longest_list 4096 → r ≡ length (made_file table)
  list_long a rows r is h e =
      let n : ℕ = clocks (table_of table) in
      h (passes rows (sym is ∙ e)) ∙ sym (length_is a e ∙ ap (file_length n) is)

  pub list_none : (a : Answer) (number place : ℕ) → a ≡ refused number place → a ≡ make_answer table longest_list 4096 → 0 ≡ length (made_file table)
  list_none a number place is e = sym (length_is a e ∙ ap (file_length (clocks (table_of table))) is)
