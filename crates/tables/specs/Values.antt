-- What the code's values stand for: answers, and what it keeps of an admitted table. Assumes nothing.
use Rattle.std.specs.Prelude.{ℕ, ◌≡◌, Bool, true, false, List, length, Result, Ok, Err}
use Rattle.regions.specs.Values.{bounds_of, Few}
use Rattle.table_files.specs.Answer.{Answer, accepted, refused}
use Rattle.table_files.specs.Admission.{table_of}
use Rattle.table_files.specs.Meaning.{Passes}
use Rattle.table_records.specs.declared.head.Head.{Head}
use Rattle.table_records.specs.declared.refusal.Refusal.{Refusal}
use Rattle.table_records.specs.Refusal.{number_of}

-- "For each answer that is an enum, a definition gives this paper's number and values for each of the enum's cases"
abbrev pub answer_of : Result ℕ Refusal → Answer
answer_of (Ok count) = accepted count
answer_of (Err r) = refused (number_of r.fault) r.place

-- the file is admitted, and these are its table's clocks and counts
pub record Describes (file : List ℕ) (h : Head) : Type 0 where
  pub passes : Passes file
  pub few : Few h.clocks
  pub bounds : bounds_of h.clocks ≡ (table_of file).bounds
  pub count : h.clocks.count ≡ length (table_of file).bounds
  pub locations : h.locations ≡ (table_of file).locations
  pub initial : h.initial ≡ (table_of file).initial
  pub edges : h.edges ≡ length (table_of file).edges

-- the answer is that the file is accepted
abbrev pub is_accepted : Answer → Bool
is_accepted (accepted count) = true
is_accepted (refused number place) = false
