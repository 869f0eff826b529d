-- What an opened table, or its refusal, says of the admission. Assumes nothing.
use Prim.Native.Nat.{ℕ, ◌+◌, ◌≤◌}
use native.Mathlib.Omega.{arith}
use mathlib.Core.Path.{◌≡◌, sym, ap, ◌∙◌}
use mathlib.Core.List.{List}
use Rattle.automata.specs.Row.{Row}
use Rattle.automata.specs.Automaton.{Admitted}
use Rattle.automata.specs.Run.{Reached}
use Rattle.automata.specs.Closed.{Closed, ExactlyOne}
use Rattle.automata.proofs.Laws.Index.{exactly_one}
use Rattle.table_files.specs.Answer.{Answer, accepted, refused}
use Rattle.table_files.specs.Reading.{bad}
use Rattle.table_files.specs.Admission.{admitted, admission, table_of}
use Rattle.table_files.specs.Meaning.{Limits}
use Rattle.tables.specs.Values.{Describes}
use Rattle.table_records.specs.declared.head.Head.{Head}
use Rattle.table_files.proofs.Laws.Admission.{admission_read, admission_admitted, admission_limits}

-- what is refused
pub opens_refused : (file : List ℕ) {number place : ℕ} → admitted file ≡ bad number place → admission file ≡ refused number place
unfolding admission
opens_refused file h = rw h

-- how many records an admitted table has
module _ (file : List ℕ) (k : Head) (d : Describes file k) where
  pub described : admission file ≡ accepted (1 + k.locations + k.edges)
  described =
      let (records, a) = d.passes in
      let (rest, e, c) = admission_read file records a in
      a ∙ ap accepted (sym c ∙ (λ i. 1 + sym d.locations i + sym d.edges i))

  pub described_limits : Limits (table_of file)
  described_limits = admission_limits file _ described

  pub records_few : 1 + k.locations + k.edges ≤ 321
  records_few = let l = described_limits in omega (arith, d.locations, d.edges, l.few_locations, l.few_edges)

-- an admitted table has either a run into a final location or a closed list
pub admits : (file : List ℕ) (k : ℕ) → admission file ≡ accepted k
    → Admitted (table_of file) × ExactlyOne (Reached (table_of file)) ((rows : List Row) × Closed (table_of file) rows)
admits file k h = let a = admission_admitted file k h in (a, exactly_one (table_of file) a)

-- an answer, with what it promises
pub answers : (file : List ℕ) (a : Answer) → a ≡ admission file
    → (a ≡ admission file) × ((k : ℕ) → a ≡ accepted k → Admitted (table_of file) × ExactlyOne (Reached (table_of file)) ((rows : List Row) × Closed (table_of file) rows))
answers file a e = (e, λ k h. admits file k (sym e ∙ h))
