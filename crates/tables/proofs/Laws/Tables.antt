-- What the type says of a table. Assumes nothing.
use Prim.Native.Nat.{ℕ}
use mathlib.Core.Path.{◌≡◌, refl, subst}
use mathlib.Core.Bool.{true}
use mathlib.Core.List.{List}
use Rattle.automata.proofs.Laws.Tests.{never}
use Rattle.regions.proofs.Laws.Values.{few_of}
use Rattle.table_files.specs.Answer.{Answer, accepted, refused}
use Rattle.table_files.specs.Admission.{admission}
use Rattle.table_files.specs.Meaning.{Passes}
use Rattle.tables.specs.Values.{is_accepted, Describes}
use Rattle.tables.specs.declared.table.Table.{Table}

passes_of : (file : List ℕ) → is_accepted (admission file) ≡ true → Passes file
passes_of file t = go (admission file) refl t
  where
    go : (a : Answer) → admission file ≡ a → is_accepted a ≡ true → Passes file
    go (accepted records) e t = (records, e)
    go (refused number place) e t = never t

pub describes_of : (t : Table) → Describes t.file.now t.head
describes_of t = record {
  passes = passes_of t.file.now t.admitted;
  few = few_of t.head.clocks;
  bounds = t.bounds;
  count = t.count;
  locations = t.locations;
  initial = t.initial;
  edges = t.edges;
}

-- what a file that was opened is read by
pub opened : {file : List ℕ} (t : Table) → t.file.now ≡ file → Describes file t.head
opened t e = subst (λ (f : List ℕ). Describes f t.head) e (describes_of t)

pub is_accepted_by : (file : List ℕ) → Passes file → is_accepted (admission file) ≡ true
is_accepted_by file (records, e) = rw e
