-- Reading a file from its first byte on, with what is due when. Assumes nothing.
use Rattle.std.specs.Prelude.{ℕ, zero, suc, ◌+◌, Bool, cond, ◌&&◌, List, [], ◌∷◌, length, take, drop, leb}
use Rattle.automata.specs.Checks.{same}
use Rattle.table_files.specs.Answer.{Answer, accepted, refused}

-- what is read: a value and the bytes after it, or a refusal with its number and place
pub data Read (A : Type 0) : Type 0 where
  good : A → List ℕ → Read A
  bad : ℕ → ℕ → Read A

-- a reading takes the bytes from where it stands to the end of the file
abbrev pub Reader : Type 0 → Type 0
Reader A = List ℕ → Read A

-- "Records are read in file order", and "the one met first in that reading is given": one reading, then the next on the bytes that it has
-- left; the first refusal stands
unfoldable pub carry : {A B : Type 0} → Read A → (A → Reader B) → Read B
carry (good a rest) next = next a rest
carry (bad number place) next = bad number place

-- a reading whose value the next one uses
abbrev pub ◌>>=◌ : {A B : Type 0} → Reader A → (A → Reader B) → Reader B
◌>>=◌ first next = λ file. carry (first file) next

-- a reading, then another
abbrev pub ◌>>◌ : {A B : Type 0} → Reader A → Reader B → Reader B
◌>>◌ first next = λ file. carry (first file) (λ _. next)

-- reads nothing
abbrev pub done : {A : Type 0} → A → Reader A
done a = λ file. good a file

-- "A record's bytes must all be there": the next n bytes, or a refusal if the file "ends inside a due record"
unfoldable pub next_bytes : ℕ → ℕ → ℕ → Reader (List ℕ)
next_bytes number place n = λ file. cond (leb n (length file)) (good (take n file) (drop n file)) (bad number place)

-- within a range, as in "1 to 4"
abbrev pub between : ℕ → ℕ → ℕ → Bool
between low high x = leb low x && leb x high

-- a test; a refusal if it fails
unfoldable pub require : ℕ → ℕ → Bool → Reader (Unit {0})
require number place test = λ file. cond test (good tt file) (bad number place)

-- "Bytes follow its last record": a refusal
unfoldable pub end : ℕ → ℕ → Reader (Unit {0})
end number place [] = good tt []
end number place (x ∷ rest) = bad number place

-- "ends inside a due record, or its mark is another": a refusal; else the n bytes of the record, mark and all
unfoldable pub next_record : ℕ → ℕ → List ℕ → ℕ → Reader (List ℕ)
next_record number place mark n = do
  b ← next_bytes number place n
  require number place (same mark (take 2 b))
  done b

-- "Place is the record's number in its file": so many records in a row, the first of them at this place
unfoldable pub records : {A : Type 0} → (ℕ → Reader A) → ℕ → ℕ → Reader (List A)
records read place zero = done []
records read place (suc n) = do
  a ← read place
  rest ← records read (place + 1) n
  done (a ∷ rest)

-- "Acceptance carries the count": what was read tells it
abbrev pub answered : {A : Type 0} → (A → ℕ) → Read A → Answer
answered count (good a rest) = accepted (count a)
answered count (bad number place) = refused number place
