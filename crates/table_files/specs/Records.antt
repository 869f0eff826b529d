-- Parts of a file, for the record reader. Assumes nothing.
use Rattle.std.specs.Prelude.{ℕ, ◌+◌, cond, List, [], length, take, drop, leb}
use Rattle.automata.specs.Checks.{same}

-- the n bytes from place p on, or none where the file ends before
unfoldable pub part_at : List ℕ → ℕ → ℕ → List ℕ
part_at file p n = cond (leb (p + n) (length file)) (take n (drop p file)) []

-- the record of n bytes from place p on, or none where the file ends inside it or its mark is another
unfoldable pub record_at : List ℕ → ℕ → ℕ → List ℕ → List ℕ
record_at file p n mark = cond (same mark (take 2 (part_at file p n))) (part_at file p n) []
