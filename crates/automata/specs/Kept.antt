-- The rows that a list made from a table keeps: "It starts at the initial row and adds next rows. Rows in final locations are noted but neither kept nor
-- followed". Assumes nothing.
use Rattle.std.specs.Prelude.{ℕ, zero, suc, ◌≡◌, Bool, true, false, cond, ◌||◌, List, [], ◌∷◌, length, eqb}
use Rattle.automata.specs.Row.{Row}
use Rattle.automata.specs.Automaton.{Table, final}
use Rattle.automata.specs.Closed.{Mem, first_row}
use Rattle.automata.specs.Rows.{gather}
use Rattle.automata.specs.Next.{next_rows}
use Rattle.automata.specs.Checks.{any, belowb}

-- as a list that computes -------------------------------------------------------------------------------------------------------

-- a row put into its place among ascending rows, unless it is there
abbrev pub insert : Row → List Row → List Row
insert r [] = r ∷ []
insert r (s ∷ rows) = let further : List Row = insert r rows in cond (belowb r s) (r ∷ (s ∷ rows)) (cond (belowb s r) (s ∷ further) (s ∷ rows))

-- some rows put among others, but none in a final location
unfoldable pub keep : Table → List Row → List Row → List Row
keep T [] rows = rows
keep T (r ∷ more) rows = let others : List Row = keep T more rows in cond (final T r.location) others (insert r others)

-- "adds next rows": those of all rows, once
unfoldable pub grown : Table → List Row → List Row
grown T rows = keep T (gather (next_rows T) rows) rows

-- so many times, or until none is added
unfoldable pub grown_by : Table → ℕ → List Row → List Row
grown_by T zero rows = rows
grown_by T (suc times) rows =
    let more : List Row = grown T rows in
    let further : List Row = grown_by T times more in
    cond (eqb (length more) (length rows)) rows further

-- "It starts at the initial row": the kept rows, ascending. Every time but the last adds a row, so that 4,096 times find all of them, or more than 4,096
unfoldable pub kept : Table → List Row
kept T = grown_by T 4096 (keep T (first_row T ∷ []) [])

-- "a final location was entered": that of the initial row, or of a next row of one of these
unfoldable pub enters : Table → List Row → Bool
enters T rows = final T T.initial || any (λ (r : Row). any (λ (s : Row). final T s.location) (next_rows T r)) rows

-- as a property -----------------------------------------------------------------------------------------------------------------

-- next rows lead to the row from the initial one, through rows outside final locations
pub data Kept (T : Table) : Row → Type 0 where
  begun : final T T.initial ≡ false → Kept T (first_row T)
  added : {r s : Row} → Kept T r → Mem s (next_rows T r) → final T s.location ≡ false → Kept T s

-- the initial row's location is final, or that of a next row of a kept row
pub data Entered (T : Table) : Type 0 where
  at_once : final T T.initial ≡ true → Entered T
  later : {r s : Row} → Kept T r → Mem s (next_rows T r) → final T s.location ≡ true → Entered T
