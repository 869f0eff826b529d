-- Whether a list of rows is closed, as tests that compute. Assumes nothing.
use Rattle.std.specs.Prelude.{ℕ, Bool, true, false, not, ◌&&◌, ◌||◌, List, [], ◌∷◌, eqb, ltb}
use Rattle.automata.specs.Row.{Row}
use Rattle.automata.specs.Automaton.{Table, final}
use Rattle.automata.specs.Closed.{first_row}
use Rattle.automata.specs.Rows.{isrowb}
use Rattle.automata.specs.Next.{next_rows}

-- all pass a test
abbrev pub every : {A : Type 0} → (A → Bool) → List A → Bool
every p [] = true
every p (x ∷ xs) = p x && every p xs

-- some passes a test
abbrev pub any : {A : Type 0} → (A → Bool) → List A → Bool
any p [] = false
any p (x ∷ xs) = p x || any p xs

-- two lists are equal
abbrev pub same : List ℕ → List ℕ → Bool
same [] [] = true
same [] (y ∷ ys) = false
same (x ∷ xs) [] = false
same (x ∷ xs) (y ∷ ys) = eqb x y && same xs ys

-- the first place where two lists differ decides
abbrev pub beforeb : List ℕ → List ℕ → Bool
beforeb [] [] = false
beforeb [] (y ∷ ys) = true
beforeb (x ∷ xs) [] = false
beforeb (x ∷ xs) (y ∷ ys) = ltb x y || (eqb x y && beforeb xs ys)

-- two rows are equal
abbrev pub same_row : Row → Row → Bool
same_row r s = eqb r.location s.location && same r.intervals s.intervals && same r.ranks s.ranks

-- "by location, then intervals clock by clock, then ranks clock by clock"
abbrev pub belowb : Row → Row → Bool
belowb r s =
    ltb r.location s.location
    || (eqb r.location s.location && (beforeb r.intervals s.intervals || (same r.intervals s.intervals && beforeb r.ranks s.ranks)))

-- each row is below the next
abbrev pub ascendsb : List Row → Bool
ascendsb [] = true
ascendsb (r ∷ []) = true
ascendsb (r ∷ (s ∷ rows)) = belowb r s && ascendsb (s ∷ rows)

-- the row is in the list
abbrev pub has : List Row → Row → Bool
has rows r = any (same_row r) rows

-- the row is one of the table's
abbrev pub row_ofb : Table → Row → Bool
row_ofb T r = ltb r.location T.locations && isrowb T.bounds r

-- the list is closed
unfoldable pub closedb : Table → List Row → Bool
closedb T rows =
    ascendsb rows
    && every (row_ofb T) rows
    && has rows (first_row T)
    && every (λ (r : Row). not (final T r.location)) rows
    && every (λ (r : Row). every (has rows) (next_rows T r)) rows
