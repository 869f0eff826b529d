-- Closed lists of rows. Assumes nothing.
use Rattle.std.specs.Prelude.{ℕ, ◌<◌, ◌≡◌, false, ◌⊎◌, length, replicate}
use mathlib.Core.List.{List, [], ◌∷◌, Memᴰ}
use Rattle.automata.specs.Row.{Row, IsRow, Below}
use Rattle.automata.specs.Automaton.{Table, clocks, final}
use Rattle.automata.specs.Next.{TimeSuccessor, EdgeSuccessor}

-- a is in the list
abbrev pub Mem : {A : Type 0} → A → List A → Type 0
Mem a l = Memᴰ a l

-- "rows strictly ascending": each is below the next
abbrev pub Ascends : List Row → Type 0
Ascends [] = Unit {0}
Ascends (r ∷ []) = Unit {0}
Ascends (r ∷ (s ∷ rows)) = Below r s × Ascends (s ∷ rows)

-- "the initial row (initial location, then zeros)"
abbrev pub first_row : Table → Row
first_row T = record { location = T.initial; intervals = replicate (clocks T) 0; ranks = replicate (clocks T) 0 }

-- "the table's rows (location below L, intervals and ranks as above)"
pub record RowOf (T : Table) (r : Row) : Type 0 where
  pub location_in : r.location < T.locations
  pub is_row : IsRow T.bounds r

-- "A closed list is any finite list of the table's rows .. that ascends strictly": "the initial row .. is in it, no row has a final
-- location, and the wait row and all edge rows of each row are in it"
pub record Closed (T : Table) (rows : List Row) : Type 0 where
  pub ascends : Ascends rows
  pub are_rows : (r : Row) → Mem r rows → RowOf T r
  pub starts : Mem (first_row T) rows
  pub not_final : (r : Row) → Mem r rows → final T r.location ≡ false
  pub waits : (r r' : Row) → Mem r rows → TimeSuccessor T r r' → Mem r' rows
  pub leads : (r r' : Row) (i : ℕ) → Mem r rows → i < length T.edges → EdgeSuccessor T i r r' → Mem r' rows

-- "exactly one holds" (demand 3): one of the two, and not both
pub record ExactlyOne (A B : Type 0) : Type 0 where
  pub one : A ⊎ B
  pub not_both : A → B → ⊥
