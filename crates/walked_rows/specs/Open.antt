-- Open rows of a list: those that lack a next row. Assumes nothing.
use Rattle.std.specs.Prelude.{ℕ, ◌≤◌, ◌<◌, ◌≡◌, true, List}
use Rattle.automata.specs.Row.{Row}
use Rattle.automata.specs.Checks.{every, has}
use Rattle.listed_rows.specs.Listed.{listed_row, listed_rows}

-- the next rows of row i by a rule are in the list of so many rows
abbrev pub Inside : (Row → List Row) → ℕ → List ℕ → ℕ → ℕ → Type 0
Inside next n list count i = every (has (listed_rows n list count)) (next (listed_row n list i)) ≡ true

-- r is the first row from lo to before hi of which this does not hold, or hi where it holds of all
pub record FirstOpen (Holds : ℕ → Type 0) (lo hi r : ℕ) : Type 0 where
  pub from : lo ≤ r
  pub to : r ≤ hi
  pub before : (i : ℕ) → lo ≤ i → i < r → Holds i
  pub here : r < hi → Holds r → ⊥

-- r is one of the rows from lo to before hi of which this does not hold, or hi where it holds of all
pub record SomeOpen (Holds : ℕ → Type 0) (lo hi r : ℕ) : Type 0 where
  pub from : lo ≤ r
  pub to : r ≤ hi
  pub all : r ≡ hi → (i : ℕ) → lo ≤ i → i < hi → Holds i
  pub here : r < hi → Holds r → ⊥

-- some rows are looked at, the k-th of them is row j if `Is k j`, and r is the least of them below hi of which this does not hold, or hi where it holds of all
-- that are below hi
pub record LeastOf (Holds : ℕ → Type 0) (Is : ℕ → ℕ → Type 0) (size hi r : ℕ) : Type 0 where
  pub to : r ≤ hi
  pub below : (k i : ℕ) → k < size → Is k i → i < r → Holds i
  pub one : r < hi → (k : ℕ) × (k < size) × Is k r
  pub here : r < hi → Holds r → ⊥

-- row i is looked at if it is below the least row so far: that is the least then, or row i is
pub record Lowers (Holds : ℕ → Type 0) (i least least' : ℕ) : Type 0 where
  pub to : least' ≤ least
  pub below : i < least' → Holds i
  pub one : least' < least → least' ≡ i
  pub here : least' < least → Holds i → ⊥
