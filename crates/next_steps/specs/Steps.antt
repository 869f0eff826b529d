-- The steps by which a row's next rows come: 0 is waiting, and each number above it an edge. Assumes nothing.
use Rattle.std.specs.Prelude.{ℕ, zero, suc, ◌≤◌, ◌<◌, ◌≡◌, Bool, true, false, ◌||◌, ◌⊎◌, List, length, Option, None, Some}
use Rattle.automata.specs.Row.{Row}
use Rattle.automata.specs.Automaton.{Table, clocks, edge, final}
use Rattle.automata.specs.Closed.{Mem}
use Rattle.automata.specs.Next.{time_successors, edge_successors}
use Rattle.automata.specs.Checks.{every, has}
use Rattle.regions.specs.Image.{deterministic}
use Rattle.regions.specs.Values.{row_of}
use Rattle.regions.specs.declared.region.Region.{Region}
use Rattle.next_steps.specs.declared.stride.Stride as stride_code

-- the rows that are due by a step
abbrev pub due : Table → ℕ → Row → List Row
due T zero r = time_successors T r
due T (suc j) r = edge_successors T j r

-- the step is an edge into a final location
abbrev pub into_final : Table → ℕ → Bool
into_final T zero = false
into_final T (suc j) = final T (edge T j).target

-- the step is taken row by row: waiting, an edge into a final location, which is only asked whether it leads anywhere, and a deterministic edge
abbrev pub plain : Table → ℕ → Bool
plain T zero = true
plain T (suc j) = final T (edge T j).target || deterministic (clocks T) (edge T j)

-- nothing is left to do for a row by a step: a final location is entered, or all rows that are due are among those that are kept
abbrev pub Settled : Table → List Row → Bool → ℕ → Row → Type 0
Settled T rows entered m r = ((into_final T m ≡ true) × (entered ≡ true)) ⊎ (every (has rows) (due T m r) ≡ true)

-- a row is due by a step, outside final locations, and is not among those that are kept
pub record NewBy (T : Table) (rows : List Row) (m : ℕ) (r new : Row) : Type 0 where
  pub in_range : m ≤ length T.edges
  pub is_due : Mem new (due T m r)
  pub is_new : has rows new ≡ false
  pub outside : into_final T m ≡ false

-- one plain step from a row: what is found is new; where nothing is found the row is settled
pub record Asks (T : Table) (rows : List Row) (n m : ℕ) (r : Row) (entered : Bool) (next : Option Region) (entered' : Bool) : Type 0 where
  pub settled : next ≡ None → plain T m ≡ true → Settled T rows entered' m r
  pub new : (v : Region) → next ≡ Some v → NewBy T rows m r (row_of n v)
  pub stays : entered ≡ true → entered' ≡ true
  pub enters : entered' ≡ true → (entered ≡ true) ⊎ ((s : Row) × Mem s (due T m r) × (into_final T m ≡ true))

-- all plain steps from a row, from one on, up to the first by which something new is found
pub record Follows (T : Table) (rows : List Row) (n step : ℕ) (r : Row) (entered : Bool) (q : stride_code.Stride) : Type 0 where
  pub on : step ≤ q.step
  pub settled : (m : ℕ) → step ≤ m → m < q.step → plain T m ≡ true → Settled T rows q.entered m r
  pub all : q.next ≡ None → q.step ≡ suc (length T.edges)
  pub new : (v : Region) → q.next ≡ Some v → NewBy T rows q.step r (row_of n v)
  pub none_from : q.from ≡ None
  pub stays : entered ≡ true → q.entered ≡ true
  pub enters : q.entered ≡ true → (entered ≡ true) ⊎ ((m : ℕ) × (m ≤ length T.edges) × (s : Row) × Mem s (due T m r) × (into_final T m ≡ true))

-- all other steps from all rows, from one on, up to the first by which something new is found
pub record Walks (T : Table) (rows : List Row) (n step : ℕ) (q : stride_code.Stride) : Type 0 where
  pub on : step ≤ q.step
  pub settled : (m : ℕ) → step ≤ m → m < q.step → plain T m ≡ false → (r : Row) → Mem r rows → every (has rows) (due T m r) ≡ true
  pub all : q.next ≡ None → q.step ≡ suc (length T.edges)
  pub new : (v : Region) → q.next ≡ Some v → (r : Row) × Mem r rows × NewBy T rows q.step r (row_of n v)
  pub from : (v : Region) → q.from ≡ Some v → Mem (row_of n v) rows
