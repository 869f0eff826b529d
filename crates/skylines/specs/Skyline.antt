-- Reaches that are kept, none within another: for the rows that an edge has to be walked from. Assumes nothing.
use Rattle.std.specs.Prelude.{ℕ, ◌≤◌, ◌<◌, ◌≡◌, Bool, true, ◌⊎◌, List, [], get_or}
use Rattle.automata.specs.Clocks.{someb}
use Rattle.skylines.specs.Reach.{withinb}
use Rattle.skylines.specs.declared.reach.Reach.{Reach}

-- what stands where a list of reaches has ended
abbrev pub no_reach : Reach
no_reach = record { lows = []; highs = []; row = 0 }

-- a reach of a list of them
abbrev pub member : List Reach → ℕ → Reach
member ms k = get_or ms k no_reach

-- a reach lies within one of the first so many
unfoldable pub coveredb : ℕ → List Reach → ℕ → Reach → Bool
coveredb n ms size own = someb size (λ (k : ℕ). withinb n own (member ms k))

-- of so many reaches those that lie within one's own are dropped: no other is lost, and none is new
pub record Drops (n : ℕ) (own : Reach) (ms : List Reach) (size : ℕ) (ms' : List Reach) (kept : ℕ) : Type 0 where
  pub fewer : kept ≤ size
  pub none_new : (k : ℕ) → k < kept → (j : ℕ) × (j < size) × (member ms' k ≡ member ms j)
  pub none_lost : (j : ℕ) → j < size → (withinb n (member ms j) own ≡ true) ⊎ ((k : ℕ) × (k < kept) × (member ms' k ≡ member ms j))
  pub unmoved : kept ≡ size → (j : ℕ) → j < size → member ms' j ≡ member ms j

-- a reach is offered to so many: each of those is still within one, and so is the one that is offered if it is seated, as it is where there are none; it
-- alone is new
pub record Seats (n : ℕ) (own : Reach) (ms : List Reach) (size : ℕ) (ms' : List Reach) (size' : ℕ) (seated : Bool) : Type 0 where
  pub room : size' ≤ 64
  pub none_new : (k : ℕ) → k < size' → (member ms' k ≡ own) ⊎ ((j : ℕ) × (j < size) × (member ms' k ≡ member ms j))
  pub none_lost : (j : ℕ) → j < size → (k : ℕ) × (k < size') × (withinb n (member ms j) (member ms' k) ≡ true)
  pub covers : seated ≡ true → (k : ℕ) × (k < size') × (withinb n own (member ms' k) ≡ true)
  pub first : size ≡ 0 → seated ≡ true
