-- Where a walk over an edge's next rows stands, which rows are ahead of it there, and how many steps it has left. Assumes nothing.
use Rattle.std.specs.Prelude.{ℕ, zero, suc, ◌+◌, ◌*◌, ◌-◌, ◌≤◌, ◌<◌, ◌≡◌, false, ◌⊎◌, List, [], ◌∷◌}
use Rattle.automata.specs.Clocks.{at}
use Rattle.automata.specs.Row.{Row}
use Rattle.regions.specs.Values.{row_of, region_of}
use Rattle.regions.specs.Order.{numbers}
use Rattle.regions.specs.declared.region.Region.{Region}
use Rattle.edge_walk.specs.Choice.{Agree, Candidate, numbers_of, stuckb}
use Rattle.edge_walk.specs.declared.search.Search.{Search}
use Rattle.edge_walk.specs.declared.stand.Stand.{Stand}

-- stands ------------------------------------------------------------------------------------------------------------------------

-- in a location: nothing else is chosen
abbrev pub start : ℕ → Stand
start l = record { part = record { location = l; intervals = 0 ∷ 0 ∷ 0 ∷ 0 ∷ []; ranks = 0 ∷ 0 ∷ 0 ∷ 0 ∷ [] }; depth = 1; least = 0 }

-- one number back, past the choice that it has
abbrev pub back : ℕ → Stand → Stand
back n a = record { part = a.part; depth = a.depth - 1; least = at (numbers (row_of n a.part)) (a.depth - 1) + 1 }

-- where a walk goes on that has met a region
abbrev pub after : ℕ → Region → Stand
after n v = back n (record { part = region_of (row_of n v); depth = 1 + 2 * n; least = 0 })

-- what is ahead -----------------------------------------------------------------------------------------------------------------

-- a row begins with the numbers chosen
abbrev pub Begun : Search → Stand → Row → Type 0
Begun s a x = Agree a.depth (numbers x) (numbers_of s a.part)

-- of a walk that has chosen the first i of the numbers ps and has those from k on left to try for the next one, numbers xs are ahead: they go on from
-- the chosen ones with one of these, or have a greater one in the place of one that is chosen
abbrev pub Later : List ℕ → ℕ → ℕ → List ℕ → Type 0
Later ps i k xs = (Agree i xs ps × (k ≤ at xs i)) ⊎ ((j : ℕ) × (j < i) × Agree j xs ps × (at ps j < at xs j))

-- a candidate of the location that the walk has yet to meet
pub record Ahead (s : Search) (a : Stand) (x : Row) : Type 0 where
  pub held : Candidate s x
  pub located : x.location ≡ a.part.location
  pub later : Later (numbers_of s a.part) a.depth a.least (numbers x)

-- a stand that a walk comes to: zeros behind the clocks' numbers, and no more numbers chosen than there are; at depth 0 it is past the location; where all
-- is chosen nothing was tried yet, and the ranks have positions
pub record Standing (s : Search) (a : Stand) : Type 0 where
  pub plain : region_of (row_of s.clocks.count a.part) ≡ a.part
  pub within : a.depth ≤ 1 + 2 * s.clocks.count
  pub over : a.depth ≡ 0 → a.part.location < a.least
  pub arrived : a.depth ≡ 1 + 2 * s.clocks.count → (a.least ≡ 0) × (stuckb s a.part a.depth ≡ false)

-- steps -------------------------------------------------------------------------------------------------------------------------

-- at most how many steps are made where m numbers are left to choose, if for the first of them the choices from k on are left: choices are below 32,768,
-- and each takes a step on and those for the numbers after it, the last of which is back, or a step past it; then comes the step back
unfoldable pub tries : ℕ → ℕ → ℕ
tries zero k = 1
tries (suc m) k = 1 + (32768 - k) * (1 + tries m 0)

-- .. for the first i of N numbers that are chosen, each past its choice
unfoldable pub steps_behind : List ℕ → ℕ → ℕ → ℕ
steps_behind ps N zero = 0
steps_behind ps N (suc j) = steps_behind ps N j + tries (N - j) (at ps j + 1)

-- .. for a walk that stands there
abbrev pub steps_left : Search → Stand → ℕ
steps_left s a =
    steps_behind (numbers_of s a.part) (1 + 2 * s.clocks.count) a.depth + tries (1 + 2 * s.clocks.count - a.depth) a.least

-- a walk goes on from a to b: no row is ahead that was not, nor one that is done; none is missed but those that are done; and fewer steps are left
pub record Advance (s : Search) (Done : Row → Type 0) (a b : Stand) : Type 0 where
  pub standing : Standing s b
  pub fewer : steps_left s b < steps_left s a
  pub none_again : (x : Row) → Ahead s b x → Ahead s a x
  pub left_behind : (x : Row) → Done x → Ahead s b x → ⊥
  pub none_missed : (x : Row) → Ahead s a x → Done x ⊎ Ahead s b x
