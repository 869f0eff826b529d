-- The walk over an edge's next rows, which chooses the numbers of a row one after the other: what it seeks, and which choices it leaves out.
-- Assumes nothing.
use Rattle.std.specs.Prelude.{ℕ, ◌+◌, ◌*◌, ◌-◌, ◌≤◌, ◌<◌, ◌≡◌, Bool, true, not, ◌&&◌, ◌⊎◌, List, get_or, ltb}
use Rattle.std.proofs.Math.Option.{Option, none, some}
use Rattle.automata.specs.Clocks.{at}
use Rattle.automata.specs.Row.{Row, IsRow, Below}
use Rattle.automata.specs.Rankings.{usedb, rank_room}
use Rattle.regions.specs.Values.{Few, bounds_of, row_of, sought}
use Rattle.regions.specs.Order.{numbers}
use Rattle.regions.specs.Placing.{still, placed_at}
use Rattle.regions.specs.declared.clocks.Clocks.{Clocks}
use Rattle.regions.specs.declared.region.Region.{Region}
use Rattle.std.specs.declared.option.Option as option_code
use Rattle.edge_walk.specs.declared.search.Search.{Search}

-- numbers -----------------------------------------------------------------------------------------------------------------------

-- two lists of numbers agree before place i
abbrev pub Agree : ℕ → List ℕ → List ℕ → Type 0
Agree i xs ys = (j : ℕ) → j < i → at xs j ≡ at ys j

-- what is sought ----------------------------------------------------------------------------------------------------------------

-- the moves allow a row
abbrev pub allowsb : Search → Row → Bool
allowsb s x = placed_at s.moves.each s.moves.ranks s.clocks.count x.intervals x.ranks

-- .. and it is a row of these clocks
pub record Candidate (s : Search) (x : Row) : Type 0 where
  pub is_row : IsRow (bounds_of s.clocks) x
  pub placed : allowsb s x ≡ true

-- the least of the rows, or none where there is none
abbrev pub First : (Row → Type 0) → Option Row → Type 0
First Q none = (x : Row) → Q x → ⊥
First Q (some y) = Q y × ((x : Row) → Q x → (x ≡ y) ⊎ Below y x)

-- an answer is the least of the rows
pub record Answers (Q : Row → Type 0) (r : option_code.Option Region) : Type 0 where
  pub row : Option Row
  pub given : r ≡ sought row
  pub first : First Q row

-- the choices -------------------------------------------------------------------------------------------------------------------

-- few clocks and ranks, and each clock's top
pub record Ready (s : Search) : Type 0 where
  pub few : Few s.clocks
  pub few_ranks : s.moves.ranks ≤ 4
  pub tops : (z : ℕ) → z < s.clocks.count → (get_or s.moves.each z still).top ≡ 2 * at s.clocks.bounds z + 1

-- the numbers of a region, as the search has them
abbrev pub numbers_of : Search → Region → List ℕ
numbers_of s v = numbers (row_of s.clocks.count v)

-- how many ranks there can be with none missing, once all intervals and the ranks of the first z clocks are chosen
abbrev pub room : Clocks → Region → ℕ → ℕ
room k part z = rank_room (bounds_of k) (row_of k.count part).intervals part.ranks z k.count

-- every rank from k to before m is one that a clock before z has, and so is the last
pub record PassesOver (ranks : List ℕ) (z last k m : ℕ) : Type 0 where
  pub on : k ≤ m
  pub full : k < m → usedb ranks z last ≡ true
  pub over : (a : ℕ) → k ≤ a → a < m → usedb ranks z a ≡ true

-- the ranks chosen so far have no positions
unfoldable pub stuckb : Search → Region → ℕ → Bool
stuckb s part i = ltb s.clocks.count i && not (placed_at s.moves.each s.moves.ranks (i - 1 - s.clocks.count) part.intervals part.ranks)

-- no candidate has its number i from k to before m
pub record Skips (s : Search) (part : Region) (i k m : ℕ) : Type 0 where
  pub on : k ≤ m
  pub over : (x : Row) → Candidate s x → Agree i (numbers x) (numbers_of s part) → k ≤ at (numbers x) i → m ≤ at (numbers x) i

-- no candidate has its number i above m
pub record Ends (s : Search) (part : Region) (i m : ℕ) : Type 0 where
  pub low : m ≤ 32767
  pub low_rank : s.clocks.count < i → m ≤ 4
  pub all : (x : Row) → Candidate s x → Agree i (numbers x) (numbers_of s part) → at (numbers x) i ≤ m
