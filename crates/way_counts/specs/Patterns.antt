-- The patterns of kinds, and how many rows each of them has. Assumes nothing.
use Rattle.std.specs.Prelude.{ℕ, zero, suc, ◌+◌, ◌*◌, ◌/◌, ◌%◌, ◌≤◌, ◌<◌, ◌≡◌, List, [], length, get_or}
use Rattle.automata.specs.Clocks.{each}
use Rattle.automata.specs.Rows.{select}
use Rattle.regions.specs.Values.{bounds_of}
use Rattle.regions.specs.Placing.{still}
use Rattle.rankings.specs.Ranking.{ranked_rows}
use Rattle.edge_walk.specs.Choice.{allowsb}
use Rattle.edge_walk.specs.declared.search.Search.{Search}
use Rattle.way_counts.specs.Kinds.{kind, of_kind}
use Rattle.way_counts.specs.declared.patterns.Kinds.{Kinds}
use Rattle.way_counts.specs.declared.patterns.OfKind.{OfKind}
use Rattle.regions.specs.declared.clock_move.Move.{Move}

-- numbers -----------------------------------------------------------------------------------------------------------------------

-- f 0 + f 1 + .., so many
unfoldable pub sum_below : ℕ → (ℕ → ℕ) → ℕ
sum_below zero f = 0
sum_below (suc n) f = sum_below n f + f n

-- f 0 * f 1 * .., so many
unfoldable pub product : ℕ → (ℕ → ℕ) → ℕ
product zero f = 1
product (suc n) f = f 0 * product n (λ (z : ℕ). f (suc z))

-- patterns ----------------------------------------------------------------------------------------------------------------------

-- a pattern is a number, and its digits in base 3 are the kinds of the clocks' intervals: what is left of it past those of the first z clocks
unfoldable pub digits_from : ℕ → ℕ → ℕ
digits_from k zero = k
digits_from k (suc z) = digits_from (k / 3) z

-- the kind of clock z's interval in pattern k
unfoldable pub digit : ℕ → ℕ → ℕ
digit k z = digits_from k z % 3

-- how many patterns n clocks have
unfoldable pub patterns : ℕ → ℕ
patterns zero = 1
patterns (suc n) = 3 * patterns n

-- the move of clock z
abbrev pub move_at : Search → ℕ → Move
move_at s z = get_or s.moves.each z still

-- what a table has of kind d of clock z
abbrev pub entry : Kinds → ℕ → ℕ → OfKind
entry t z d = get_or (get_or t.each z []) d (record { count = 0; sample = 0 })

-- the count of the intervals of kind d under a move, and one of them where there are some
pub record Right (m : Move) (d : ℕ) (k : OfKind) : Type 0 where
  pub counted : k.count ≡ of_kind m d (m.top + 1)
  pub within : k.sample ≤ m.top
  pub alike : (j : ℕ) → j ≤ m.top → kind m j ≡ d → kind m k.sample ≡ d

-- a table has these of each kind of each clock
abbrev pub Counts : Search → Kinds → Type 0
Counts s t = (z d : ℕ) → z < s.clocks.count → d < 3 → Right (move_at s z) d (entry t z d)

-- at most 256 intervals of each kind, so that no product of four counts is above 2^32
abbrev pub FewOfEach : ℕ → Kinds → Type 0
FewOfEach n t = (z d : ℕ) → z < n → d < 3 → (entry t z d).count ≤ 256

-- how many intervals clock z has of its kind in pattern k, and one of them
unfoldable pub count_at : Kinds → ℕ → ℕ → ℕ
count_at t k z = (entry t z (digit k z)).count

unfoldable pub sample_at : Kinds → ℕ → ℕ → ℕ
sample_at t k z = (entry t z (digit k z)).sample

-- in how many ways n clocks can have intervals of the pattern, and one of these ways
abbrev pub times : Kinds → ℕ → ℕ → ℕ
times t n k = product n (count_at t k)

abbrev pub samples_of : Kinds → ℕ → ℕ → List ℕ
samples_of t n k = each n (sample_at t k)

-- how many rows of location l with intervals js the moves allow
unfoldable pub ways : Search → ℕ → List ℕ → ℕ
ways s l js = length (select (allowsb s) (ranked_rows (bounds_of s.clocks) l js))

-- how many rows of location l the moves allow whose intervals are of the pattern
unfoldable pub pattern_rows : Search → ℕ → Kinds → ℕ → ℕ
pattern_rows s l t k = times t s.clocks.count k * ways s l (samples_of t s.clocks.count k)
