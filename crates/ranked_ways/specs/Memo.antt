-- What is remembered: which rankings the moves allow turns on the clocks whose order is that of the fractional parts, and on nothing else of the
-- intervals. Assumes nothing.
use Rattle.std.specs.Prelude.{ℕ, ◌+◌, ◌*◌, ◌<◌, ◌≡◌, Bool, true, false, cond, not, ◌&&◌, ◌||◌, List, [], length, get_or, take, set, eqb, leb}
use Rattle.automata.specs.Comparison.{holds}
use Rattle.automata.specs.Clocks.{at, allb, greatest, one_if}
use Rattle.regions.specs.Placing.{still, greedy_at}
use Rattle.regions.specs.declared.clock_move.Move.{Move}
use Rattle.rankings.specs.Ranking.{pattern}
use Rattle.edge_walk.specs.declared.search.Search.{Search}
use Rattle.rankings.specs.Table.{table}

-- the clocks of rank a fit at position p, where those that pass the test f go by the parts and the others fit everywhere
unfoldable pub rank_fits_by : List Move → ℕ → (ℕ → Bool) → List ℕ → ℕ → ℕ → Bool
rank_fits_by ms n f ks a p = allb n (λ (z : ℕ). not (eqb (at ks z) a) || (not (f z) || holds (get_or ms z still).comparison (p + 1) (2 * (get_or ms z still).rank)))

-- the ranks have positions among g old ones where every clock fits
unfoldable pub placed_by : List Move → ℕ → ℕ → (ℕ → Bool) → List ℕ → Bool
placed_by ms g n f ks = rank_fits_by ms n f ks 0 0 && leb (greedy_at (rank_fits_by ms n f ks) g (greatest (take n ks))) (2 * g)

-- the place of row i of the table of rankings, where these clocks go by the parts
abbrev pub memo_place : ℕ → (ℕ → Bool) → ℕ → ℕ
memo_place n f i = pattern f n * 150 + i

-- what is remembered is so: 1 for a ranking that is not allowed, 2 for one that is
abbrev pub Remembers : List Move → ℕ → ℕ → List ℕ → Type 0
Remembers ms g n memo =
    (f : ℕ → Bool) (i : ℕ) → i < 150
    → (at memo (memo_place n f i) ≡ 1 → placed_by ms g n f (get_or table i []) ≡ false) × (at memo (memo_place n f i) ≡ 2 → placed_by ms g n f (get_or table i []) ≡ true)

-- what is remembered after a ranking was asked: nothing more where no clock goes by the parts, since all of them are allowed then
abbrev pub marked : ℕ → ℕ → Bool → List ℕ → List ℕ
marked parts place b memo = cond (eqb parts 0) memo (set memo place (1 + one_if b))

-- a memo of the search: what it remembers is so, and there is a place for each ranking and each choice of clocks that go by the parts
pub record Kept (s : Search) (memo : List ℕ) : Type 0 where
  pub remembers : Remembers s.moves.each s.moves.ranks s.clocks.count memo
  pub long : length memo ≡ 2400
