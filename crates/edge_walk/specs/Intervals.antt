-- A walk that chooses intervals alone. Assumes nothing.
use Rattle.std.specs.Prelude.{ℕ, ◌+◌, ◌*◌, ◌≤◌, ◌<◌, ◌≡◌, true, get_or}
use Rattle.automata.specs.Clocks.{at}
use Rattle.regions.specs.Move.{permitsb}
use Rattle.regions.specs.Placing.{still}
use Rattle.edge_walk.specs.declared.search.Search.{Search}
use Rattle.edge_walk.specs.declared.stand.Stand.{Stand}

-- a stand that such a walk comes to: no ranks are chosen, nothing was tried yet where all intervals are, and those chosen are in range and permitted
pub record Chosen (s : Search) (a : Stand) : Type 0 where
  pub within : a.depth ≤ 1 + s.clocks.count
  pub fresh : a.depth ≡ 1 + s.clocks.count → a.least ≡ 0
  pub in_range : (z : ℕ) → z + 1 < a.depth → at a.part.intervals z ≤ 2 * at s.clocks.bounds z + 1
  pub permitted : (z : ℕ) → z + 1 < a.depth → permitsb (get_or s.moves.each z still) (at a.part.intervals z) ≡ true
