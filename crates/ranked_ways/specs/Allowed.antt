-- Which rows with the same intervals the moves allow, and what that turns on. Assumes nothing.
use Rattle.std.specs.Prelude.{ℕ, ◌+◌, ◌<◌, ◌%◌, ◌≡◌, Bool, true, cond, not, ◌&&◌, List, [], get_or, eqb}
use Rattle.automata.specs.Clocks.{at}
use Rattle.automata.specs.Row.{Row}
use Rattle.automata.specs.Rows.{select}
use Rattle.regions.specs.Move.{permitsb}
use Rattle.regions.specs.Placing.{still}
use Rattle.regions.specs.declared.clock_move.Move.{Move}
use Rattle.regions.specs.declared.region.Region.{Region}
use Rattle.rankings.specs.Ranking.{rows_ranked}
use Rattle.edge_walk.specs.Choice.{allowsb}
use Rattle.edge_walk.specs.declared.search.Search.{Search}
use Rattle.edge_walk.specs.declared.stand.Stand.{Stand}

-- the rows with the part's intervals that the moves allow
abbrev pub rows_allowed : Search → Region → List Row
rows_allowed s part = select (allowsb s) (rows_ranked s.clocks part)

-- .. where a walk stands that has chosen all intervals
unfoldable pub rows_chosen : Search → Stand → List Row
rows_chosen s a = cond (eqb a.depth (1 + s.clocks.count)) (rows_allowed s a.part) []

-- the order of a clock's new value, which is not at the top, to what it is compared with is that of the fractional parts
unfoldable pub partedb : Move → ℕ → Bool
partedb m j = not (eqb j m.top) && (eqb (j + m.shift) m.reference && eqb (j % 2) 1)

abbrev pub parted_at : List Move → Region → ℕ → Bool
parted_at ms part z = partedb (get_or ms z still) (at part.intervals z)

-- each clock's move permits its interval
abbrev pub Permitted : Search → Region → Type 0
Permitted s part = (z : ℕ) → z < s.clocks.count → permitsb (get_or s.moves.each z still) (at part.intervals z) ≡ true
