use Rattle.automata.specs.Checks.{every, has}
use Rattle.automata.specs.Rows.{select}
use Rattle.edge_walk.specs.Choice.{allowsb}
use Rattle.listed_rows.specs.RegionLists.{all_rows}
use Rattle.ranked_ways.specs.Memo.{Kept}
use Rattle.rankings.specs.Ranking.{rows_ranked}
use lib.ListN.{drop}
use mathlib.Core.Path.{◌≡◌}
use Rattle.inclusion.proofs.inside.ranked_inside.Given as goal

abbrev pub invariant-loop-j : goal.invariant-loop-j
invariant-loop-j l =
    (every (has (all_rows l.list)) (select (allowsb l.fn.search) (rows_ranked l.clocks l.part)) ≡ every (has (all_rows l.list)) (select (allowsb l.fn.search) (drop l.j (rows_ranked l.clocks l.part))))
    × Kept l.fn.search l.memo
