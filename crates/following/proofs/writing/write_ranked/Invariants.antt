use Rattle.automata.specs.Rows.{select}
use Rattle.edge_walk.specs.Choice.{allowsb}
use Rattle.following.proofs.Laws.Put.{Put}
use Rattle.ranked_ways.specs.Memo.{Kept}
use Rattle.rankings.specs.Ranking.{rows_ranked}
use lib.ListN.{take}
use Rattle.following.proofs.writing.write_ranked.Given as goal

abbrev pub invariant-loop-j : goal.invariant-loop-j
invariant-loop-j l = Put (select (allowsb l.fn.search) (take l.j (rows_ranked l.clocks l.part))) l.initial.buffer l.buffer l.at × Kept l.fn.search l.memo
