use Rattle.edge_walk.proofs.Laws.Allowing.{AllowsTo}
use Rattle.edge_walk.proofs.search.Search.allows.Given as goal

abbrev pub invariant-loop-z : goal.invariant-loop-z
invariant-loop-z l = AllowsTo l.fn.self.moves.each l.fn.self.moves.ranks l.fn.self.clocks.count l.region.intervals l.region.ranks l.z l.by_parts
