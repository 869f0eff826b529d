-- What the type says of a search. Assumes nothing.
use Rattle.edge_walk.specs.Choice.{Ready}
use Rattle.edge_walk.specs.declared.search.Search.{Search}
use Rattle.regions.proofs.Laws.Values.{few_of}

pub ready_of : (s : Search) → Ready s
ready_of s = record { few = few_of s.clocks; few_ranks = s.few_ranks; tops = s.tops }
