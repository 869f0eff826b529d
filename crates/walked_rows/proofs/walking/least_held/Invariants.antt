use Rattle.walked_rows.specs.Leading.{LeadsIn}
use Prim.Native.Nat.{suc}
use Rattle.automata.specs.Clocks.{at}
use Rattle.automata.specs.Successors.{edge_rows}
use Rattle.regions.specs.Values.{bounds_of, edge_of}
use Rattle.walked_rows.specs.Open.{Inside, LeastOf}
use mathlib.Core.Path.{◌≡◌}
use Rattle.walked_rows.proofs.walking.least_held.Given as goal

abbrev pub invariant-loop-holder : goal.invariant-loop-holder
invariant-loop-holder l = LeastOf (LeadsIn l.edge) (λ k j. at l.slots k ≡ suc j) l.holder-index l.end l.least.row
