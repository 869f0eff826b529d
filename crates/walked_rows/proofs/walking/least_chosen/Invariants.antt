use Rattle.walked_rows.specs.Leading.{LeadsIn}
use Rattle.automata.specs.Successors.{edge_rows}
use Rattle.regions.specs.Values.{bounds_of, edge_of}
use Rattle.skylines.specs.Skyline.{member}
use Rattle.walked_rows.specs.Open.{Inside, LeastOf}
use mathlib.Core.Path.{◌≡◌}
use Rattle.walked_rows.proofs.walking.least_chosen.Given as goal

abbrev pub invariant-loop-reach : goal.invariant-loop-reach
invariant-loop-reach l = LeastOf (LeadsIn l.edge) (λ k j. (member l.members k).row ≡ j) l.reach-index l.end l.least.row
