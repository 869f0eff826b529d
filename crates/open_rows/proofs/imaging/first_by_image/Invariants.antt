use Rattle.open_rows.specs.Leading.{Known}
use Rattle.walked_rows.proofs.Laws.Open.{HoldsTo}
use Rattle.walked_rows.specs.Leading.{LeadsIn}
use lib.ListN.{length}
use mathlib.Core.Path.{◌≡◌}
use Rattle.open_rows.proofs.imaging.first_by_image.Given as goal

abbrev pub invariant-loop-i : goal.invariant-loop-i
invariant-loop-i l = HoldsTo (LeadsIn l.edge) l.fn.rows.start l.fn.rows.end l.i × ((length l.members ≡ 64) × ((length l.known ≡ 64) × Known l.edge l.members l.known))
