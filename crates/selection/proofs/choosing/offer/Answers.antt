use Rattle.listed_rows.proofs.Laws.RegionLists.{listed_over}
use Rattle.selection.proofs.Laws.Choosing.{offers_taken, offers_blocked, offers_seat}
use native.Mathlib.Omega.{arith}
use Rattle.selection.proofs.choosing.offer.Goals as goal

pub returns-then-already : goal.returns-then-already
returns-then-already c =
    λ lo hi from to in_list sit. offers_taken _ _ _ _ lo hi c.args.edge.now.sized c.args.edge.now.clocks.few (λ j h. (listed_over c.args.edge.now).are_rows j (omega arith)) _ _ _ _ sit c.args.skyline.now.few c.if-already.true

pub returns-in-None : goal.returns-in-None
returns-in-None c =
    λ lo hi from to in_list sit. offers_blocked _ _ _ _ lo hi c.args.edge.now.sized c.args.edge.now.clocks.few (λ j h. (listed_over c.args.edge.now).are_rows j (omega arith)) _ _ _ _ sit c.args.skyline.now.few c.in-None.ensures

pub returns-in-Some : goal.returns-in-Some
returns-in-Some c =
    λ lo hi from to in_list sit. offers_seat _ _ _ _ lo hi c.args.edge.now.sized c.args.edge.now.clocks.few (λ j h. (listed_over c.args.edge.now).are_rows j (omega arith)) _ _ _ _ sit c.args.skyline.now.few _ _ _ _ c.seat.ensures from to c.requires.i_value c.in-Some.ensures.0 c.in-Some.ensures.1
