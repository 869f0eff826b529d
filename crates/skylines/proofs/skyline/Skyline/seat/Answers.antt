use Rattle.skylines.proofs.Laws.Covered.{seats_covered, seats_none, seats_one}
use borrow.Author.Rules.{rules}
use mathlib.Core.Path.{sym, ◌∙◌}
use native.Mathlib.Omega.{arith}
use Rattle.skylines.proofs.skyline.Skyline.seat.Goals as goal

pub returns-then-covers : goal.returns-then-covers
returns-then-covers c =
    seats_covered _ _ _ _ c.args.self.now.few (sym c.covers.ensures ∙ c.if-covers.true)

pub returns-then-self-eq64 : goal.returns-then-self-eq64
returns-then-self-eq64 c =
    seats_none _ _ _ _ _ _ c.drop_covered.ensures c.args.self.now.few c.if-self-eq64.true

pub returns : goal.returns
returns c =
    seats_one _ _ _ _ _ _ c.drop_covered.ensures (omega (arith, c.if-self-eq64.false, c.drop_covered.new.self.few)) (search rules)
