use mathlib.Core.List.Memᴰ
use mathlib.Core.Path.{refl, sym, ◌∙◌}
use Rattle.new_rows.proofs.sole.unless_listed.Goals as goal

pub returns-in-Some : goal.returns-in-Some
returns-in-Some c =
    (rw c.in-Some.is (Memᴰ.head refl), sym c.find.ensures ∙ c.if-is_err.ensures.negation)
