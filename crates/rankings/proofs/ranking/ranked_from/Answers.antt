use Rattle.rankings.proofs.Laws.Ranking.{in_table}
use Rattle.rankings.proofs.Laws.Table.{table_long}
use borrow.Author.Rules.{rules}
use Prim.Native.Nat.{ℕ}
use mathlib.Core.List.{List}
use lib.ListN.{length}
use mathlib.Core.Path.{ap, ◌∙◌}
use native.Mathlib.Omega.{arith}
use Rattle.rankings.proofs.ranking.ranked_from.Goals as goal

pub overflow_add-result : goal.overflow_add-result
overflow_add-result c = omega (arith, c.requires.first_value, in_table c.args.clocks c.args.part c.args.clocks.few (search rules) (search rules) c.requires.in_range c.args.j c.requires.j_in_bounds)

pub offset_bounds-rankings-first : goal.offset_bounds-rankings-first
offset_bounds-rankings-first c = omega (arith, c.requires.first_value, in_table c.args.clocks c.args.part c.args.clocks.few (search rules) (search rules) c.requires.in_range c.args.j c.requires.j_in_bounds)

pub bounds-rankings-first : goal.bounds-rankings-first
bounds-rankings-first c = omega (arith, c.requires.first_value, in_table c.args.clocks c.args.part c.args.clocks.few (search rules) (search rules) c.requires.in_range c.args.j c.requires.j_in_bounds, ap (λ (t : List (List ℕ)). length t) c.args.rankings.now.known ∙ table_long)
