use Rattle.rankings.proofs.Laws.Ranking.{starts_rise, rankings_are}
use borrow.Author.Rules.{rules}
use mathlib.Core.Path.{sym}
use Rattle.rankings.proofs.ranking.rankings_of.Goals as goal

pub overflow_sub-result : goal.overflow_sub-result
overflow_sub-result c =
    rw (c.start_of-2.ensures, c.start_of.ensures) (starts_rise _ c.open_pattern-pattern.ensures.low).0

pub returns : goal.returns
returns c =
    rw (c.start_of-2.ensures, c.start_of.ensures, c.open_pattern-pattern.ensures.value) (sym (rankings_are c.args.clocks c.args.part c.args.clocks.few (search rules) (search rules) c.requires.in_range))
