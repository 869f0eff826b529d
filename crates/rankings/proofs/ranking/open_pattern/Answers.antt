use Rattle.rankings.proofs.Laws.Ranking.{opens_at, pattern_low}
use Rattle.regions.specs.Values.{bounds_of, row_of}
use Rattle.automata.proofs.Laws.Rankings.{opens}
use borrow.Author.Rules.{rules}
use Rattle.rankings.proofs.ranking.open_pattern.Goals as goal

pub returns-clause-value : goal.returns-clause-value
returns-clause-value c = rw c.from.ensures at (c.pattern_where.ensures (opens (bounds_of c.args.clocks) (row_of c.args.clocks.count c.args.part).intervals) (λ z b h k. search (rules, opens_at)))

pub returns-clause-low : goal.returns-clause-low
returns-clause-low c = rw (returns-clause-value c) (pattern_low _ _ c.args.clocks.few)
