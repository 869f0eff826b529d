use Rattle.ranked_ways.specs.Allowed.{parted_at}
use borrow.Author.Rules.{rules}
use Rattle.ranked_ways.proofs.ranked_way.parted_pattern.Goals as goal

pub returns : goal.returns
returns c = c.pattern_where.ensures (parted_at c.args.moves.each c.args.part) (λ z b h k. search rules)
