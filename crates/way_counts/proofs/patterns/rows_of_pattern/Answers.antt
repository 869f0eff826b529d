use Rattle.edge_walk.proofs.Laws.Ready.{ready_of}
use Rattle.way_counts.proofs.Laws.Loops.{loose_rankings, rows_fit}
use borrow.Author.Rules.{rules}
use native.Mathlib.Omega.{arith}
use Rattle.way_counts.proofs.patterns.rows_of_pattern.Goals as goal

pub overflow_mul-result : goal.overflow_mul-result
overflow_mul-result c =
    let low = rows_fit c.args.search (ready_of c.args.search) (search rules) c.args.kinds c.requires.counts c.requires.few_of_each c.args.location c.args.number _ _ (rw c.from-n.ensures at c.pattern_of-pattern.ensures.times) (loose_rankings c.args.search (ready_of c.args.search) (search rules) c.args.kinds c.requires.counts c.requires.few_of_each c.args.location c.args.number c.pattern_of-pattern.result.part c.pattern_of-pattern.ensures.location (rw c.from-n.ensures at c.pattern_of-pattern.ensures.intervals) _ _ (rw c.from-n.ensures at c.pattern_of-pattern.ensures.times) c.if-pattern-eq0.false (rw c.from-n.ensures at (c.is_loose.ensures c.if-is_loose.true)) c.rankings_of.ensures) in
    omega arith
