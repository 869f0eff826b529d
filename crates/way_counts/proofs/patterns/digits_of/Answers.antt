use Rattle.way_counts.proofs.Laws.Loops.{digits_are, digits_low}
use Rattle.way_counts.proofs.patterns.digits_of.Goals as goal

pub returns-clause-digits : goal.returns-clause-digits
returns-clause-digits c = digits_are c.args.number

pub returns-clause-low : goal.returns-clause-low
returns-clause-low c = digits_low c.args.number
