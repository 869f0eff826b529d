use Rattle.std.proofs.Common.{rules}
use Rattle.checker.proofs.Laws.Verdict.{longer}
use Rattle.checker.proofs.verdict.judge.Goals as goal

pub returns-then-is_run-clause-first : goal.returns-then-is_run-clause-first
returns-then-is_run-clause-first c = longer c.args.table.now c.args.paper.now _ (search rules)

pub returns-clause-first : goal.returns-clause-first
returns-clause-first c = longer c.args.table.now c.args.paper.now _ (search rules)
