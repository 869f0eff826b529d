use Rattle.run_lists.proofs.Laws.OneStep.{product_small}
use mathlib.Core.Path.{refl}
use native.Mathlib.Omega.{arith}
use Rattle.run_lists.proofs.step.counts.Goals as goal

pub overflow_mul-result : goal.overflow_mul-result
overflow_mul-result c =
    omega (arith, product_small c.args.constant c.args.scale (omega arith) (omega arith))

pub returns-clause-value : goal.returns-clause-value
returns-clause-value c =
    refl

pub returns-clause-small : goal.returns-clause-small
returns-clause-small c =
    product_small c.args.constant c.args.scale (omega arith) (omega arith)
