use Rattle.automata.specs.Clocks.{each}
use Rattle.regions.specs.Values.{padded}
use Rattle.run_lists.specs.Step.{value_in}
use mathlib.Core.Path.{◌≡◌}
use Rattle.run_lists.proofs.step.new_values.Given as goal

abbrev pub invariant-loop-z : goal.invariant-loop-z
invariant-loop-z l = l.values ≡ padded (each l.z (value_in l.step))
