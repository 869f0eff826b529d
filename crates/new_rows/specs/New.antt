-- A next row of a row that a list has not yet. Assumes nothing.
use Rattle.std.specs.Prelude.{ℕ, ◌≡◌, true, false, List}
use Rattle.automata.specs.Row.{Row}
use Rattle.automata.specs.Closed.{Mem}
use Rattle.automata.specs.Checks.{every, has}
use Rattle.regions.specs.Values.{row_of}
use Rattle.regions.specs.declared.region.Region.{Region}
use Rattle.std.specs.declared.option.Option as option_code

-- of these next rows one that is not among the rows is found, as a region of n clocks; or none, where all are among them
abbrev pub NewOf : ℕ → List Row → List Row → option_code.Option Region → Type 0
NewOf n next rows option_code.TheVariants.None = every (has rows) next ≡ true
NewOf n next rows (option_code.TheVariants.Some v) = Mem (row_of n v) next × (has rows (row_of n v) ≡ false)
