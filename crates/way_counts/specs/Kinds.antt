-- The kinds of a clock's new intervals, and how many there are of each. Assumes nothing.
use Rattle.std.specs.Prelude.{ℕ, zero, suc, ◌+◌, ◌%◌, cond, ◌&&◌, eqb, leb, ltb}
use Rattle.automata.specs.Clocks.{one_if}
use Rattle.automata.specs.Successors.{Rel, fixed, free, parts}
use Rattle.regions.specs.Move.{rel_of, permitsb}
use Rattle.regions.specs.declared.clock_move.Move.{Move}
use Rattle.way_counts.specs.declared.kinds.Kind as code
use Rattle.std.specs.declared.option.Option.{Option}
use Rattle.std.specs.declared.option.Option.TheVariants.{None, Some}

-- the kind of an open interval that is permitted: 1 where its order is that of the fractional parts, else 2
abbrev pub open_kind : Rel → ℕ
open_kind (fixed o) = 2
open_kind free = 2
open_kind (parts q) = 1

-- the kind of interval j under a move: 0 where it is not open, and 3 where it is not permitted, or above the top
unfoldable pub kind : Move → ℕ → ℕ
kind m j = cond (leb j m.top && permitsb m j) (cond (ltb j m.top && eqb (j % 2) 1) (open_kind (rel_of m j)) 0) 3

-- the kinds as numbers, as the code's values have them; 3 for none
abbrev pub number : code.Kind → ℕ
number code.TheVariants.Shut = 0
number code.TheVariants.Parted = 1
number code.TheVariants.Loose = 2

abbrev pub number_found : Option code.Kind → ℕ
number_found None = 3
number_found (Some k) = number k

-- how many of the intervals before i are of kind k
unfoldable pub of_kind : Move → ℕ → ℕ → ℕ
of_kind m k zero = 0
of_kind m k (suc i) = of_kind m k i + one_if (eqb (kind m i) k)
