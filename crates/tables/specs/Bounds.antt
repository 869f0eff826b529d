-- Which bound rule an edge breaks, and the edges of a table by position. Assumes nothing.
use Rattle.std.specs.Prelude.{ℕ, ◌+◌, ◌*◌, ◌<◌, cond, ◌&&◌, List, [], ◌≡◌, Option, None, Some, Result, Ok, Err}
use Rattle.automata.specs.Clocks.{at}
use Rattle.automata.specs.Edge.{Edge}
use Rattle.automata.specs.Checks.{every}
use Rattle.table_files.specs.Admission.{guard_bounded, constant_bounded, clock_bounded, each_update}
use Rattle.table_files.specs.Reading.{Read, good, bad}
use Rattle.table_records.specs.Refusal.{number_of}
use Rattle.table_records.specs.declared.refusal.Fault.{Fault}
use Rattle.table_records.specs.declared.refusal.Fault.TheVariants.{ConstantAboveBound, ClockBreaksBound}
use Rattle.table_records.specs.declared.refusal.Refusal.{Refusal}
use Rattle.table_records.specs.Edge.{edge_at, after_edge, Stands}
use Rattle.table_records.specs.Skips.{skip, values, AllAt}

-- 5, else 6, if the edge breaks a rule
unfoldable pub broken_rule : List ℕ → Edge → Option Fault
broken_rule c e =
    cond (every (guard_bounded c) e.guards && each_update constant_bounded c e) (cond (each_update clock_bounded c e) None (Some ClockBreaksBound)) (Some ConstantAboveBound)

-- the rules are kept; or they are broken, with this fault's number at this place
abbrev pub RulesKept : Read (Unit {0}) → Result (Unit {0}) Refusal → Type 0
RulesKept r (Ok v) = r ≡ good tt []
RulesKept r (Err e) = r ≡ bad (number_of e.fault) e.place

-- the m edges whose records stand from p on
abbrev pub edges_at : ℕ → List ℕ → ℕ → ℕ → List Edge
edges_at n file m p = values (edge_at n file) (after_edge n file) m p

abbrev pub AllStand : ℕ → List ℕ → ℕ → ℕ → Type 0
AllStand n file m p = AllAt (Stands n file) (after_edge n file) m p

-- where edge i's record begins, in a table of n clocks and L locations
abbrev pub edge_start : ℕ → ℕ → List ℕ → ℕ → ℕ
edge_start n L file i = skip (after_edge n file) i (7 + n + 3 * L)

-- the list tells where the records of the first m edges begin
abbrev pub StartsOf : ℕ → ℕ → List ℕ → ℕ → List ℕ → Type 0
StartsOf n L file m starts = (i : ℕ) → i < m → at starts i ≡ edge_start n L file i
