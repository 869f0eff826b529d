use Rattle.automata.specs.Closed.{Mem}
use Rattle.listed_rows.specs.RegionLists.{all_rows}
use Rattle.next_steps.proofs.Laws.Following.{Begins}
use Rattle.next_steps.proofs.Laws.Walking.{Past}
use Rattle.regions.specs.Values.{row_of}
use Rattle.regions.specs.declared.region.Region.{Region}
use Rattle.std.specs.Prelude.{Some}
use Rattle.table_files.specs.Admission.{table_of}
use mathlib.Core.Path.{◌≡◌}
use Rattle.next_steps.proofs.walking.walk_edges.Given as goal

abbrev pub invariant-loop-step : goal.invariant-loop-step
invariant-loop-step l = ((Past (table_of l.table.file.now) (all_rows l.list) l.fn.last.step l.step) × Begins l.table.file.now l.table.head l.step l.here) × ((v : Region) → l.from ≡ Some v → Mem (row_of l.list.clocks.count v) (all_rows l.list))
