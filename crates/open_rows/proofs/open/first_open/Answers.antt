use Prim.Native.Nat.{ℕ}
use Rattle.automata.specs.Successors.{wait_rows}
use Rattle.open_rows.proofs.Laws.Leading.{first_of_both}
use Rattle.open_rows.specs.Leading.{NextIn}
use Rattle.regions.specs.Values.{bounds_of}
use Rattle.regions.specs.declared.clocks.Clocks.{Clocks}
use Rattle.table_files.specs.Admission.{table_of}
use Rattle.walked_rows.specs.Open.{FirstOpen}
use mathlib.Core.List.{List}
use mathlib.Core.Path.{ap, subst, ◌∙◌}
use Rattle.open_rows.proofs.open.first_open.Goals as goal

pub returns : goal.returns
returns c =
    let l = c.args.list.now in
    first_of_both (table_of c.args.table.now.file.now) _ _ _ _ (subst (λ (b : List ℕ). FirstOpen (NextIn l (wait_rows b)) 0 l.count c.first_by_waiting-end.result) (ap (λ (k : Clocks). bounds_of k) c.requires.clocks ∙ c.args.table.now.bounds) c.first_by_waiting-end.ensures) _ c.first_by_edges.ensures
