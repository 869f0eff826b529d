use Rattle.kept_rows.proofs.Laws.Finished.{list_finished}
use native.Mathlib.Omega.{arith}
use Rattle.kept_rows.proofs.finishing.finish.Goals as goal

pub returns : goal.returns
returns c =
    list_finished c.args.n c.args.out.now _ _ c.args.count (omega arith) c.write_marks.ensures c.write_header.ensures
