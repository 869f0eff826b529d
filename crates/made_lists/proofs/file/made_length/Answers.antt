use Rattle.made_lists.proofs.Laws.Length.{list_long, list_none}
use Rattle.tables.specs.Values.{answer_of}
use mathlib.Core.Path.{ap}
use Rattle.made_lists.proofs.file.made_length.Goals as goal

pub returns-in-Ok : goal.returns-in-Ok
returns-in-Ok c =
    list_long c.args.table.now _ _ _ (ap answer_of c.in-Ok.is) c.list_length.ensures

pub returns-in-Err : goal.returns-in-Err
returns-in-Err c =
    list_none c.args.table.now _ _ _ (ap answer_of c.in-Err.is)
