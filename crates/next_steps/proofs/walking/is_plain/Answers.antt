use Rattle.tables.proofs.Laws.Tables.{describes_of}
use Rattle.next_steps.proofs.Laws.Asking.{target_in}
use Rattle.next_steps.proofs.walking.is_plain.Goals as goal

pub is_final-requires : goal.is_final-requires
is_final-requires c =
    let (j, l, m) = c.requires.by_index in
    record { location_lt_locations = target_in c.args.table.now.file.now c.args.table.now.head (describes_of c.args.table.now) j l c.args.e m }
