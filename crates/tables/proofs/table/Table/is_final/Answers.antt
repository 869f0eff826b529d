use Rattle.tables.proofs.Laws.Tables.{describes_of}
use Rattle.tables.proofs.Laws.Described.{location_sized, location_says}
use native.Mathlib.Omega.{arith}
use Rattle.tables.proofs.table.Table.is_final.Goals as goal

pub bounds-bytes-2 : goal.bounds-bytes-2
bounds-bytes-2 c =
    omega (arith, location_sized c.args.self.now.file.now _ (describes_of c.args.self.now) c.args.location c.requires.location_lt_locations c.part-bytes.ensures)

pub returns : goal.returns
returns c =
    location_says c.args.self.now.file.now _ (describes_of c.args.self.now) c.args.location c.requires.location_lt_locations c.part-bytes.ensures
