use Rattle.table_records.proofs.Laws.Decode.{first_fits, first_sized, few_guards, rest_sized, edge_is}
use native.Mathlib.Omega.{arith}
use Rattle.table_records.proofs.decode.edge_from.Goals as goal

pub bounds-bytes-4 : goal.bounds-bytes-4
bounds-bytes-4 c =
    omega (arith, first_sized c.requires.stands c.part-bytes.ensures)

pub overflow_add-at : goal.overflow_add-at
overflow_add-at c =
    omega (arith, first_fits c.requires.stands)

pub guards_from-requires-clause-count_in_bounds : goal.guards_from-requires-clause-count_in_bounds
guards_from-requires-clause-count_in_bounds c =
    omega (arith, rest_sized c.requires.stands c.part-bytes.ensures c.size_of.ensures c.part-rest.ensures)

pub updates_from-requires-clause-clocks_in_bounds : goal.updates_from-requires-clause-clocks_in_bounds
updates_from-requires-clause-clocks_in_bounds c =
    omega (arith, rest_sized c.requires.stands c.part-bytes.ensures c.size_of.ensures c.part-rest.ensures)

pub bounds-bytes-2 : goal.bounds-bytes-2
bounds-bytes-2 c =
    omega (arith, first_sized c.requires.stands c.part-bytes.ensures)

pub bounds-bytes-3 : goal.bounds-bytes-3
bounds-bytes-3 c =
    omega (arith, first_sized c.requires.stands c.part-bytes.ensures)

pub returns-clause-means : goal.returns-clause-means
returns-clause-means c =
    edge_is c.requires.stands c.part-bytes.ensures c.size_of.ensures c.part-rest.ensures _ _ c.guards_from.ensures c.updates_from.ensures
