use Rattle.table_records.proofs.Laws.Decode.{first_fits, first_sized, rest_fits, after_is}
use native.Mathlib.Omega.{arith}
use Rattle.table_records.proofs.decode.after_edge.Goals as goal

pub overflow_add-result : goal.overflow_add-result
overflow_add-result c =
    omega (arith, first_fits c.requires)

pub overflow_add-result-2 : goal.overflow_add-result-2
overflow_add-result-2 c =
    omega (arith, rest_fits c.requires c.part-bytes.ensures c.size_of.ensures)

pub returns : goal.returns
returns c =
    after_is c.requires c.part-bytes.ensures c.size_of.ensures

pub bounds-bytes-4 : goal.bounds-bytes-4
bounds-bytes-4 c =
    omega (arith, first_sized c.requires c.part-bytes.ensures)
