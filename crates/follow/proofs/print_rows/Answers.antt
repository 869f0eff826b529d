use Rattle.std.proofs.Common.{arith}
use Rattle.calls.proofs.Laws.Rows.{row_width_is}
use Rattle.follow.proofs.print_rows.Goals as goal

pub chunks_exact-requires : goal.chunks_exact-requires
chunks_exact-requires g c = omega (arith, row_width_is c.args.n, c.row_width.ensures)

pub loop-row-init-derived : goal.loop-row-init-derived
loop-row-init-derived g c = grind (arith, row_width_is c.args.n)

pub slice_bounds-print_numbers-end : goal.slice_bounds-print_numbers-end
slice_bounds-print_numbers-end g c = omega (arith, row_width_is c.args.n, c.in-Some.ensures.steps.0.1.1, c.loop-row.invariant)

pub slice_bounds-print_numbers-count-in-loop-row : goal.slice_bounds-print_numbers-count-in-loop-row
slice_bounds-print_numbers-count-in-loop-row g c = omega (arith, row_width_is c.args.n, c.in-Some.ensures.steps.0.1.1, c.loop-row.invariant)

pub slice_bounds-print_numbers-start-in-loop-row : goal.slice_bounds-print_numbers-start-in-loop-row
slice_bounds-print_numbers-start-in-loop-row g c = omega (arith, row_width_is c.args.n, c.in-Some.ensures.steps.0.1.1, c.loop-row.invariant)
