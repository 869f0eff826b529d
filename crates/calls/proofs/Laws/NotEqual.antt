-- Comparison 5, ≠, computed: in fields, guards, updates, runs and lists. Assumes nothing.
use Prim.Native.Nat.{ℕ}
use mathlib.Core.Path.{◌≡◌, refl}
use mathlib.Core.List.{List, [], ◌∷◌}
use Rattle.automata.specs.Comparison.{answer, holds, some_answer}
use Rattle.automata.specs.Clocks.{allb, someb}
use Rattle.automata.specs.Wait.{evenb, entersb, some_evenb, growsb, leave_interval, leave_rank, left, arrive_interval, arrive_rank, arrived, wait}
use Rattle.automata.specs.Rows.{openb, heldb, clockb, isrowb, rows_at}
use Rattle.automata.specs.Successors.{guardsb, relation, fits, clock_fits, rank_fits, least, greedy, placedb, leadsb, wait_rows, edge_rows}
use Rattle.automata.specs.Next.{time_successors, edge_successors, next_rows}
use Rattle.table_files.specs.Answer.{accepted, refused}
use Rattle.table_files.specs.Reading.{carry, next_bytes, require, end, next_record, records}
use Rattle.table_files.specs.TableFile.{header, location, edge_record, table_file}
use Rattle.table_files.specs.Admission.{edges_bounded, admitted, admission}
use Rattle.calls.specs.RunFile.{step_record, run_file, steps_taken, run_checked, run_answer}
use Rattle.calls.specs.RegionFile.{row_width, row_record, region_file, ascending, none_final, none_open, list_checked, list_answer}
use Rattle.calls.specs.Follow.{followed, rows_followed, following, follow_answer, follow_buffer}
use Rattle.calls.specs.Program.{decimal, printed_line}
use Rattle.calls.proofs.Laws.Examples.{table, region_list, run_list, loop, upd, row, Gives}
use Rattle.calls.proofs.Laws.Samples.{step, run}

-- P4's run, but that edge 1 is taken after 1, at 3
abbrev later_run : List ℕ
later_run = run 2 (step 0 2 2 ∷ step 1 1 3 ∷ [])

-- one clock of bound 2, and an edge into a final location that asks for the clock to be at least 2, at most 2, and in this comparison to 2
abbrev pinned : ℕ → List ℕ
pinned comparison =
    0x54 ∷ 0x41 ∷ 0x01 ∷ 0x02 ∷ 0x00 ∷ 0x00 ∷ 0x01 ∷ 0x02
    ∷ 0x4C ∷ 0x4F ∷ 0x00
    ∷ 0x4C ∷ 0x4F ∷ 0x01
    ∷ 0x45 ∷ 0x44 ∷ 0x00 ∷ 0x01 ∷ 0x03 ∷ 0x00 ∷ 0x03 ∷ 0x02 ∷ 0x00 ∷ 0x01 ∷ 0x02 ∷ 0x00 ∷ comparison ∷ 0x02 ∷ 0x00 ∷ 0x00 ∷ 0x00 ∷ 0x00 ∷ 0x00
    ∷ []

-- all rows of its location 0
abbrev six_rows : List ℕ
six_rows =
    0x52 ∷ 0x57 ∷ 0x00 ∷ 0x00 ∷ 0x00
    ∷ 0x52 ∷ 0x57 ∷ 0x00 ∷ 0x01 ∷ 0x01
    ∷ 0x52 ∷ 0x57 ∷ 0x00 ∷ 0x02 ∷ 0x00
    ∷ 0x52 ∷ 0x57 ∷ 0x00 ∷ 0x03 ∷ 0x01
    ∷ 0x52 ∷ 0x57 ∷ 0x00 ∷ 0x04 ∷ 0x00
    ∷ 0x52 ∷ 0x57 ∷ 0x00 ∷ 0x05 ∷ 0x00
    ∷ []

-- its edge after 2
abbrev one_step : List ℕ
one_step = run 1 (step 0 2 2 ∷ [])

pub not_equal :
    -- 5 is a comparison, and the last; a keep has none
    ((admission (loop (2 ∷ []) (upd 1 5 0 0 2 ∷ [])) ≡ accepted 3)
    × (admission (loop (2 ∷ []) (upd 1 6 0 0 2 ∷ [])) ≡ refused 3 2)
    × (admission (loop (2 ∷ []) (upd 2 6 0 0 0 ∷ [])) ≡ refused 3 2)
    × (admission (table 6) ≡ refused 3 5)
    × (admission (loop (2 ∷ []) (upd 0 5 0 0 0 ∷ [])) ≡ refused 3 2))
    -- "The bound rules cover it too"
    × ((admission (loop (2 ∷ []) (upd 1 5 0 0 3 ∷ [])) ≡ refused 5 2) × (admission (loop (2 ∷ []) (upd 2 5 0 0xFF 0xFF ∷ [])) ≡ refused 6 2))
    -- P1's table is empty with < in its second guard; with ≠ its final location is entered past 2, and not at 2
    × ((printed_line (table 5) later_run ≡ "REACHED 2") × (printed_line (table 5) run_list ≡ "REFUSED 11 2"))
    -- a table that is empty with ≠, and with ≤ is not
    × ((printed_line (pinned 5) (region_list 6 six_rows) ≡ "EMPTY 6") × (printed_line (pinned 1) one_step ≡ "REACHED 1"))
    -- in an open interval, every part but the old one
    × Gives (loop (1 ∷ 1 ∷ []) (upd 2 5 1 0 0 ∷ upd 0 0 0 0 0 ∷ [])) (row (1 ∷ 1 ∷ []) (1 ∷ 1 ∷ [])) 0
    (row (0 ∷ 1 ∷ []) (0 ∷ 1 ∷ []) ∷ row (1 ∷ 1 ∷ []) (1 ∷ 2 ∷ []) ∷ row (1 ∷ 1 ∷ []) (2 ∷ 1 ∷ [])
    ∷ row (2 ∷ 1 ∷ []) (0 ∷ 1 ∷ []) ∷ row (3 ∷ 1 ∷ []) (0 ∷ 1 ∷ []) ∷ []) 25
    -- at the top any order can be had
    × Gives (loop (0 ∷ []) (upd 2 5 0 0 0 ∷ [])) (row (1 ∷ []) (0 ∷ [])) 0 (row (0 ∷ []) (0 ∷ []) ∷ row (1 ∷ []) (0 ∷ []) ∷ []) 50
    -- where y plus offset is below 0, every value
    × Gives (loop (0 ∷ 1 ∷ []) (upd 2 5 1 0xFF 0xFF ∷ upd 0 0 0 0 0 ∷ [])) (row (0 ∷ 0 ∷ []) (0 ∷ 0 ∷ [])) 0
    (row (0 ∷ 0 ∷ []) (0 ∷ 0 ∷ []) ∷ row (1 ∷ 0 ∷ []) (0 ∷ 0 ∷ []) ∷ []) 46
unfolding
    carry next_bytes next_record require end records holds answer wait left arrived leave_interval leave_rank arrive_interval arrive_rank evenb entersb
    some_answer relation fits clock_fits allb someb openb heldb clockb isrowb rows_at guardsb some_evenb growsb least rank_fits greedy placedb leadsb edge_rows wait_rows time_successors edge_successors
    header location edge_record table_file edges_bounded admitted admission
    step_record run_file steps_taken run_checked run_answer
    row_width row_record region_file ascending none_final next_rows none_open list_checked list_answer
    followed rows_followed following follow_answer follow_buffer decimal
not_equal =
    ((refl, refl, refl, refl, refl), (refl, refl), (refl, refl), (refl, refl), (refl, refl), (refl, refl), (refl, refl))
