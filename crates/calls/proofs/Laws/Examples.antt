-- The examples P1 to P10, as one lemma about the definitions. Assumes nothing.
use Prim.Native.Nat.{ℕ}
use mathlib.Core.Path.{◌≡◌, refl}
use mathlib.Core.List.{List, [], ◌∷◌, ◌++◌}
use lib.ListN.{length, replicate}
use Rattle.automata.specs.Comparison.{answer, holds, some_answer}
use Rattle.automata.specs.Clocks.{allb, someb}
use Rattle.automata.specs.Wait.{evenb, entersb, some_evenb, growsb, leave_interval, leave_rank, left, arrive_interval, arrive_rank, arrived, wait}
use Rattle.automata.specs.Rows.{openb, heldb, clockb, isrowb, gather, rows_at}
use Rattle.automata.specs.Successors.{guardsb, relation, fits, clock_fits, rank_fits, least, greedy, placedb, leadsb, wait_rows, edge_rows}
use Rattle.automata.specs.Next.{time_successors, edge_successors, next_rows}
use Rattle.table_files.specs.Answer.{accepted, refused}
use Rattle.table_files.specs.Reading.{carry, next_bytes, require, end, next_record, records}
use Rattle.table_files.specs.TableFile.{header, location, edge_record, table_file}
use Rattle.table_files.specs.Admission.{edges_bounded, admitted, admission}
use Rattle.calls.specs.RunFile.{step_record, run_file, steps_taken, run_checked, run_answer}
use Rattle.calls.specs.RegionFile.{row_width, row_record, region_file, ascending, none_final, none_open, list_checked, list_answer}
use Rattle.calls.specs.Follow.{followed, rows_followed, following, follow_answer, follow_buffer}
use Rattle.calls.specs.Program.{decimal, printed_line}

-- P1's table; comparison is the second guard's, < there
abbrev pub table : ℕ → List ℕ
table comparison =
    0x54 ∷ 0x41 ∷ 0x01 ∷ 0x03 ∷ 0x00 ∷ 0x00 ∷ 0x02 ∷ 0x02
    ∷ 0x4C ∷ 0x4F ∷ 0x00
    ∷ 0x4C ∷ 0x4F ∷ 0x00
    ∷ 0x4C ∷ 0x4F ∷ 0x01
    ∷ 0x45 ∷ 0x44 ∷ 0x00 ∷ 0x01 ∷ 0x01 ∷ 0x00 ∷ 0x03 ∷ 0x02 ∷ 0x00 ∷ 0x00 ∷ 0x00 ∷ 0x00 ∷ 0x00
    ∷ 0x45 ∷ 0x44 ∷ 0x01 ∷ 0x02 ∷ 0x01 ∷ 0x00 ∷ comparison ∷ 0x02 ∷ 0x00 ∷ 0x00 ∷ 0x00 ∷ 0x00 ∷ 0x00
    ∷ []

-- P1's rows but the last; the last
abbrev pub seven_rows : List ℕ
seven_rows =
    0x52 ∷ 0x57 ∷ 0x00 ∷ 0x00 ∷ 0x00
    ∷ 0x52 ∷ 0x57 ∷ 0x00 ∷ 0x01 ∷ 0x01
    ∷ 0x52 ∷ 0x57 ∷ 0x00 ∷ 0x02 ∷ 0x00
    ∷ 0x52 ∷ 0x57 ∷ 0x00 ∷ 0x03 ∷ 0x01
    ∷ 0x52 ∷ 0x57 ∷ 0x00 ∷ 0x04 ∷ 0x00
    ∷ 0x52 ∷ 0x57 ∷ 0x00 ∷ 0x05 ∷ 0x00
    ∷ 0x52 ∷ 0x57 ∷ 0x01 ∷ 0x04 ∷ 0x00
    ∷ []

abbrev pub last_row : List ℕ
last_row = 0x52 ∷ 0x57 ∷ 0x01 ∷ 0x05 ∷ 0x00 ∷ []

abbrev pub region_list : ℕ → List ℕ → List ℕ
region_list count rows = 0x52 ∷ 0x4C ∷ 0x00 ∷ count ∷ rows

-- P4's run: scale 1, edge 0 after 2, edge 1 after 0, values 2
abbrev pub run_list : List ℕ
run_list =
    0x52 ∷ 0x4E ∷ 0x00 ∷ 0x01 ∷ 0x00 ∷ 0x02
    ∷ 0x53 ∷ 0x54 ∷ 0x00 ∷ 0x00 ∷ 0x00 ∷ 0x00 ∷ 0x00 ∷ 0x02 ∷ 0x00 ∷ 0x00 ∷ 0x00 ∷ 0x02
    ∷ 0x53 ∷ 0x54 ∷ 0x00 ∷ 0x01 ∷ 0x00 ∷ 0x00 ∷ 0x00 ∷ 0x00 ∷ 0x00 ∷ 0x00 ∷ 0x00 ∷ 0x02
    ∷ []

-- a table of one location and one edge without guards, with these bounds and these updates' bytes
abbrev pub loop : List ℕ → List (List ℕ) → List ℕ
loop bounds updates =
    0x54 ∷ 0x41 ∷ length bounds ∷ 1 ∷ 0 ∷ 0 ∷ 1
    ∷ (bounds ++ (0x4C ∷ 0x4F ∷ 0 ∷ 0x45 ∷ 0x44 ∷ 0 ∷ 0 ∷ 0 ∷ gather (λ (u : List ℕ). u) updates))

-- an update's five bytes: kind, comparison, clock y, offset
abbrev pub upd : ℕ → ℕ → ℕ → ℕ → ℕ → List ℕ
upd kind comparison y high low = kind ∷ comparison ∷ y ∷ high ∷ low ∷ []

-- a row record of location 0
abbrev pub row : List ℕ → List ℕ → List ℕ
row intervals ranks = 0x52 ∷ 0x57 ∷ 0 ∷ (intervals ++ ranks)

-- following a row in a buffer of 60 bytes gives these rows, and leaves the bytes after them
abbrev pub Gives : List ℕ → List ℕ → ℕ → List (List ℕ) → ℕ → Type 0
Gives t r number rows after =
    (follow_answer t r number (replicate 60 7) ≡ accepted (length rows))
    × (follow_buffer t r number (replicate 60 7) ≡ gather (λ (x : List ℕ). x) rows ++ replicate after 7)

pub examples :
    -- P1
    ((admission (table 0) ≡ accepted 6)
    × (list_answer (table 0) (region_list 8 (seven_rows ++ last_row)) ≡ accepted 8)
    × (printed_line (table 0) (region_list 8 (seven_rows ++ last_row)) ≡ "EMPTY 8"))
    -- P2
    × ((list_answer (table 0) (region_list 7 seven_rows) ≡ refused 17 6) × (printed_line (table 0) (region_list 7 seven_rows) ≡ "REFUSED 17 6"))
    -- P3
    × (list_answer (table 0) (region_list 0 []) ≡ refused 16 0)
    -- P4
    × ((printed_line (table 0) run_list ≡ "REFUSED 11 2") × (printed_line (table 1) run_list ≡ "REACHED 2"))
    -- P5
    × Gives (loop (3 ∷ 2 ∷ []) (upd 2 4 1 0 2 ∷ upd 0 0 0 0 0 ∷ [])) (row (3 ∷ 1 ∷ []) (1 ∷ 2 ∷ [])) 0
    (row (5 ∷ 1 ∷ []) (2 ∷ 1 ∷ []) ∷ row (6 ∷ 1 ∷ []) (0 ∷ 1 ∷ []) ∷ row (7 ∷ 1 ∷ []) (0 ∷ 1 ∷ []) ∷ []) 39
    -- P6
    × Gives (loop (3 ∷ 2 ∷ []) (upd 2 4 1 0 2 ∷ upd 0 0 0 0 0 ∷ [])) (row (3 ∷ 1 ∷ []) (1 ∷ 2 ∷ [])) 65535
    (row (3 ∷ 2 ∷ []) (1 ∷ 0 ∷ []) ∷ []) 53
    -- P7
    × Gives (loop (2 ∷ 2 ∷ []) (upd 2 2 1 0 0 ∷ upd 2 2 0 0 0 ∷ [])) (row (1 ∷ 3 ∷ []) (1 ∷ 2 ∷ [])) 0
    (row (3 ∷ 1 ∷ []) (2 ∷ 1 ∷ []) ∷ []) 53
    -- P8
    × Gives (loop (1 ∷ 1 ∷ 1 ∷ []) (upd 2 4 1 0 0 ∷ upd 1 2 0 0 0 ∷ upd 2 0 1 0 0 ∷ [])) (row (1 ∷ 1 ∷ 1 ∷ []) (1 ∷ 1 ∷ 1 ∷ [])) 0
    (row (1 ∷ 0 ∷ 0 ∷ []) (1 ∷ 0 ∷ 0 ∷ []) ∷ row (1 ∷ 0 ∷ 1 ∷ []) (2 ∷ 0 ∷ 1 ∷ [])
    ∷ row (2 ∷ 0 ∷ 0 ∷ []) (0 ∷ 0 ∷ 0 ∷ []) ∷ row (2 ∷ 0 ∷ 1 ∷ []) (0 ∷ 0 ∷ 1 ∷ [])
    ∷ row (3 ∷ 0 ∷ 0 ∷ []) (0 ∷ 0 ∷ 0 ∷ []) ∷ row (3 ∷ 0 ∷ 1 ∷ []) (0 ∷ 0 ∷ 1 ∷ []) ∷ []) 6
    -- P9
    × (admission (loop (2 ∷ []) (upd 2 2 0 0xFF 0xFF ∷ [])) ≡ refused 6 2)
    -- P10
    × Gives (loop (1 ∷ []) (upd 2 2 0 0 1 ∷ [])) (row (1 ∷ []) (1 ∷ [])) 0 (row (3 ∷ []) (0 ∷ []) ∷ []) 55
unfolding
    carry next_bytes next_record require end records holds answer wait left arrived leave_interval leave_rank arrive_interval arrive_rank evenb entersb
    some_answer relation fits clock_fits allb someb openb heldb clockb isrowb rows_at guardsb some_evenb growsb least rank_fits greedy placedb leadsb edge_rows wait_rows time_successors edge_successors
    header location edge_record table_file edges_bounded admitted admission
    step_record run_file steps_taken run_checked run_answer
    row_width row_record region_file ascending none_final next_rows none_open list_checked list_answer
    followed rows_followed following follow_answer follow_buffer decimal
examples =
    ((refl, refl, refl), (refl, refl), refl, (refl, refl), (refl, refl), (refl, refl), (refl, refl), (refl, refl), refl, (refl, refl))
