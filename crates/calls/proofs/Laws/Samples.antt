-- The order of refusals, computed: of two faults in a file the one that document 01 gives. Assumes nothing.
use Prim.Native.Nat.{ℕ}
use mathlib.Core.Path.{◌≡◌, refl}
use mathlib.Core.List.{List, [], ◌∷◌, ◌++◌}
use lib.ListN.{replicate}
use Rattle.automata.specs.Comparison.{answer, holds}
use Rattle.automata.specs.Clocks.{allb, someb}
use Rattle.automata.specs.Wait.{evenb, entersb, some_evenb, growsb, leave_interval, leave_rank, left, wait}
use Rattle.automata.specs.Rows.{openb, heldb, clockb, isrowb, gather, rows_at}
use Rattle.automata.specs.Successors.{guardsb, leadsb, wait_rows, edge_rows}
use Rattle.automata.specs.Next.{time_successors, edge_successors, next_rows}
use Rattle.table_files.specs.Answer.{refused}
use Rattle.table_files.specs.Reading.{carry, next_bytes, require, end, next_record, records}
use Rattle.table_files.specs.TableFile.{header, location, edge_record, table_file}
use Rattle.table_files.specs.Admission.{edges_bounded, admitted, admission}
use Rattle.calls.specs.RunFile.{step_record, run_file, steps_taken, run_checked, run_answer}
use Rattle.calls.specs.RegionFile.{row_width, row_record, region_file, ascending, none_final, none_open, list_checked, list_answer}
use Rattle.calls.specs.Follow.{followed, rows_followed, following, follow_answer}
use Rattle.calls.proofs.Laws.Examples.{table, seven_rows, last_row, region_list, run_list, upd}

-- two clocks of bounds 1 and 3, one location, and edges without guards that have these updates' bytes
abbrev loops : ℕ → List (List ℕ) → List ℕ
loops count edges =
    0x54 ∷ 0x41 ∷ 2 ∷ 1 ∷ 0 ∷ 0 ∷ count ∷ 1 ∷ 3 ∷ 0x4C ∷ 0x4F ∷ 0 ∷ gather (λ (updates : List ℕ). 0x45 ∷ 0x44 ∷ 0 ∷ 0 ∷ 0 ∷ updates) edges

-- the constant 2 exceeds the first bound; the second clock from the first breaks the bound rule
abbrev exceeds : List ℕ
exceeds = upd 1 2 0 0 2

abbrev breaks : List ℕ
breaks = upd 2 2 0 0 0

abbrev kept : List ℕ
kept = upd 0 0 0 0 0

-- one step: edge, delay, value
abbrev pub step : ℕ → ℕ → ℕ → List ℕ
step edge delay value = 0x53 ∷ 0x54 ∷ 0 ∷ edge ∷ 0 ∷ 0 ∷ 0 ∷ delay ∷ 0 ∷ 0 ∷ 0 ∷ value ∷ []

abbrev pub run : ℕ → List (List ℕ) → List ℕ
run steps records = 0x52 ∷ 0x4E ∷ 0 ∷ 1 ∷ 0 ∷ steps ∷ gather (λ (b : List ℕ). b) records

abbrev at_location : ℕ → ℕ → ℕ → List ℕ
at_location l j k = 0x52 ∷ 0x57 ∷ l ∷ j ∷ k ∷ []

record Samples : Type 0 where
  -- "a header's bounds become due only after its other fields pass"
  bounds_last : admission (0x54 ∷ 0x41 ∷ 5 ∷ 1 ∷ 0 ∷ 0 ∷ 0 ∷ []) ≡ refused 2 0
  bounds_due : admission (0x54 ∷ 0x41 ∷ 4 ∷ 1 ∷ 0 ∷ 0 ∷ 0 ∷ 1 ∷ 200 ∷ []) ≡ refused 1 0
  -- "an edge's guards and updates, all together, only after its guard count and the fields before that pass"
  edge_late : admission (loops 1 [] ++ (0x45 ∷ 0x44 ∷ 0 ∷ 1 ∷ 0 ∷ [])) ≡ refused 3 2
  edge_due : admission (loops 1 [] ++ (0x45 ∷ 0x44 ∷ 0 ∷ 0 ∷ 1 ∷ 9 ∷ [])) ≡ refused 1 2
  -- "keep (kind 0, other bytes 0)"
  keep_else : admission (loops 1 ((upd 0 1 0 0 0 ++ kept) ∷ [])) ≡ refused 3 2
  -- "edge by edge, 5 before 6"
  five_first : admission (loops 1 ((exceeds ++ breaks) ∷ [])) ≡ refused 5 2
  earlier_edge : admission (loops 2 ((kept ++ breaks) ∷ (exceeds ++ kept) ∷ [])) ≡ refused 6 2
  -- "Bytes follow the last table record (place: records read)", before 5
  bytes_first : admission (loops 1 ((exceeds ++ kept) ∷ []) ++ (0 ∷ [])) ≡ refused 4 3
  -- "Of .. 7 and 8, the one met first in that reading"; "A record's bytes must all be there before its fields are tested"
  number_first : run_answer (table 0) (run 2 (step 7 0 0 ∷ [])) ≡ refused 8 1
  bytes_missing : run_answer (table 0) (run 1 [] ++ (0x53 ∷ 0x54 ∷ 0 ∷ 7 ∷ [])) ≡ refused 7 1
  run_ends : run_answer (table 0) (run_list ++ (0 ∷ [])) ≡ refused 9 3
  -- "steps in order, 10 to 12 in each"
  earlier_step : run_answer (table 0) (run 2 (step 0 2 3 ∷ step 0 0 3 ∷ [])) ≡ refused 12 1
  ten_first : run_answer (table 0) (run 1 (step 1 2 9 ∷ [])) ≡ refused 10 1
  eleven_first : run_answer (table 0) (run 1 (step 0 1 9 ∷ [])) ≡ refused 11 1
  not_final : run_answer (table 0) (run 1 (step 0 2 2 ∷ [])) ≡ refused 13 1
  -- "The later checks follow in number order, each at its least place"
  fourteen_first : list_answer (table 0) (region_list 3 (at_location 2 0 0 ++ (at_location 0 0 0 ++ at_location 0 0 0))) ≡ refused 14 2
  fifteen_next : list_answer (table 0) (region_list 2 (at_location 0 1 1 ++ at_location 2 0 0)) ≡ refused 15 2
  sixteen_next : list_answer (table 0) (region_list 1 (at_location 0 1 1)) ≡ refused 16 0
  -- "the least row that lacks a next row": here the wait row, and no edge leads on
  seventeen_last : list_answer (table 0) (region_list 1 (at_location 0 0 0)) ≡ refused 17 1
  list_ends : list_answer (table 0) (region_list 7 (seven_rows ++ last_row)) ≡ refused 9 8
  -- "All calls check 1 to 6 first"; then 7 to 9, 18 and 19
  table_first : follow_answer [] [] 9 [] ≡ refused 1 0
  row_next : follow_answer (table 0) (at_location 3 0 0) 9 [] ≡ refused 8 0
  row_ends : follow_answer (table 0) (at_location 0 0 0 ++ (0 ∷ [])) 9 [] ≡ refused 9 1
  number_next : follow_answer (table 0) (at_location 0 0 0) 2 [] ≡ refused 18 0
  room_last : follow_answer (table 0) (at_location 0 0 0) 65535 (replicate 4 0) ≡ refused 19 0

samples : Samples
unfolding
    carry next_bytes require end next_record records
    header location edge_record table_file allb edges_bounded admitted admission
    answer holds step_record run_file steps_taken run_checked run_answer
    openb heldb clockb isrowb someb row_width row_record region_file ascending none_final next_rows none_open list_checked list_answer
    evenb some_evenb entersb growsb leave_interval leave_rank left wait wait_rows time_successors guardsb leadsb rows_at edge_rows edge_successors followed rows_followed following follow_answer
samples = record {
  bounds_last = refl;
  bounds_due = refl;
  edge_late = refl;
  edge_due = refl;
  keep_else = refl;
  five_first = refl;
  earlier_edge = refl;
  bytes_first = refl;
  number_first = refl;
  bytes_missing = refl;
  run_ends = refl;
  earlier_step = refl;
  ten_first = refl;
  eleven_first = refl;
  not_final = refl;
  fourteen_first = refl;
  fifteen_next = refl;
  sixteen_next = refl;
  seventeen_last = refl;
  list_ends = refl;
  table_first = refl;
  row_next = refl;
  row_ends = refl;
  number_next = refl;
  room_last = refl;
}
