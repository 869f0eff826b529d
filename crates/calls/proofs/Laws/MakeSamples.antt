-- Lists made from tables, computed: the rows of P1, what is refused first, and what stands in the buffer then. Assumes nothing.
use Prim.Native.Nat.{ℕ}
use mathlib.Core.Path.{◌≡◌, refl}
use mathlib.Core.List.{List, [], ◌∷◌, ◌++◌}
use lib.ListN.{replicate}
use Rattle.automata.specs.Comparison.{answer, holds, some_answer}
use Rattle.automata.specs.Clocks.{allb, someb}
use Rattle.automata.specs.Wait.{evenb, entersb, some_evenb, growsb, leave_interval, leave_rank, left, arrive_interval, arrive_rank, arrived, wait}
use Rattle.automata.specs.Rows.{openb, heldb, clockb, isrowb, rows_at}
use Rattle.automata.specs.Successors.{guardsb, relation, fits, clock_fits, rank_fits, least, greedy, placedb, leadsb, wait_rows, edge_rows}
use Rattle.automata.specs.Next.{time_successors, edge_successors, next_rows}
use Rattle.automata.specs.Kept.{keep, grown, grown_by, kept, enters}
use Rattle.table_files.specs.Answer.{Answer, accepted, refused}
use Rattle.table_files.specs.Reading.{carry, next_bytes, require, end, next_record, records}
use Rattle.table_files.specs.TableFile.{header, location, edge_record, table_file}
use Rattle.table_files.specs.Admission.{edges_bounded, admitted}
use Rattle.calls.specs.Making.{rows_made, making, make_answer, make_buffer}
use Rattle.calls.proofs.Laws.Examples.{table, seven_rows, last_row, region_list}

-- with so many records, a buffer of so many sevens gives this answer, and holds these bytes then
abbrev Makes : List ℕ → ℕ → ℕ → Answer → List ℕ → Type 0
Makes t records room answer after = (make_answer t room records ≡ answer) × (make_buffer t records (replicate room 7) ≡ after)

-- one clock of bound 0; the locations 0, 1 and 2 with these flags, and edges from 0 to 1 and from 1 to 2 without guards that keep the clock
abbrev chain : ℕ → ℕ → ℕ → List ℕ
chain first second third =
    0x54 ∷ 0x41 ∷ 1 ∷ 3 ∷ 0 ∷ 0 ∷ 2 ∷ 0
    ∷ 0x4C ∷ 0x4F ∷ first
    ∷ 0x4C ∷ 0x4F ∷ second
    ∷ 0x4C ∷ 0x4F ∷ third
    ∷ 0x45 ∷ 0x44 ∷ 0 ∷ 1 ∷ 0 ∷ 0 ∷ 0 ∷ 0 ∷ 0 ∷ 0
    ∷ 0x45 ∷ 0x44 ∷ 1 ∷ 2 ∷ 0 ∷ 0 ∷ 0 ∷ 0 ∷ 0 ∷ 0
    ∷ []

record MakeSamples : Type 0 where
  -- P1's list is made from its table: "header and ascending rows; later buffer bytes stay"
  eight : Makes (table 0) 4096 60 (accepted 8) (region_list 8 (seven_rows ++ last_row) ++ replicate 16 7)
  just_room : Makes (table 0) 4096 44 (accepted 8) (region_list 8 (seven_rows ++ last_row))
  -- "20 when .. the buffer can't hold the finished list or the waiting list is too short"; "After a refusal here the buffer is all zero"
  no_room : Makes (table 0) 4096 43 (refused 20 0) (replicate 43 0)
  no_records : Makes (table 0) 4095 60 (refused 20 0) (replicate 60 0)
  -- "21 when that isn't so and a final location was entered"
  entered : Makes (table 1) 4096 44 (refused 21 0) (replicate 44 0)
  twenty_first : Makes (table 1) 4096 43 (refused 20 0) (replicate 43 0)
  -- "Rows in final locations are noted but neither kept nor followed": two rows are kept of one location, four of two, and six of three
  final_second : Makes (chain 0 1 0) 4096 14 (refused 21 0) (replicate 14 0)
  short_second : Makes (chain 0 1 0) 4096 13 (refused 20 0) (replicate 13 0)
  final_third : Makes (chain 0 0 1) 4096 24 (refused 21 0) (replicate 24 0)
  short_third : Makes (chain 0 0 1) 4096 23 (refused 20 0) (replicate 23 0)
  none_final : make_answer (chain 0 0 0) 34 4096 ≡ accepted 6
  -- the initial row itself: no row is kept
  final_first : Makes (chain 1 0 0) 4096 4 (refused 21 0) (replicate 4 0)
  short_first : Makes (chain 1 0 0) 4096 3 (refused 20 0) (replicate 3 0)
  -- ".. after the table's own refusals"
  table_first : Makes [] 0 3 (refused 1 0) (replicate 3 0)

make_samples : MakeSamples
unfolding
    carry next_bytes next_record require end records holds answer wait left arrived leave_interval leave_rank arrive_interval arrive_rank evenb entersb
    some_answer relation fits clock_fits allb someb openb heldb clockb isrowb rows_at guardsb some_evenb growsb least rank_fits greedy placedb leadsb
    edge_rows wait_rows time_successors edge_successors next_rows header location edge_record table_file edges_bounded admitted
    keep grown grown_by kept enters rows_made making make_answer make_buffer
make_samples = record {
  eight = (refl, refl);
  just_room = (refl, refl);
  no_room = (refl, refl);
  no_records = (refl, refl);
  entered = (refl, refl);
  twenty_first = (refl, refl);
  final_second = (refl, refl);
  short_second = (refl, refl);
  final_third = (refl, refl);
  short_third = (refl, refl);
  none_final = refl;
  final_first = (refl, refl);
  short_first = (refl, refl);
  table_first = (refl, refl);
}
