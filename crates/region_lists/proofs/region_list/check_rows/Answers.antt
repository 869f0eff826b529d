use Rattle.tables.proofs.Laws.Tables.{describes_of}
use Rattle.region_lists.proofs.Laws.RegionCheck.{list_listed, list_located, rows_ascend, refused_at, refused_14, refused_15, refused_16, refused_17, all_pass}
use Rattle.listed_rows.proofs.Laws.RegionLists.{rows_pass, rise_passes}
use Rattle.std.proofs.lemmas.Result.{err_from_is_err_and}
use mathlib.Core.Path.{refl}
use Rattle.region_lists.proofs.region_list.check_rows.Goals as goal

pub ascending-requires : goal.ascending-requires
ascending-requires c =
    list_listed c.args.table.now.file.now c.args.list.now c.args.table.now.head c.args.count (describes_of c.args.table.now) c.requires.told c.requires.list_len

pub returns-in_err-ascending : goal.returns-in_err-ascending
returns-in_err-ascending c =
    let p = err_from_is_err_and c.from_residual.result c.from_residual.ensures.1 in
    rw (p.1, p.2) (refused_14 c.args.table.now.file.now c.args.list.now c.args.table.now.head c.args.count (describes_of c.args.table.now) c.requires.told c.requires.list_len c.in_err-ascending.ensures)

pub none_final-requires-clause-listed : goal.none_final-requires-clause-listed
none_final-requires-clause-listed c =
    list_listed c.args.table.now.file.now c.args.list.now c.args.table.now.head c.args.count (describes_of c.args.table.now) c.requires.told c.requires.list_len

pub none_final-requires-clause-by_index : goal.none_final-requires-clause-by_index
none_final-requires-clause-by_index c =
    list_located c.args.table.now.file.now c.args.list.now c.args.table.now.head c.args.count (describes_of c.args.table.now) c.requires.told c.requires.list_len

pub returns-in_err-none_final : goal.returns-in_err-none_final
returns-in_err-none_final c =
    let p = err_from_is_err_and c.from_residual-in_err-none_final.result c.from_residual-in_err-none_final.ensures.1 in
    rw (p.1, p.2) (refused_15 c.args.table.now.file.now c.args.list.now c.args.table.now.head c.args.count (describes_of c.args.table.now) c.requires.told c.requires.list_len c.in_ok-ascending.ensures c.in_err-none_final.ensures)

pub invariant_of-listed : goal.invariant_of-listed
invariant_of-listed c =
    let L = list_listed c.args.table.now.file.now c.args.list.now c.args.table.now.head c.args.count (describes_of c.args.table.now) c.requires.told c.requires.list_len in
    record {
      sized = L.sized;
      low = L.low;
      short = L.short;
      room = L.room;
      are_rows = rows_pass c.args.table.now.head.clocks c.args.list.now c.args.count L;
      rise = rise_passes c.args.table.now.head.clocks c.args.list.now c.args.count (rows_ascend c.args.table.now.file.now c.args.list.now c.args.table.now.head c.args.count (describes_of c.args.table.now) c.requires.told c.requires.list_len c.in_ok-ascending.ensures);
    }

pub returns-then-not-has : goal.returns-then-not-has
returns-then-not-has c =
    refused_at c.at.ensures (refused_16 c.args.table.now.file.now c.args.list.now c.args.table.now.head c.args.count (describes_of c.args.table.now) c.requires.told c.requires.list_len c.in_ok-ascending.ensures c.in_ok-none_final.ensures c.initial_row.result (λ file D. c.initial_row.ensures file c.args.table.now.head D refl) c.has.result c.has.ensures c.if-not-has.true)

pub returns-then-first-rows : goal.returns-then-first-rows
returns-then-first-rows c =
    refused_at c.at-then-first-rows.ensures (refused_17 c.args.table.now.file.now c.args.list.now c.args.table.now.head c.args.count (describes_of c.args.table.now) c.requires.told c.requires.list_len c.in_ok-ascending.ensures c.in_ok-none_final.ensures c.initial_row.result (λ file D. c.initial_row.ensures file c.args.table.now.head D refl) c.has.result c.has.ensures c.if-not-has.false c.first_open-first.result c.first_open-first.ensures c.if-first-rows.true)

pub returns : goal.returns
returns c =
    all_pass c.args.table.now.file.now c.args.list.now c.args.table.now.head c.args.count (describes_of c.args.table.now) c.requires.told c.requires.list_len c.in_ok-ascending.ensures c.in_ok-none_final.ensures c.initial_row.result (λ file D. c.initial_row.ensures file c.args.table.now.head D refl) c.has.result c.has.ensures c.if-not-has.false c.first_open-first.result c.first_open-first.ensures c.if-first-rows.false
