use Rattle.calls.specs.RegionFile.{row_width}
use Rattle.listed_rows.specs.Listed.{listed_row, Splits}
use Rattle.making_turns.proofs.Laws.Ending.{overfull, refused_loops, short_before}
use Rattle.making_turns.proofs.Laws.Turning.{new_is_row, added_loops, adding_left, refusing_left}
use Rattle.regions.specs.Values.{row_of}
use Rattle.making_turns.proofs.turning.add.Goals as goal

pub returns-then-not-has_room-clause-loops : goal.returns-then-not-has_room-clause-loops
returns-then-not-has_room-clause-loops c =
    λ table before records ws S C. refused_loops c.args.s c.args.out.now c.refusing.ensures (rw c.at.ensures (overfull S c.args.row C (short_before c.args.s.count (row_width c.args.s.head.clocks.count) c.args.out.now before S.grown.same_length (c.has_room.ensures.no c.if-not-has_room.true)))) S.grown.same_length c.clear.ensures

pub returns-then-not-has_room-clause-falls : goal.returns-then-not-has_room-clause-falls
returns-then-not-has_room-clause-falls c =
    let (table₀, before₀, records₀, ws₀, S₀, C₀) = c.requires in
    rw c.refusing.ensures (refusing_left c.args.s c.at.result S₀.on)

pub insert-requires-clause-row : goal.insert-requires-clause-row
insert-requires-clause-row c =
    let (table₀, before₀, records₀, ws₀, S₀, C₀) = c.requires in
    new_is_row S₀ c.args.row C₀

pub returns-clause-loops : goal.returns-clause-loops
returns-clause-loops c =
    let (few, room) = c.has_room.ensures.yes c.if-not-has_room.false in
    let k = c.kept.ensures in
    let below : Splits (listed_row c.kept.result.clocks.count c.kept.result.bytes.now) c.kept.result.count (row_of c.kept.result.clocks.count c.args.row) c.rows_below-at.result = c.rows_below-at.ensures in
    λ table before records ws S C. rw c.adding.ensures (added_loops S c.args.row C few room _ (rw (k.clocks, k.bytes, k.count) at below) _ c.insert.ensures)

pub returns-clause-falls : goal.returns-clause-falls
returns-clause-falls c =
    let (few, room) = c.has_room.ensures.yes c.if-not-has_room.false in
    rw c.adding.ensures (adding_left c.args.s c.args.row few)
