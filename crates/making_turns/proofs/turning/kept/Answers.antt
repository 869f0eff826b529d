use Rattle.listed_rows.proofs.Laws.RegionLists.{rows_pass, rise_passes}
use Rattle.making_turns.proofs.turning.kept.Goals as goal

pub invariant_of-result : goal.invariant_of-result
invariant_of-result c =
    let (_, _, _, _, S) = c.requires in
    let L = S.grown.listed in
    record {
      sized = L.sized;
      low = L.low;
      short = L.short;
      room = L.room;
      are_rows = rows_pass c.args.s.head.clocks c.args.out.now c.args.s.count L;
      rise = rise_passes c.args.s.head.clocks c.args.out.now c.args.s.count S.grown.ascends;
    }
