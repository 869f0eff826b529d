use Rattle.listed_rows.proofs.Laws.Located.{starts}
use Rattle.listed_rows.proofs.region_list.RegionList.rows_before.Goals as goal

pub returns : goal.returns
returns c =
    starts c.args.self.now.clocks.count c.args.self.now.bytes.now c.args.self.now.count c.args.location _ c.args.self.now.clocks.few c.rows_below.ensures
