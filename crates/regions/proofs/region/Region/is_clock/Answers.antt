use Rattle.regions.proofs.Laws.RegionTests.{clock_is}
use borrow.Author.Rules.{rules}
use borrow.Author.Tests.{tests}
use Rattle.regions.proofs.region.Region.is_clock.Goals as goal

pub returns-then-is_rank : goal.returns-then-is_rank
returns-then-is_rank c = search (rules, tests, clock_is c.args.clocks c.args.self c.args.z c.requires.z_lt_count)

pub returns-else-is_rank : goal.returns-else-is_rank
returns-else-is_rank c = search (rules, tests, clock_is c.args.clocks c.args.self c.args.z c.requires.z_lt_count)
