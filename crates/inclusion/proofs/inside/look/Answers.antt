use Rattle.automata.specs.Checks.{every, has}
use Rattle.inclusion.proofs.Laws.RankedInside.{ranked_listed}
use Rattle.listed_rows.specs.RegionLists.{all_rows}
use Rattle.ranked_ways.proofs.Laws.Chosen.{chosen_none, chosen_all}
use Rattle.listed_rows.specs.Ranked.{AllRanked}
use Rattle.regions.specs.Values.{bounds_of, row_of}
use Rattle.regions.specs.declared.clocks.Clocks.{Clocks}
use mathlib.Core.Path.{refl, sym, ap, subst, ◌∙◌}
use Rattle.inclusion.proofs.inside.look.Goals as goal

pub returns-then-stand-search-clause-listed : goal.returns-then-stand-search-clause-listed
returns-then-stand-search-clause-listed c =
    sym (ap (every (has (all_rows c.args.list.now))) (chosen_none c.args.search c.args.stand c.if-stand-search.true))

pub returns-in-Ok-clause-listed : goal.returns-in-Ok-clause-listed
returns-in-Ok-clause-listed c =
    ranked_listed c.args.search c.args.stand.part (all_rows c.args.list.now) (subst (λ (k : Clocks). AllRanked (bounds_of k) (all_rows c.args.list.now) (row_of k.count c.args.stand.part)) (sym c.requires.clocks) (c.in-Ok.ensures refl)) ∙ sym (ap (every (has (all_rows c.args.list.now))) (chosen_all c.args.search c.args.stand c.if-stand-search.false))

pub returns-in-Err-clause-listed : goal.returns-in-Err-clause-listed
returns-in-Err-clause-listed c =
    c.ranked_inside.ensures.listed ∙ sym (ap (every (has (all_rows c.args.list.now))) (chosen_all c.args.search c.args.stand c.if-stand-search.false))
