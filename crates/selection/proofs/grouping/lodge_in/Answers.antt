use borrow.Author.Rules.{rules}
use Rattle.listed_rows.proofs.Laws.RegionLists.{listed_over}
use Prim.Native.Nat.{◌-◌}
use Rattle.automata.specs.Clocks.{at}
use Rattle.listed_rows.proofs.Laws.Listed.{listed_again}
use Rattle.selection.proofs.Laws.Grouping.{lodges_none, lodges_covered, lodges_instead, lodges_free}
use mathlib.Core.Path.{sym, ◌∙◌}
use native.Mathlib.Omega.{arith}
use Rattle.selection.proofs.grouping.lodge_in.Goals as goal
use Rattle.selection.proofs.grouping.lodge_in.Goals.{then-holder-ne0+else-is_within+else-not-is_within, else-holder-ne0}

pub row-requires : goal.row-requires
row-requires c =
    record { i_lt_count = (c.requires.all_held c.args.k (at c.args.slots.now c.args.k - 1) c.requires.k_bound (omega arith)).to }

pub returns-then-is_within-clause-lodges : goal.returns-then-is_within-clause-lodges
returns-then-is_within-clause-lodges c =
    λ lo hi from to in_list held. lodges_covered _ _ _ _ lo hi _ _ _ held c.args.edge.now.sized c.args.edge.now.clocks.few (λ j h. (listed_over c.args.edge.now).are_rows j (omega arith)) from to c.requires.offered.located c.requires.offered.guarded _ c.requires.reach_of _ c.requires.k_bound (at c.args.slots.now c.args.k - 1) (omega arith) _ (rw (listed_again _ _ _ _ c.row.ensures) at c.reach_of-other.ensures) (sym c.is_within.ensures ∙ c.if-is_within.true)

pub returns-then-not-is_within-clause-lodges : goal.returns-then-not-is_within-clause-lodges
returns-then-not-is_within-clause-lodges c =
    λ lo hi from to in_list held. lodges_none _ _ _ _ lo hi _ _ _ held

pub returns-clause-lodges : goal.returns-clause-lodges
returns-clause-lodges c =
    λ lo hi from to in_list held. elim c.if-holder-ne0.branch [
      | then-holder-ne0+else-is_within+else-not-is_within w ↦ lodges_instead _ _ _ _ lo hi _ _ _ held c.args.edge.now.sized c.args.edge.now.clocks.few (λ j h. (listed_over c.args.edge.now).are_rows j (omega arith)) from to c.requires.offered.located c.requires.offered.guarded _ c.requires.reach_of _ c.requires.k_bound (at c.args.slots.now c.args.k - 1) (omega arith) _ (rw (listed_again _ _ _ _ w.row.ensures) at w.reach_of-other.ensures) (sym w.is_within-then-holder-ne0.ensures ∙ w.if-not-is_within.false) (search rules)
      | else-holder-ne0 w ↦ lodges_free _ _ _ _ lo hi _ _ _ held c.args.edge.now.sized c.args.edge.now.clocks.few (λ j h. (listed_over c.args.edge.now).are_rows j (omega arith)) from to c.requires.offered.located c.requires.offered.guarded _ c.requires.reach_of _ c.requires.k_bound (search rules) w.if-holder-ne0.false
    ]
