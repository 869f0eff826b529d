use Rattle.selection.proofs.Laws.Grouping.{lodges_taken, lodges_blocked, lodges_new}
use Rattle.selection.proofs.grouping.lodge.Goals as goal

pub returns-then-already : goal.returns-then-already
returns-then-already c =
    λ lo hi from to in_list held. lodges_taken _ _ _ _ lo hi _ _ _ held c.if-already.true

pub returns-in-None : goal.returns-in-None
returns-in-None c =
    λ lo hi from to in_list held. lodges_blocked _ _ _ _ lo hi _ _ _ held c.in-None.ensures

pub lodge_in-requires-else-lodge_in-clause-all_held : goal.lodge_in-requires-else-lodge_in-clause-all_held
lodge_in-requires-else-lodge_in-clause-all_held c =
    rw (c.lodge_in.ensures.left c.if-lodge_in.false) c.requires.all_held

pub returns-then-lodge_in : goal.returns-then-lodge_in
returns-then-lodge_in c =
    λ lo hi from to in_list held. lodges_new _ _ _ _ lo hi _ _ _ _ _ (c.lodge_in.ensures.lodges lo hi from to in_list held)

pub returns-else-lodge_in : goal.returns-else-lodge_in
returns-else-lodge_in c =
    λ lo hi from to in_list held. let left = c.lodge_in.ensures.left c.if-lodge_in.false in
    lodges_new _ _ _ _ lo hi _ _ _ _ _ (rw left at (c.lodge_in-else-lodge_in.ensures.lodges lo hi from to in_list (rw left held)))
