-- Reaches that are kept for a deterministic edge. Assumes nothing.
use Prim.Native.Nat.{ℕ, ◌≤◌, ◌<◌}
use native.Mathlib.Decide.{ℕ_discrete}
use native.Mathlib.Omega.{arith}
use mathlib.Core.Path.{◌≡◌, sym, ap, ◌∙◌}
use mathlib.Core.Bool.{Bool, true, false}
use mathlib.Core.List.{List}
use lib.ListN.{length, set, replicate}
use lib.Seq.{get_or-set_same, get_or-set_other}
use Rattle.automata.specs.Row.{IsRow}
use Rattle.automata.specs.Edge.{Edge}
use Rattle.automata.specs.Successors.{guardsb, edge_rows}
use Rattle.automata.specs.Checks.{every, has}
use Rattle.automata.proofs.Laws.Tests.{never}
use Rattle.skylines.specs.declared.reach.Reach.{Reach}
use Rattle.skylines.specs.Reach.{ReachOf, withinb}
use Rattle.skylines.specs.Skyline.{no_reach, member}
use Rattle.listed_rows.specs.Listed.{listed_row, listed_rows}
use Rattle.listed_rows.specs.RegionLists.{nth_row, all_rows}
use Rattle.listed_rows.specs.EdgesInLists.{bounds_in, edge_in, led_in}
use Rattle.listed_rows.specs.declared.edge_in_list.EdgeInList.{EdgeInList}
use Rattle.listed_rows.proofs.Laws.RegionLists.{listed_of}
use Rattle.selection.specs.Chosen.{Sits, taken_at}
use Rattle.selection.proofs.Laws.Choosing.{none_taken, sits_own, further}
use Rattle.walked_rows.specs.Open.{Inside}
use Rattle.walked_rows.specs.Leading.{LeadsIn}
use Rattle.open_rows.specs.Leading.{Known}

-- of any bounds, edge and list, with what `Known` says of the slots ------------------------------------------------------------------------------

module _ (c : List ℕ) (e : Edge) (n : ℕ) (list : List ℕ) (count : ℕ) (sized : length c ≡ n) (few : n ≤ 4)
    (are_rows : (j : ℕ) → j < count → IsRow c (listed_row n list j)) (ms : List Reach) (marks : List Bool)
    (sits : (k : ℕ) → k < 64 → taken_at marks k ≡ true → Sits c e n list 0 count (member ms k))
    (leads : (k : ℕ) → k < 64 → taken_at marks k ≡ true → Inside (edge_rows c e) n list count (member ms k).row)
    (i : ℕ) (l : i < count) (located : (listed_row n list i).location ≡ e.source) (guarded : guardsb (listed_row n list i) e.guards ≡ true) (own : Reach)
    (reach : ReachOf c e (listed_row n list i) i own) (k : ℕ) (h : k < 64) where
  -- it lies within one of them
  pub known_covers : taken_at marks k ≡ true → withinb n own (member ms k) ≡ true → true ≡ every (has (listed_rows n list count)) (edge_rows c e (listed_row n list i))
  known_covers t w =
      let own_sits : Sits c e n list 0 count own = sits_own c e n list 0 count i own (omega arith) l located guarded reach in
      sym (rw reach.number at (further c e n list 0 count sized few are_rows (has (listed_rows n list count)) own (member ms k) own_sits (sits k h t) w (leads k h t)))

-- of an edge in a list --------------------------------------------------------------------------------------------------------------------------

module _ (k : EdgeInList) where
  abbrev Sat : Reach → Type 0
  Sat = Sits (bounds_in k) (edge_in k) k.list.clocks.count k.list.bytes.now 0 k.list.count

  pub known_none : (ms : List Reach) (m : ℕ) → Known k ms (replicate m false)
  known_none ms m = record { sits = λ j l t. never (sym (none_taken m j) ∙ t); leads = λ j l t. never (sym (none_taken m j) ∙ t) }

  module _ (ms : List Reach) (marks : List Bool) (K : Known k ms marks) (i : ℕ) (l : i < k.list.count) (located : (nth_row k.list i).location ≡ k.e.source)
      (guarded : guardsb (nth_row k.list i) (edge_in k).guards ≡ true) (own : Reach) (reach : ReachOf (bounds_in k) (edge_in k) (nth_row k.list i) i own) (slot : ℕ)
      (h : slot < 64) where
    own_known : Sat own
    own_known = sits_own _ _ _ _ 0 _ i own (omega arith) l located guarded reach

    -- it lies within one of them
    pub known_covers_in : taken_at marks slot ≡ true → withinb k.list.clocks.count own (member ms slot) ≡ true → true ≡ every (has (all_rows k.list)) (led_in k (nth_row k.list i))
    known_covers_in = known_covers _ _ _ _ _ k.list.sized k.list.clocks.few (listed_of k.list).are_rows ms marks K.sits K.leads i l located guarded own reach slot h

    -- it takes the place of one
    pub known_kept : length ms ≡ 64 → length marks ≡ 64 → (b : Bool) → b ≡ every (has (all_rows k.list)) (led_in k (nth_row k.list i)) → Known k (set ms slot own) (set marks slot b)
    known_kept long long' b q = record { sits = λ j g t. sits j g t (ℕ_discrete j slot); leads = λ j g t. leads j g t (ℕ_discrete j slot) }
      where
        here : member (set ms slot own) slot ≡ own
        here = get_or-set_same ms slot own no_reach (omega arith)

        other : (j : ℕ) → (j ≡ slot → ⊥) → member (set ms slot own) j ≡ member ms j
        other j z = get_or-set_other ms slot j own no_reach z

        mark : taken_at (set marks slot b) slot ≡ b
        mark = get_or-set_same marks slot b false (omega arith)

        unmarked : (j : ℕ) → (j ≡ slot → ⊥) → taken_at (set marks slot b) j ≡ taken_at marks j
        unmarked j z = get_or-set_other marks slot j b false z

        sits : (j : ℕ) → j < 64 → taken_at (set marks slot b) j ≡ true → Dec (j ≡ slot) → Sat (member (set ms slot own) j)
        sits j g t (yes z) = rw (z, here) own_known
        sits j g t (no z) = rw (other j z) (K.sits j g (sym (unmarked j z) ∙ t))

        leads : (j : ℕ) → j < 64 → taken_at (set marks slot b) j ≡ true → Dec (j ≡ slot) → LeadsIn k (member (set ms slot own) j).row
        leads j g t (yes z) = rw (z, here, reach.number) (sym q ∙ sym mark ∙ ap (taken_at (set marks slot b)) (sym z) ∙ t)
        leads j g t (no z) = rw (other j z) (K.leads j g (sym (unmarked j z) ∙ t))
