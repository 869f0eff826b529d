-- An edge that reads no clock leads to the same rows from all rows that it can be taken from. Assumes nothing.
use Prim.Native.Nat.{ℕ, zero, suc, ◌≤◌, ◌<◌}
use native.Mathlib.Omega.{arith}
use mathlib.Core.Path.{◌≡◌, refl, sym, ap, ◌∙◌}
use mathlib.Core.Bool.{Bool, true}
use mathlib.Core.List.{List, [], ◌∷◌}
use lib.ListN.{length, get_or, take, replicate}
use lib.Seq.{get_or-take, length-take-le}
use Rattle.automata.specs.Clocks.{at}
use Rattle.automata.specs.Row.{Row, IsRow}
use Rattle.automata.specs.Edge.{Action, keep, constant, clock, Update, idle, Edge}
use Rattle.automata.specs.Successors.{guardsb, edge_rows}
use Rattle.automata.specs.Checks.{every}
use Rattle.automata.proofs.Laws.Tests.{never, and_law}
use Rattle.regions.specs.Values.{action_of, update_of, edge_of}
use Rattle.regions.specs.declared.edge.Edge as edge_code
use Rattle.regions.specs.declared.edge.Update as update_code
use Rattle.regions.proofs.Laws.Moves.{no_update}
use Rattle.regions.proofs.Laws.Values.{get_or_mapped}
use Rattle.skylines.specs.declared.reach.Reach.{Reach}
use Rattle.skylines.specs.Reach.{low_end, high_end, ReachOf}
use Rattle.skylines.specs.Alike.{constantb, ReadsNone}
use Rattle.skylines.proofs.Laws.Reach.{within_itself}
use Rattle.skylines.proofs.Laws.NoFurther.{none_further}

-- its reach has zeros alone ------------------------------------------------------------------------------------------------------------------

zeros : (m z : ℕ) → at (replicate m 0) z ≡ 0
zeros zero z = refl
zeros (suc m) zero = refl
zeros (suc m) (suc z) = zeros m z

module _ (c : List ℕ) (r : Row) (z cmp : ℕ) where
  low_zero : (a : Action) → constantb a ≡ true → low_end c r z cmp a ≡ 0
  unfolding low_end
  low_zero keep h = never h
  low_zero (constant k) h = refl
  low_zero (clock y up down) h = never h

  high_zero : (a : Action) → constantb a ≡ true → high_end c r z cmp a ≡ 0
  unfolding high_end
  high_zero keep h = never h
  high_zero (constant k) h = refl
  high_zero (clock y up down) h = never h

zero_reach : Reach
zero_reach = record { lows = replicate 4 0; highs = replicate 4 0; row = 0 }

reach_zero : (c : List ℕ) (e : Edge) (r : Row) → ReadsNone (length c) e → ReachOf c e r 0 zero_reach
unfolding zero_reach
reach_zero c e r h =
    record {
      low = λ z l. zeros 4 z ∙ sym (low_zero c r z (get_or e.updates z idle).comparison (get_or e.updates z idle).action (h z l));
      high = λ z l. zeros 4 z ∙ sym (high_zero c r z (get_or e.updates z idle).comparison (get_or e.updates z idle).action (h z l));
      number = refl;
    }

-- ALIKE: what all rows have that it leads to from one, all rows have that it leads to from another
pub alike : (c : List ℕ) (e : Edge) (r s : Row) → length c ≤ 4 → IsRow c r → IsRow c s → ReadsNone (length c) e → r.location ≡ s.location
    → guardsb r e.guards ≡ guardsb s e.guards → (p : Row → Bool) → every p (edge_rows c e s) ≡ true → every p (edge_rows c e r) ≡ true
alike c e r s short ir is h l g =
    none_further c e r s short ir is 0 0 zero_reach zero_reach (reach_zero c e r h) (reach_zero c e s h) (within_itself (length c) zero_reach) l g

-- update by update -----------------------------------------------------------------------------------------------------------------------------

-- what the code asks of an update
abbrev pub constant_update : update_code.Update → Bool
constant_update u = constantb (action_of u.action)

module _ {A : Type 0} (p : A → Bool) where
  every_at : (xs : List A) (z : ℕ) (d : A) → every p xs ≡ true → z < length xs → p (get_or xs z d) ≡ true
  every_at [] z d h l = absurd (omega arith)
  every_at (x ∷ xs) zero d h l = ((and_law (p x) (every p xs) (λ e. e, λ e. e) (λ e. e, λ e. e)).0 h).0
  every_at (x ∷ xs) (suc z) d h l = every_at xs z d ((and_law (p x) (every p xs) (λ e. e, λ e. e) (λ e. e, λ e. e)).0 h).1 (omega arith)

-- if all pass, the edge reads none
pub reads_all : (n : ℕ) (e : edge_code.Edge) → n ≤ 4 → length e.updates ≡ 4 → every constant_update (take n e.updates) ≡ true → ReadsNone n (edge_of n e)
reads_all n e few four h z l =
    ap (λ (u : Update). constantb u.action) (get_or_mapped update_of n e.updates z no_update idle (omega arith) l ∙ ap update_of (sym (get_or-take n e.updates z no_update l)))
    ∙ every_at constant_update (take n e.updates) z no_update h (omega (arith, length-take-le n e.updates (omega arith)))
