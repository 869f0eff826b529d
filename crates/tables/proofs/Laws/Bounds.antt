-- The bound rules on an edge by value, and edge by edge. Assumes nothing.
use Prim.Native.Nat.{ℕ, suc, ◌+◌, ◌-◌, ◌≤◌, ◌<◌}
use native.Mathlib.Omega.{arith}
use mathlib.Core.Path.{◌≡◌, refl, sym, ap, subst, ◌∙◌}
use mathlib.Core.Bool.{Bool, true, false, cond, ◌&&◌}
use mathlib.Core.List.{List, [], ◌∷◌}
use lib.ListN.{length, take, get_or, get_or-map}
use lib.Seq.{length-take-le, get_or-take}
use Rattle.automata.specs.Clocks.{allb}
use Rattle.automata.specs.Edge.{Action, Edge, idle}
use Rattle.automata.specs.Checks.{every}
use Rattle.regions.specs.Values.{bounds_of, action_of, update_of, edge_of}
use Rattle.regions.specs.declared.clocks.Clocks as clocks_code
use Rattle.regions.specs.declared.edge.Action as action_code
use Rattle.regions.specs.declared.edge.Update as update_code
use Rattle.regions.specs.declared.edge.Edge as edge_code
use Rattle.table_files.specs.Reading.{Read, good, bad, carry, require}
use Rattle.table_files.specs.Admission.{guard_bounded, constant_bounded, clock_bounded, each_update, edges_bounded}
use Rattle.std.specs.Prelude.{Option, None, Some}
use Rattle.std.specs.List.{list_all}
use Rattle.table_records.specs.Edge.{edge_at, after_edge, Stands}
use Rattle.table_records.specs.Skips.{values, AllAt}
use Rattle.tables.specs.Bounds.{broken_rule, edges_at, AllStand}
use Rattle.table_records.specs.Refusal.{number_of}
use Rattle.table_records.specs.declared.refusal.Fault.{Fault}
use Rattle.table_records.specs.declared.refusal.Fault.TheVariants.{ConstantAboveBound, ClockBreaksBound}
use Rattle.regions.proofs.Laws.Placing.{allb_same}

-- a list's tests, one after the other
pub all_every : {A : Type 0} (test : A → Bool) (xs : List A) → list_all test xs ≡ every test xs
all_every test [] = refl
all_every test (x ∷ xs) = ap (λ b. test x && b) (all_every test xs)

-- what stands where an array has ended
abbrev pub no_update : update_code.Update
no_update = record { action = action_code.TheVariants.Keep; comparison = 0 }

-- the updates, one by one, of any bounds
pub updates_along : (c : List ℕ) (e : edge_code.Edge) (test : List ℕ → ℕ → Action → Bool)
    → allb (length c) (λ (z : ℕ). test c z (action_of (get_or e.updates z no_update).action)) ≡ each_update test c (edge_of (length c) e)
updates_along c e test =
    allb_same (length c) _ _
    (λ z l. ap (λ (u : Rattle.automata.specs.Edge.Update). test c z u.action)
    (sym (get_or-map update_of (take (length c) e.updates) z no_update ∙ ap update_of (get_or-take (length c) e.updates z no_update l))))

-- .. of the bounds of clocks, clock by clock
pub updates_each : (k : clocks_code.Clocks) (e : edge_code.Edge) (test : List ℕ → ℕ → Action → Bool) → k.count ≤ length k.bounds
    → allb k.count (λ (z : ℕ). test (bounds_of k) z (action_of (get_or e.updates z no_update).action)) ≡ each_update test (bounds_of k) (edge_of k.count e)
updates_each k e test h =
    subst (λ (n : ℕ). allb n (λ (z : ℕ). test (bounds_of k) z (action_of (get_or e.updates z no_update).action)) ≡ each_update test (bounds_of k) (edge_of n e))
    (length-take-le k.count k.bounds h) (updates_along (bounds_of k) e test)

-- the rule that an edge breaks -----------------------------------------------------------------------------------------------

abbrev rule : Bool → Bool → Option Fault
rule a b = cond a (cond b None (Some ClockBreaksBound)) (Some ConstantAboveBound)

module _ (c : List ℕ) (e : Edge) where
  abbrev Guards : Bool
  Guards = every (guard_bounded c) e.guards

  abbrev Constants : Bool
  Constants = each_update constant_bounded c e

  abbrev Clocks : Bool
  Clocks = each_update clock_bounded c e

  -- edge by edge
  module _ (place : ℕ) (es : List Edge) (f : List ℕ) where
    first_bounded : None ≡ broken_rule c e → edges_bounded c place (e ∷ es) f ≡ edges_bounded c (place + 1) es f
    unfolding broken_rule edges_bounded carry require
    first_bounded h = go (Guards && Constants) Clocks h
      where
        go : (a b : Bool) → None ≡ rule a b
            → carry (require 5 place a f) (λ _ g. carry (require 6 place b g) (λ _. edges_bounded c (place + 1) es)) ≡ edges_bounded c (place + 1) es f
        go true true q = refl
        go true false q = cc
        go false b q = cc

    first_broken : (fault : Fault) → Some fault ≡ broken_rule c e → edges_bounded c place (e ∷ es) f ≡ bad (number_of fault) place
    unfolding broken_rule edges_bounded carry require
    first_broken fault h = go (Guards && Constants) Clocks h
      where
        go : (a b : Bool) → Some fault ≡ rule a b
            → carry (require 5 place a f) (λ _ g. carry (require 6 place b g) (λ _. edges_bounded c (place + 1) es)) ≡ bad (number_of fault) place
        go true true q = cc
        go true false q = let k : fault ≡ ClockBreaksBound = cc in rw k
        go false b q = let k : fault ≡ ConstantAboveBound = cc in rw k

-- the loop over the edges has come to this place and position
pub record Unbroken (c : List ℕ) (n : ℕ) (file : List ℕ) (whole : Read (Unit {0})) (stop p place : ℕ) : Type 0 where
  pub stand : AllStand n file (stop - place) p
  pub onward : whole ≡ edges_bounded c place (edges_at n file (stop - place) p) []

module _ (c : List ℕ) (n : ℕ) (file : List ℕ) (stop p place : ℕ) where
  pub all_unbroken : (m : ℕ) → stop ≡ place + m → AllStand n file m p → Unbroken c n file (edges_bounded c place (edges_at n file m p) []) stop p place
  all_unbroken m e h = let d : stop - place ≡ m = omega arith in record { stand = rw d h; onward = rw d }

  module _ {whole : Read (Unit {0})} (left : Unbroken c n file whole stop p place) where
    pub none_broken : stop ≤ place → whole ≡ good tt []
    unfolding edges_bounded values
    none_broken e = left.onward ∙ (let z : stop - place ≡ 0 = omega arith in rw z)

    module _ (more : place < stop) where
      some_left : stop - place ≡ suc (stop - (place + 1))
      some_left = omega arith

      pub stands_here : Stands n file p
      unfolding AllAt
      stands_here = (rw some_left at left.stand).0

      module _ {e : Edge} (is : e ≡ edge_at n file p) where
        others : List Edge
        others = edges_at n file (stop - (place + 1)) (after_edge n file p)

        pub one_broken : (fault : Fault) → Some fault ≡ broken_rule c e → whole ≡ bad (number_of fault) place
        unfolding values others
        one_broken fault h = left.onward ∙ rw some_left (first_broken c (edge_at n file p) place others [] fault (rw is at h))

        pub one_unbroken : None ≡ broken_rule c e → {p' : ℕ} → p' ≡ after_edge n file p → Unbroken c n file whole stop p' (place + 1)
        unfolding values others AllAt
        one_unbroken h {p'} a = record {
          stand = rw a (rw some_left at left.stand).1;
          onward = left.onward ∙ rw (some_left, a) (first_bounded c (edge_at n file p) place others [] (rw is at h));
        }
