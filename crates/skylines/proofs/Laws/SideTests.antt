-- The sides of an edge, as the code goes: answer by answer, clock by clock. Assumes nothing.
use Prim.Native.Nat.{ℕ, ◌+◌, ◌/◌, ◌^◌, ◌≤◌, ◌<◌}
use native.Mathlib.Decide.{ℕ_discrete}
use native.Mathlib.Omega.{arith}
use mathlib.Core.Path.{◌≡◌, refl, sym, ap, ◌∙◌}
use mathlib.Core.Bool.{Bool, true, false}
use mathlib.Core.List.{List, map}
use lib.ListN.{length, take, get_or, set, length-set, length-map}
use lib.Seq.{ext_get_or, get_or-set_same, get_or-set_other, length-take-le}
use lib.Dec.{eqb}
use Rattle.automata.specs.Clocks.{allb}
use Rattle.automata.specs.Rows.{from}
use Rattle.automata.specs.Edge.{idle, Edge}
use Rattle.regions.specs.Values.{update_of, edge_of}
use Rattle.regions.specs.declared.edge.Edge as edge_code
use Rattle.regions.specs.declared.edge.Update as update_code
use Rattle.regions.proofs.Laws.Moves.{no_update}
use Rattle.regions.proofs.Laws.Values.{get_or_mapped}
use Rattle.skylines.specs.Sides.{bit, sided_update, sided_at, may_choose, is_choice}
use Rattle.skylines.proofs.Laws.Sides.{halved_is, get_or_made, made_length}

-- clock by clock ----------------------------------------------------------------------------------------------------------------

-- whether k is a choice is asked in two steps
pub choice_by : (n : ℕ) (e : Edge) (k : ℕ) (b : Bool) → b ≡ allb n (may_choose e k) → (b ≡ true → eqb (k / 2 ^ n) 0 ≡ is_choice n e k) × (b ≡ false → b ≡ is_choice n e k)
unfolding is_choice
choice_by n e k b q = (λ t. rw (← q, t, halved_is k n), λ f. rw (← q, f))

module _ (n : ℕ) (e : edge_code.Edge) (k : ℕ) where
  -- the updates before z are by their sides
  pub record Siding (updates : List update_code.Update) (z : ℕ) : Type 0 where
    pub within : z ≤ n
    pub sized : length updates ≡ 4
    pub so_far : (j : ℕ) → j < z → update_of (get_or updates j no_update) ≡ sided_at (edge_of n e) k j

  module _ (few : n ≤ 4) (four : length e.updates ≡ 4) where
    there : (z : ℕ) → z < n → get_or (edge_of n e).updates z idle ≡ update_of (get_or e.updates z no_update)
    there z l = get_or_mapped update_of n e.updates z no_update idle (omega arith) l

    pub none_sided : Siding e.updates 0
    none_sided = record { within = omega arith; sized = four; so_far = λ j h. absurd (omega arith) }

    module _ (updates : List update_code.Update) (z : ℕ) (w : Siding updates z) where
      pub one_sided : z < n → (u : update_code.Update) → update_of u ≡ sided_update (update_of (get_or e.updates z no_update)) (bit k z) → Siding (set updates z u) (z + 1)
      one_sided l u q = record {
        within = omega arith;
        sized = length-set updates z u ∙ w.sized;
        so_far = λ j h. go j h (ℕ_discrete j z);
      }
        where
          here : update_of u ≡ sided_at (edge_of n e) k z
          here = q ∙ rw (there z l) refl

          go : (j : ℕ) → j < z + 1 → Dec (j ≡ z) → update_of (get_or (set updates z u) j no_update) ≡ sided_at (edge_of n e) k j
          go j h (yes d) = rw (d, get_or-set_same updates z u no_update (omega (arith, w.sized))) here
          go j h (no d) = rw (get_or-set_other updates z j u no_update d) (w.so_far j (omega arith))

      pub all_sided : n ≤ z → map update_of (take n updates) ≡ map (sided_at (edge_of n e) k) (from 0 n)
      all_sided l =
          ext_get_or idle (map update_of (take n updates)) (map (sided_at (edge_of n e) k) (from 0 n)) (long ∙ sym (made_length (sided_at (edge_of n e) k) 0 n))
          (λ i h.
          get_or_mapped update_of n updates i no_update idle (omega (arith, w.sized)) (omega (arith, long))
          ∙ w.so_far i (omega (arith, long))
          ∙ sym (get_or_made (sided_at (edge_of n e) k) 0 n i idle (omega (arith, long)) ∙ (let q : 0 + i ≡ i = omega arith in ap (sided_at (edge_of n e) k) q)))
        where
          long : length (map update_of (take n updates)) ≡ n
          long = length-map (take n updates) update_of ∙ length-take-le n updates (omega (arith, w.sized))
