-- The moves of an edge's updates, as the code gathers them clock by clock. Assumes nothing.
use Prim.Native.Nat.{ℕ, ◌+◌, ◌-◌, ◌≤◌, ◌<◌}
use native.Mathlib.Decide.{ℕ_discrete}
use native.Mathlib.Omega.{arith}
use mathlib.Core.Path.{◌≡◌, sym, ap, ◌∙◌}
use mathlib.Core.Bool.{true, false}
use mathlib.Core.List.{List}
use lib.ListN.{length, get_or, set}
use lib.Seq.{get_or-set_same, get_or-set_other}
use borrow.Author.Tests.{lt-leb, le-leb}
use Rattle.automata.specs.Edge.{idle, BoundedBy, Bounded}
use Rattle.automata.specs.Successors.{least}
use Rattle.regions.specs.Values.{bounds_of, row_of, update_of, edge_of}
use Rattle.regions.specs.Move.{move_of, permitsb}
use Rattle.regions.specs.Placing.{still, some_permitted}
use Rattle.regions.specs.declared.clocks.Clocks.{Clocks}
use Rattle.regions.specs.declared.region.Region.{Region}
use Rattle.regions.specs.declared.edge.Action as action_code
use Rattle.regions.specs.declared.edge.Update as update_code
use Rattle.regions.specs.declared.edge.Edge as edge_code
use Rattle.regions.specs.declared.clock_move.Move.{Move}
use Rattle.regions.proofs.Laws.Values.{length_first, get_or_mapped}

-- what stands past the code's updates
abbrev pub no_update : update_code.Update
no_update = record { action = action_code.TheVariants.Keep; comparison = 0 }

module _ (k : Clocks) (v : Region) (e : edge_code.Edge) (few : k.count ≤ 4) (four : length e.updates ≡ 4) (z : ℕ) (l : z < k.count) where
  pub its_update : get_or (edge_of k.count e).updates z idle ≡ update_of (get_or e.updates z no_update)
  its_update = get_or_mapped update_of k.count e.updates z no_update idle (omega arith) l

  -- the code's update keeps the bound rule
  pub bounded_at : length k.bounds ≡ 4 → Bounded (bounds_of k) (edge_of k.count e) → BoundedBy (bounds_of k) z (update_of (get_or e.updates z no_update)).action
  bounded_at long b = rw its_update at (b.updates_in z (omega (arith, length_first k.count k.bounds few long)))

  -- the move of clock z
  abbrev pub asked : ℕ → Move
  asked w = move_of (bounds_of k) (row_of k.count v) w (get_or (edge_of k.count e).updates w idle)

  -- one more is gathered
  pub moved_more : (ms : List Move) (m : Move) → length ms ≡ 4 → ((w : ℕ) → w < z → get_or ms w still ≡ asked w)
      → m ≡ move_of (bounds_of k) (row_of k.count v) z (update_of (get_or e.updates z no_update))
      → (w : ℕ) → w < z + 1 → get_or (set ms z m) w still ≡ asked w
  moved_more ms m long f g w h = go (ℕ_discrete w z)
    where
      go : Dec (w ≡ z) → get_or (set ms z m) w still ≡ asked w
      go (yes s) = rw s (get_or-set_same ms z m still (omega arith) ∙ g ∙ ap (move_of (bounds_of k) (row_of k.count v) z) (sym its_update))
      go (no s) = get_or-set_other ms z w m still s ∙ f w (omega arith)

-- a move that permits nothing, and one that permits something
module _ (ms : List Move) (z j : ℕ) (e : j ≡ least (permitsb (get_or ms z still)) ((get_or ms z still).top + 1 - 0) 0) where
  pub none_permitted : (get_or ms z still).top < j → some_permitted ms z ≡ false
  none_permitted h = rw (← e) (lt-leb j (get_or ms z still).top h)

  pub one_permitted : ((get_or ms z still).top < j → ⊥) → some_permitted ms z ≡ true
  one_permitted h = rw (← e) (le-leb j (get_or ms z still).top (omega arith))
