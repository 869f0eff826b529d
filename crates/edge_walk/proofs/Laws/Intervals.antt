-- A walk that chooses intervals alone: what is known of those it has chosen, step by step. Assumes nothing.
use Prim.Native.Nat.{ℕ, ◌+◌, ◌*◌, ◌-◌, ◌≤◌, ◌<◌}
use native.Mathlib.Decide.{ℕ_discrete}
use native.Mathlib.Omega.{arith}
use mathlib.Core.Path.{◌≡◌, refl}
use mathlib.Core.Bool.{true}
use lib.ListN.{length, get_or, set}
use lib.Seq.{get_or-set_same, get_or-set_other}
use borrow.Author.Tests.{le-leb}
use Rattle.automata.specs.Clocks.{at}
use Rattle.automata.specs.Successors.{least}
use Rattle.regions.specs.Move.{permitsb}
use Rattle.regions.specs.Placing.{still}
use Rattle.regions.specs.Order.{put}
use Rattle.regions.specs.declared.clock_move.Move.{Move}
use Rattle.regions.specs.declared.region.Region.{Region}
use Rattle.edge_walk.specs.Choice.{Ready}
use Rattle.edge_walk.specs.Stand.{start, back}
use Rattle.edge_walk.specs.Intervals.{Chosen}
use Rattle.edge_walk.specs.declared.search.Search.{Search}
use Rattle.edge_walk.specs.declared.stand.Stand.{Stand}
use Rattle.automata.proofs.Laws.Leads.{Least, least_is}

-- where it begins nothing is chosen
pub chosen_start : (s : Search) (l : ℕ) → Chosen s (start l)
chosen_start s l = record { within = omega arith; fresh = λ e. refl; in_range = λ z h. absurd (omega arith); permitted = λ z h. absurd (omega arith) }

module _ (s : Search) (a : Stand) (c : Chosen s a) where
  -- one less is
  pub chosen_back : 0 < a.depth → (b : Stand) → b ≡ back s.clocks.count a → Chosen s b
  chosen_back h b e = rw e (record {
    within = omega (arith, c.within);
    fresh = λ d. absurd (omega (arith, c.within));
    in_range = λ z l. c.in_range z (omega arith);
    permitted = λ z l. c.permitted z (omega arith);
  })

  -- one more is
  module _ (ready : Ready s) (four : length a.part.intervals ≡ 4) (h : 0 < a.depth) (l : a.depth ≤ s.clocks.count) (k : ℕ) where
    abbrev m : Move
    m = get_or s.moves.each (a.depth - 1) still

    -- what holds of those chosen before, and of this one
    of_each : (Q : ℕ → ℕ → Type 0) → ((z : ℕ) → z + 1 < a.depth → Q z (at a.part.intervals z)) → Q (a.depth - 1) k
        → (z : ℕ) → z + 1 < a.depth + 1 → Q z (at (set a.part.intervals (a.depth - 1) k) z)
    of_each Q before here z i = go (ℕ_discrete z (a.depth - 1))
      where
        go : Dec (z ≡ a.depth - 1) → Q z (at (set a.part.intervals (a.depth - 1) k) z)
        go (yes e) = rw (e, get_or-set_same a.part.intervals (a.depth - 1) k 0 (omega (arith, ready.few.few))) here
        go (no e) = rw (get_or-set_other a.part.intervals (a.depth - 1) z k 0 e) (before z (omega arith))

    pub chosen_on : k ≡ least (permitsb m) (m.top + 1 - a.least) a.least → k ≤ m.top → (further : Region) → further ≡ put s.clocks.count a.part a.depth k
        → Chosen s (record { part = further; depth = a.depth + 1; least = 0 })
    unfolding put
    chosen_on e low further f = rw (f, le-leb a.depth s.clocks.count l) (record {
      within = omega arith;
      fresh = λ d. refl;
      in_range = of_each (λ z j. j ≤ 2 * at s.clocks.bounds z + 1) c.in_range (omega (arith, ready.tops (a.depth - 1) (omega arith)));
      permitted = of_each (λ z j. permitsb (get_or s.moves.each z still) j ≡ true) c.permitted (is.passes (omega (arith, is.from)));
    })
      where
        is : Least (permitsb m) (m.top + 1 - a.least) a.least k
        is = rw e (least_is (permitsb m) (m.top + 1 - a.least) a.least)
