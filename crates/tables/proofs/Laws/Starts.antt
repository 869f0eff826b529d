-- Where the edges' records begin, found in one pass over them; two bytes hold each position. Assumes nothing.
use Prim.Native.Nat.{ℕ, ◌+◌, ◌*◌, ◌≤◌, ◌<◌}
use native.Mathlib.Omega.{arith}
use mathlib.Core.Path.{◌≡◌, ◌∙◌}
use mathlib.Core.List.{List}
use lib.ListN.{length, set, replicate, length-set, length-replicate}
use native.Mathlib.Decide.{ℕ_discrete}
use lib.Seq.{get_or-set_same, get_or-set_other}
use Rattle.automata.specs.Clocks.{at}
use Rattle.table_records.specs.declared.head.Head.{Head}
use Rattle.table_records.specs.Edge.{after_edge, Stands}
use Rattle.table_records.proofs.Laws.Skips.{skip_none, skip_one}
use Rattle.tables.specs.Bounds.{edge_start, StartsOf}
use Rattle.tables.specs.Values.{Describes}
use Rattle.tables.proofs.Laws.Described.{edge_stands}
use Rattle.tables.proofs.Laws.Refusals.{described_limits}

-- the records of i edges are passed, and the next one begins at p
pub record Passed (file : List ℕ) (k : Head) (starts : List ℕ) (p i : ℕ) : Type 0 where
  pub few : i ≤ k.edges
  pub here : p ≡ edge_start k.clocks.count k.locations file i
  pub near : p ≤ 203 + 49 * i
  pub sized : length starts ≡ 256
  pub told : StartsOf k.clocks.count k.locations file i starts

-- one position more
one_told : (n L : ℕ) (file starts : List ℕ) (p i : ℕ) → StartsOf n L file i starts → i < length starts → p ≡ edge_start n L file i → StartsOf n L file (i + 1) (set starts i p)
one_told n L file starts p i h l e j b = go (ℕ_discrete j i)
  where
    go : Dec (j ≡ i) → at (set starts i p) j ≡ edge_start n L file j
    go (yes q) = rw (q, get_or-set_same starts i p 0 l) e
    go (no q) = get_or-set_other starts i j p 0 q ∙ h j (omega arith)

module _ (file : List ℕ) (k : Head) (d : Describes file k) where
  -- the list has a place for every edge
  pub few_edges : k.edges ≤ 256
  few_edges = let l = described_limits file k d in omega (arith, d.edges, l.few_edges)

  pub none_passed : (p : ℕ) → p ≡ 7 + k.clocks.count + 3 * k.locations → Passed file k (replicate 256 0) p 0
  none_passed p e = record {
    few = omega arith;
    here = e ∙ skip_none _ _;
    near = let l = described_limits file k d in omega (arith, e, d.few.few, d.locations, l.few_locations);
    sized = length-replicate {A = ℕ} 256 0;
    told = λ i h. absurd (omega arith);
  }

  module _ (starts : List ℕ) (p i : ℕ) (w : Passed file k starts p i) (l : i < k.edges) where
    pub next_stands : Stands k.clocks.count file p
    next_stands = edge_stands file k d i l w.here

    pub fits_two_bytes : p < 65536
    fits_two_bytes = omega (arith, few_edges, w.near)

    pub one_passed : {q : ℕ} → q ≡ after_edge k.clocks.count file p → Passed file k (set starts i p) q (i + 1)
    unfolding after_edge
    one_passed {q} e = record {
      few = omega arith;
      here = skip_one _ _ _ w.here e;
      near = omega (arith, e, w.near, next_stands.few_guards, d.few.few);
      sized = length-set starts i p ∙ w.sized;
      told = one_told _ _ _ starts p i w.told (omega (arith, few_edges, w.sized)) w.here;
    }

  pub all_passed : (starts : List ℕ) (p i : ℕ) → Passed file k starts p i → k.edges ≤ i → StartsOf k.clocks.count k.locations file k.edges starts
  all_passed starts p i w l j h = w.told j (omega arith)
