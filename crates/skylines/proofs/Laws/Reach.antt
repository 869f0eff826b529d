-- A reach as the code works it out: a place by cases, the ends by the comparison's answers, clock by clock. Assumes nothing.
use Prim.Native.Nat.{ℕ, zero, suc, ◌+◌, ◌≤◌, ◌<◌}
use native.Mathlib.Decide.{ℕ_discrete}
use native.Mathlib.Omega.{arith}
use mathlib.Core.Path.{◌≡◌, refl, sym, ap, ◌∙◌}
use mathlib.Core.Bool.{Bool, true, cond, ◌&&◌}
use mathlib.Core.List.{List, [], ◌∷◌, map}
use lib.ListN.{length, get_or, take, set, replicate, length-set}
use lib.Seq.{get_or-take, get_or-set_same, get_or-set_other}
use lib.Dec.{leb}
use Rattle.automata.specs.Clocks.{at}
use Rattle.automata.specs.Row.{Row}
use Rattle.automata.specs.Edge.{keep, constant, clock, Update, idle, Edge, Bounded, BoundedBy}
use Rattle.automata.proofs.Laws.Tests.{and_law, leb_law, allb_law}
use Rattle.regions.specs.Values.{row_of, update_of, action_of, edge_of}
use Rattle.regions.specs.declared.region.Region.{Region}
use Rattle.regions.specs.declared.edge.Action.TheVariants.{Keep}
use Rattle.regions.specs.declared.edge.Edge as edge_code
use Rattle.regions.specs.declared.edge.Update as update_code
use Rattle.skylines.specs.declared.reach.Reach.{Reach}
use Rattle.skylines.specs.Reach.{place, place_of, upb, downb, low_end, high_end, low_at, high_at, ReachOf, withinb}

-- a place --------------------------------------------------------------------------------------------------------------------------------

-- the numbers of the first n clocks are those of the arrays
pub place_here : (n : ℕ) (bounds : List ℕ) (r : Region) (z y up down : ℕ) → z < n → y < n
    → place (at bounds z) (at r.intervals y) (at r.ranks y) up down ≡ place_of (take n bounds) (row_of n r) z y up down
place_here n bounds r z y up down l m =
    λ i. place (sym (get_or-take n bounds z 0 l) i) (sym (get_or-take n r.intervals y 0 m) i) (sym (get_or-take n r.ranks y 0 m) i) up down

-- ends -----------------------------------------------------------------------------------------------------------------------------------

-- the ends of the three kinds of updates
module _ (n : ℕ) (bounds : List ℕ) (r : Region) (z : ℕ) where
  pub keep_ends : (cmp x : ℕ) → z < n → x ≡ place (at bounds z) (at r.intervals z) (at r.ranks z) 0 0
      → (x ≡ low_end (take n bounds) (row_of n r) z cmp keep) × (x ≡ high_end (take n bounds) (row_of n r) z cmp keep)
  unfolding low_end high_end
  keep_ends cmp x l e = (e ∙ place_here n bounds r z z 0 0 l l, e ∙ place_here n bounds r z z 0 0 l l)

  pub constant_ends : (cmp k : ℕ) → (0 ≡ low_end (take n bounds) (row_of n r) z cmp (constant k)) × (0 ≡ high_end (take n bounds) (row_of n r) z cmp (constant k))
  unfolding low_end high_end
  constant_ends cmp k = (refl, refl)

  pub clock_ends : (y up down cmp x l h : ℕ) → z < n → y < n → x ≡ place (at bounds z) (at r.intervals y) (at r.ranks y) up down → l ≡ cond (downb cmp) 0 x → h ≡ cond (upb cmp) 0 x
      → (l ≡ low_end (take n bounds) (row_of n r) z cmp (clock y up down)) × (h ≡ high_end (take n bounds) (row_of n r) z cmp (clock y up down))
  unfolding low_end high_end
  clock_ends y up down cmp x l h a b e p q =
      (p ∙ ap (cond (downb cmp) 0) (e ∙ place_here n bounds r z y up down a b), q ∙ ap (cond (upb cmp) 0) (e ∙ place_here n bounds r z y up down a b))

-- the update of a clock ----------------------------------------------------------------------------------------------------------------

at_map_take : {A B : Type 0} (f : A → B) (n z : ℕ) (xs : List A) (d : A) → z < n → get_or (map f (take n xs)) z (f d) ≡ f (get_or xs z d)
at_map_take f zero z xs d h = absurd (omega arith)
at_map_take f (suc n) z [] d h = refl
at_map_take f (suc n) zero (x ∷ xs) d h = refl
at_map_take f (suc n) (suc z) (x ∷ xs) d h = at_map_take f n z xs d (omega arith)

-- what stands where an array of updates has ended
abbrev pub no_update : update_code.Update
no_update = record { action = Keep; comparison = 0 }

module _ (n : ℕ) (e : edge_code.Edge) (z : ℕ) (l : z < n) where
  pub update_is : get_or (edge_of n e).updates z idle ≡ update_of (get_or e.updates z no_update)
  update_is = at_map_take update_of n z e.updates no_update l

  pub update_bounded : (c : List ℕ) → length c ≡ n → Bounded c (edge_of n e) → BoundedBy c z (action_of (get_or e.updates z no_update).action)
  update_bounded c sized B = rw update_is at (B.updates_in z (omega arith))

  pub low_ends_here : (c : List ℕ) (r : Row) (x : ℕ) → x ≡ low_end c r z (get_or e.updates z no_update).comparison (action_of (get_or e.updates z no_update).action) → x ≡ low_at c (edge_of n e) r z
  low_ends_here c r x h = h ∙ ap (λ (u : Update). low_end c r z u.comparison u.action) (sym update_is)

  pub high_ends_here : (c : List ℕ) (r : Row) (x : ℕ) → x ≡ high_end c r z (get_or e.updates z no_update).comparison (action_of (get_or e.updates z no_update).action) → x ≡ high_at c (edge_of n e) r z
  high_ends_here c r x h = h ∙ ap (λ (u : Update). high_end c r z u.comparison u.action) (sym update_is)

-- clock by clock -------------------------------------------------------------------------------------------------------------------------

module _ (c : List ℕ) (e : Edge) (r : Row) where
  -- the ends of the clocks before clock z
  pub record ReachTo (z : ℕ) (lows highs : List ℕ) : Type 0 where
    pub four : (length lows ≡ 4) × (length highs ≡ 4)
    pub low : (w : ℕ) → w < z → at lows w ≡ low_at c e r w
    pub high : (w : ℕ) → w < z → at highs w ≡ high_at c e r w

  pub reach_begins : ReachTo 0 (replicate 4 0) (replicate 4 0)
  reach_begins = record { four = (refl, refl); low = λ w h. absurd (omega arith); high = λ w h. absurd (omega arith) }

  pub reach_on : (z : ℕ) (lows highs : List ℕ) (low high : ℕ) → z < 4 → ReachTo z lows highs → low ≡ low_at c e r z → high ≡ high_at c e r z
      → ReachTo (z + 1) (set lows z low) (set highs z high)
  reach_on z lows highs low high l R p q = record { four = (length-set lows z low ∙ R.four.0, length-set highs z high ∙ R.four.1); low = λ w h. one_more lows low (omega (arith, R.four.0)) (low_at c e r) R.low p w h (ℕ_discrete w z); high = λ w h. one_more highs high (omega (arith, R.four.1)) (high_at c e r) R.high q w h (ℕ_discrete w z) }
    where
      one_more : (xs : List ℕ) (x : ℕ) → z < length xs → (f : ℕ → ℕ) → ((w : ℕ) → w < z → at xs w ≡ f w) → x ≡ f z → (w : ℕ) → w < z + 1 → Dec (w ≡ z) → at (set xs z x) w ≡ f w
      one_more xs x l f so_far here w h (yes d) = rw d (get_or-set_same xs z x 0 l ∙ here)
      one_more xs x l f so_far here w h (no d) = get_or-set_other xs z w x 0 d ∙ so_far w (omega arith)

  pub reach_all : (z i : ℕ) (lows highs : List ℕ) → length c ≤ z → ReachTo z lows highs → ReachOf c e r i (record { lows = lows; highs = highs; row = i })
  reach_all z i lows highs l R = record { low = λ w h. R.low w (omega arith); high = λ w h. R.high w (omega arith); number = refl }

-- one within the other -------------------------------------------------------------------------------------------------------------------

-- clock z's ends
abbrev pub within_at : Reach → Reach → ℕ → Bool
within_at a b z = leb (at b.lows z) (at a.lows z) && leb (at a.highs z) (at b.highs z)

-- a reach lies within itself
pub within_itself : (n : ℕ) (a : Reach) → withinb n a a ≡ true
unfolding withinb
within_itself n a =
    (allb_law n (within_at a a) (λ z. and_law _ _ (leb_law (at a.lows z) (at a.lows z)) (leb_law (at a.highs z) (at a.highs z)))).1 (λ z l. (omega arith, omega arith))
