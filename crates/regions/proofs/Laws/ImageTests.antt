-- The image of a region, as the code computes it clock by clock. Assumes nothing.
use Prim.Native.Nat.{ℕ, zero, suc, ◌+◌, ◌-◌, ◌≤◌, ◌<◌, ◌%◌}
use native.Mathlib.Decide.{ℕ_discrete}
use native.Mathlib.Numerals.{add-one}
use native.Mathlib.Omega.{arith}
use mathlib.Core.Path.{◌≡◌, refl, sym, ap, ◌∙◌}
use mathlib.Core.Bool.{Bool, true, false, ◌||◌}
use mathlib.Core.List.{List}
use lib.ListN.{length, get_or, set, replicate}
use lib.Seq.{get_or-set_same, get_or-set_other}
use lib.Dec.{eqb}
use borrow.Author.Tests.{eq-eqb, ne_eqb, le-ltb, lt-ltb}
use Rattle.automata.specs.Comparison.{at_alone}
use Rattle.automata.specs.Clocks.{at, each, someb, one_if, count}
use Rattle.automata.specs.Edge.{idle}
use Rattle.automata.specs.Rankings.{usedb}
use Rattle.regions.specs.Values.{padded, update_of, edge_of}
use Rattle.regions.specs.Image.{settledb, settled_at, moved_interval, moved_rank, marked, dense_rank, dense_at, dense}
use Rattle.regions.specs.declared.edge.Action as action_code
use Rattle.regions.specs.declared.edge.Update as update_code
use Rattle.regions.specs.declared.edge.Edge as edge_code
use Rattle.regions.specs.declared.clock_move.Move.{Move}
use Rattle.automata.proofs.Laws.Comparison.{equal_alone}
use Rattle.automata.proofs.Laws.Count.{count_same}
use Rattle.regions.proofs.Laws.Values.{get_or_mapped, padded_next}
use Rattle.regions.proofs.Laws.Moves.{no_update}

-- updates -----------------------------------------------------------------------------------------------------------------------------

module _ (u : update_code.Update) where
  pub settled_keep : u.action ≡ action_code.TheVariants.Keep → true ≡ settledb (update_of u)
  unfolding settledb
  settled_keep e = rw (e, equal_alone)

  pub settled_constant : (k : ℕ) → u.action ≡ action_code.TheVariants.Constant k → at_alone u.comparison ≡ settledb (update_of u)
  unfolding settledb
  settled_constant k e = rw e

  pub settled_clock : (y up down : ℕ) → u.action ≡ action_code.TheVariants.Clock y up down → at_alone u.comparison ≡ settledb (update_of u)
  unfolding settledb
  settled_clock y up down e = rw e

-- the code's update of clock z
pub settled_here : (n : ℕ) (e : edge_code.Edge) → n ≤ 4 → length e.updates ≡ 4 → (z : ℕ) → z < n → settledb (update_of (get_or e.updates z no_update)) ≡ settled_at (edge_of n e) z
settled_here n e few four z l = sym (ap settledb (get_or_mapped update_of n e.updates z no_update idle (omega arith) l))

-- one clock ---------------------------------------------------------------------------------------------------------------------------

module _ (m : Move) where
  pub interval_low : m.reference - m.shift < m.top → m.reference - m.shift ≡ moved_interval m
  unfolding moved_interval
  interval_low h = omega arith

  pub interval_top : (m.reference - m.shift < m.top → ⊥) → m.top ≡ moved_interval m
  unfolding moved_interval
  interval_top h = omega arith

  pub rank_at_top : (j : ℕ) → j ≡ moved_interval m → m.top ≤ j → 0 ≡ moved_rank m
  unfolding moved_rank
  rank_at_top j e h = rw (← e, le-ltb j m.top h)

  pub rank_at_whole : (j : ℕ) → j ≡ moved_interval m → j < m.top → (j % 2 ≡ 1 → ⊥) → 0 ≡ moved_rank m
  unfolding moved_rank
  rank_at_whole j e h o = rw (← e, lt-ltb j m.top h, ne_eqb (j % 2) 1 o)

  pub rank_inside : (j : ℕ) → j ≡ moved_interval m → j < m.top → j % 2 ≡ 1 → m.rank ≡ moved_rank m
  unfolding moved_rank
  rank_inside j e h o = rw (← e, lt-ltb j m.top h, eq-eqb (j % 2) 1 o)

-- ranks -------------------------------------------------------------------------------------------------------------------------------

-- no rank is marked at first
pub none_marked : (ks : List ℕ) (n a : ℕ) → marked (replicate n false) a ≡ usedb ks 0 a
unfolding usedb someb
none_marked ks n a = go n a
  where
    go : (n a : ℕ) → marked (replicate n false) a ≡ false
    go zero a = refl
    go (suc n) zero = refl
    go (suc n) (suc a) = go n a

-- one clock more marks its rank
pub marked_more : (ks : List ℕ) (z : ℕ) (used : List Bool) → length used ≡ 5 → at ks z ≤ 4 → ((a : ℕ) → a < 5 → marked used a ≡ usedb ks z a)
    → (a : ℕ) → a < 5 → marked (set used (at ks z) true) a ≡ usedb ks (z + 1) a
unfolding usedb someb
marked_more ks z used long h f a l = rw add-one (go (ℕ_discrete (at ks z) a))
  where
    go : Dec (at ks z ≡ a) → marked (set used (at ks z) true) a ≡ eqb (at ks z) a || usedb ks z a
    go (yes e) = rw (eq-eqb (at ks z) a e, ← e) (get_or-set_same used (at ks z) true false (omega arith))
    go (no e) = rw (ne_eqb (at ks z) a e) (get_or-set_other used (at ks z) a true false (λ q. e (sym q)) ∙ f a l)

-- one rank more is counted
pub total_more : (f : ℕ → Bool) (a total t : ℕ) → total ≡ count f a → t ≡ total + one_if (f (a + 1)) → t ≡ count f (a + 1)
total_more f a total t p q = q ∙ rw (p, add-one)

pub counted_more : (f : ℕ → Bool) (a t : ℕ) (xs : List ℕ) → a + 1 < length xs → t ≡ count f (a + 1) → ((b : ℕ) → b ≤ a → at xs b ≡ count f b)
    → (b : ℕ) → b ≤ a + 1 → at (set xs (a + 1) t) b ≡ count f b
counted_more f a t xs l e h b k = go (ℕ_discrete b (a + 1))
  where
    go : Dec (b ≡ a + 1) → at (set xs (a + 1) t) b ≡ count f b
    go (yes q) = rw q (get_or-set_same xs (a + 1) t 0 l ∙ e)
    go (no q) = get_or-set_other xs (a + 1) b t 0 q ∙ h b (omega arith)

-- the counts of the marks are the new ranks
pub counted_dense : (ks : List ℕ) (n : ℕ) (used : List Bool) (xs : List ℕ) → ((a : ℕ) → a < 5 → marked used a ≡ usedb ks n a)
    → ((a : ℕ) → a < 5 → at xs a ≡ count (marked used) a) → (a : ℕ) → a ≤ 4 → at xs a ≡ dense_rank ks n a
unfolding dense_rank
counted_dense ks n used xs f g a l = g a (omega arith) ∙ count_same (marked used) (usedb ks n) a (λ b p k. f b (omega arith))

-- only the ranks of the first clocks count
pub dense_same : (ks ls : List ℕ) (n : ℕ) → ((z : ℕ) → at ks z ≡ at ls z) → dense ks n ≡ dense ls n
unfolding dense dense_rank usedb
dense_same ks ls n h = λ i. each n (λ (z : ℕ). count (λ (a : ℕ). someb n (λ (w : ℕ). eqb (h w i) a)) (h z i))

-- one clock more takes its new rank
pub dense_next : (ks : List ℕ) (n z x : ℕ) (ys : List ℕ) → z < 4 → ys ≡ padded (each z (dense_at ks n)) → x ≡ dense_rank ks n (at ks z) → set ys z x ≡ padded (each (z + 1) (dense_at ks n))
dense_next ks n z x ys h p q = padded_next (dense_at ks n) z ys x h p q

-- every clock has
pub dense_is : (ks : List ℕ) (n z : ℕ) (ys : List ℕ) → z ≡ n → ys ≡ padded (each z (dense_at ks n)) → ys ≡ padded (dense ks n)
unfolding dense
dense_is ks n z ys e p = rw e at p
