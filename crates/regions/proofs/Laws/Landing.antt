-- Where the values that a deterministic edge asks for lie: from every point of a row in one row, which the definitions compute. Assumes nothing.
use Prim.Native.Nat.{ℕ, ◌≤◌, ◌<◌}
use native.Mathlib.Omega.{arith}
use mathlib.Core.Path.{◌≡◌, sym, ap, ◌∙◌}
use mathlib.Core.Bool.{true}
use mathlib.Core.Logic.{◌↔◌}
use mathlib.Core.List.{List}
use lib.ListN.{length, get_or}
use Rattle.automata.specs.Clocks.{at, greatest, each, allb}
use Rattle.automata.specs.Row.{Row, Open, IsRow}
use Rattle.automata.specs.Point.{Within, part, Contains}
use Rattle.automata.specs.Edge.{Update, Edge, idle, AllowedBy, Allowed, Bounded}
use Rattle.regions.specs.Image.{settled_at, deterministic, edge_move, reaches_at, interval_at, rank_at, dense}
use Rattle.automata.proofs.Laws.Order.{Tri, is_lt, is_eq, is_gt, tri}
use Rattle.automata.proofs.Laws.Tests.{Says, leb_law, allb_law}
use Rattle.automata.proofs.Laws.Lists.{length_each, at_each, collect}
use Rattle.automata.proofs.Laws.Clocks.{within_range}
use Rattle.automata.proofs.Laws.Positions.{Ascending}
use Rattle.automata.proofs.Laws.Classes.{Classes, classes}
use Rattle.regions.proofs.Laws.Dense.{length_dense, dense_zero, dense_positive, dense_order, dense_none_missing}
use Rattle.regions.proofs.Laws.Origin.{Comes, open_rank, shut_rank, some_value, no_value, value_within, value_part, value_open}
use Rattle.regions.proofs.Laws.Settled.{Source, source}

module _ (c : List ℕ) (e : Edge) (r : Row) where
  -- the old ranks of the new parts
  abbrev pub old_ranks : List ℕ
  old_ranks = each (length c) (rank_at c e r)

  -- the row of the new values
  abbrev pub landing : Row
  landing = record { location = e.target; intervals = each (length c) (interval_at c e r); ranks = dense old_ranks (length c) }

-- classes ascend
class_order : (F : ℕ → ℕ) (m : ℕ) → Ascending F m → (a b : ℕ) → a ≤ m → b ≤ m → (a ≤ b) ↔ (F a ≤ F b)
class_order F m s a b ha hb = go (tri a b)
  where
    go : Tri a b → (a ≤ b) ↔ (F a ≤ F b)
    go (is_lt l _) = let x = s.up a b l hb in (λ h. omega arith, λ h. omega arith)
    go (is_eq l _) = let x : F a ≡ F b = ap F l in (λ h. omega arith, λ h. omega arith)
    go (is_gt l _) = let x = s.up b a l ha in (λ h. omega arith, λ h. omega arith)

module _ (c : List ℕ) (e : Edge) (r : Row) (R : IsRow c r) (B : Bounded c e) (S : deterministic (length c) e ≡ true)
    (D : ℕ) (v : List ℕ) (C : Contains c D v r) where
  K : Classes c D v r
  K = classes c D v r R C

  abbrev update : ℕ → Update
  update z = get_or e.updates z idle

  its_source : (z : ℕ) → z < length c
      → Source D (at c z) (greatest r.ranks) K.class (λ x. AllowedBy D v z x (update z).comparison (update z).action) (edge_move c e r z)
  unfolding deterministic
  its_source z h = source c D v r R C K z h (update z) ((allb_law {P = λ z. settled_at e z ≡ true} (length c) (settled_at e) (λ z. (λ q. q, λ q. q))).0 S z h) (B.updates_in z h)

  reached_law : Says (allb (length c) (reaches_at c e r)) ((z : ℕ) → z < length c → (edge_move c e r z).shift ≤ (edge_move c e r z).reference)
  reached_law = allb_law (length c) (reaches_at c e r) (λ z. leb_law (edge_move c e r z).shift (edge_move c e r z).reference)

  -- there are new values if none is below 0
  pub lands_somewhere : allb (length c) (reaches_at c e r) ≡ true → (v' : List ℕ) × (length v' ≡ length c) × Allowed D v v' e.updates
  lands_somewhere h =
      let (v', s, f) = collect (λ z x. AllowedBy D v z x (update z).comparison (update z).action) (length c) one in
      (v', s, λ z l. f z (omega (arith, C.sized)))
    where
      one : (z : ℕ) → z < length c → (x : ℕ) × AllowedBy D v z x (update z).comparison (update z).action
      one z l =
          let (x, q) = some_value D (at c z) (edge_move c e r z) C.positive (its_source z l).origin (reached_law.0 h z l) in
          (x, ((its_source z l).comes x).1 q)

  module _ (v' : List ℕ) (sized : length v' ≡ length c) (A : Allowed D v v' e.updates) where
    abbrev J : ℕ → ℕ
    J = interval_at c e r

    value_of : (z : ℕ) (h : z < length c) → Comes (its_source z h).origin (at v' z)
    value_of z h = ((its_source z h).comes (at v' z)).0 (A z (omega (arith, C.sized)))

    -- no value is below 0
    pub lands_reached : allb (length c) (reaches_at c e r) ≡ true
    lands_reached = reached_law.1 (λ z l. no_value D (at c z) (edge_move c e r z) C.positive (its_source z l).origin (at v' z) (value_of z l))

    at_interval : (z : ℕ) → z < length c → at (landing c e r).intervals z ≡ J z
    at_interval z h = at_each (length c) (interval_at c e r) z h

    at_old : (z : ℕ) → z < length c → at (old_ranks c e r) z ≡ rank_at c e r z
    at_old z h = at_each (length c) (rank_at c e r) z h

    within' : (z : ℕ) (h : z < length c) → Within D (at c z) (J z) (at v' z)
    within' z h = value_within D (at c z) (edge_move c e r z) C.positive (its_source z h).origin (at v' z) (value_of z h)

    -- an open clock's old rank is one of the row's, and tells its part
    ranked : (z : ℕ) → z < length c → Open (at c z) (J z)
        → (0 < at (old_ranks c e r) z) × (at (old_ranks c e r) z ≤ greatest r.ranks) × (K.class (at (old_ranks c e r) z) ≡ part D (J z) (at v' z))
    ranked z h o =
        let s = its_source z h in
        let (a, b, f) = s.ranked (value_open D (at c z) (edge_move c e r z) C.positive s.origin (at v' z) (value_of z h) o) in
        rw (at_old z h, open_rank (at c z) (edge_move c e r z) s.origin o)
        (a, b, f ∙ sym (value_part D (at c z) (edge_move c e r z) C.positive s.origin (at v' z) (value_of z h) o))

    pub lands_row : IsRow c (landing c e r)
    lands_row = record {
      intervals_length = length_each (length c) (interval_at c e r);
      ranks_length = length_dense (old_ranks c e r) (length c);
      in_range = λ z h. rw (at_interval z h) (within_range D (at c z) (J z) (at v' z) (within' z h));
      rank_open = λ z h o. dense_positive (old_ranks c e r) (length c) z h (ranked z h (rw (at_interval z h) at o)).0;
      rank_shut = λ z h o.
          dense_zero (old_ranks c e r) (length c) z h (at_old z h ∙ shut_rank (at c z) (edge_move c e r z) (its_source z h).origin (λ q. o (rw (at_interval z h) q)));
      dense = dense_none_missing (old_ranks c e r) (length c);
    }

    pub lands_in : Contains c D v' (landing c e r)
    lands_in = record {
      positive = C.positive;
      sized = sized;
      within = λ z h. rw (at_interval z h) (within' z h);
      ordered = λ z w hz hw oz ow.
          let (az, bz, fz) = ranked z hz (rw (at_interval z hz) at oz) in
          let (aw, bw, fw) = ranked w hw (rw (at_interval w hw) at ow) in
          let d = dense_order (old_ranks c e r) (length c) z w hz hw in
          let k = class_order K.class (greatest r.ranks) K.ascending _ _ bz bw in
          rw (at_interval z hz, at_interval w hw, ← fz, ← fw) (λ q. k.0 (d.0 q), λ q. d.1 (k.1 q));
    }
