-- An update that asks for one value: what it allows at a point of the row is just the value of its origin. Assumes nothing.
use Prim.Native.Nat.{ℕ, ◌+◌, ◌*◌, ◌≤◌, ◌<◌}
use native.Mathlib.Omega.{arith}
use mathlib.Core.Path.{◌≡◌, refl}
use mathlib.Core.Bool.{true}
use mathlib.Core.Logic.{◌↔◌}
use mathlib.Core.List.{List}
use lib.ListN.{length}
use Rattle.automata.specs.Comparison.{at_alone}
use Rattle.automata.specs.Clocks.{at, greatest}
use Rattle.automata.specs.Row.{Row, Open, IsRow}
use Rattle.automata.specs.Point.{part, Contains}
use Rattle.automata.specs.Edge.{Action, keep, constant, clock, Update, AllowedBy, BoundedBy}
use Rattle.automata.specs.Successors.{comparison_of}
use Rattle.regions.specs.Move.{move_of}
use Rattle.regions.specs.Image.{settledb}
use Rattle.regions.specs.declared.clock_move.Move.{Move}
use Rattle.automata.proofs.Laws.Comparison.{alone_law}
use Rattle.automata.proofs.Laws.Lists.{at_greatest}
use Rattle.automata.proofs.Laws.Sides.{Sides, sides, whole}
use Rattle.automata.proofs.Laws.Classes.{Classes}
use Rattle.regions.proofs.Laws.Origin.{Origin, Comes}

-- the whole value k, whatever the bound
whole_sides : (D b k : ℕ) → 0 < D → Sides D b (2 * k) (k * D)
whole_sides D b k d =
    let s = whole D k d in
    record { low = s.low; low_odd = s.low_odd; high = λ h. s.high (omega arith); high_even = s.high_even }

-- the values that are allowed are those of the origin, and its part is that of the move's rank
pub record Source (D b g : ℕ) (class : ℕ → ℕ) (Ok : ℕ → Type 0) (m : Move) : Type 0 where
  pub origin : Origin D b m
  pub comes : (x : ℕ) → Ok x ↔ Comes origin x
  pub ranked : Open origin.bound origin.interval → (0 < m.rank) × (m.rank ≤ g) × (class m.rank ≡ part D origin.interval origin.value)

module _ (c : List ℕ) (D : ℕ) (v : List ℕ) (r : Row) (R : IsRow c r) (C : Contains c D v r) (K : Classes c D v r) where
  -- an old clock's part is that of its rank
  ranked_at : (y : ℕ) → y < length c → Open (at c y) (at r.intervals y)
      → (0 < at r.ranks y) × (at r.ranks y ≤ greatest r.ranks) × (K.class (at r.ranks y) ≡ part D (at r.intervals y) (at v y))
  ranked_at y l o = (R.rank_open y l o, at_greatest r.ranks y, K.is_part y l o)

  module _ (z : ℕ) (l : z < length c) where
    -- what its action and its comparison allow
    abbrev From : ℕ → Action → Type 0
    From cmp a = Source D (at c z) (greatest r.ranks) K.class (λ x. AllowedBy D v z x cmp a) (move_of c r z (record { action = a; comparison = cmp }))

    by_action : (cmp : ℕ) (a : Action) → at_alone (comparison_of cmp a) ≡ true → BoundedBy c z a → From cmp a
    by_action cmp keep e b = record {
      origin = record {
        bound = at c z;
        interval = at r.intervals z;
        value = at v z;
        up = 0;
        down = 0;
        sides = sides D _ _ _ C.positive (C.within z l);
        reach = omega arith;
        shift = refl;
        reference = refl;
        top = refl;
      };
      comes = λ x. (λ h. omega arith, λ h. omega arith);
      ranked = ranked_at z l;
    }
    by_action cmp (constant k) e b = record {
      origin = record {
        bound = at c z;
        interval = 2 * k;
        value = k * D;
        up = 0;
        down = 0;
        sides = whole_sides D (at c z) k C.positive;
        reach = omega arith;
        shift = refl;
        reference = omega arith;
        top = refl;
      };
      comes = λ x. (λ h. let q = (alone_law cmp e x (k * D)).0 h in omega arith, λ h. (alone_law cmp e x (k * D)).1 (omega arith));
      ranked = λ o. absurd (omega arith);
    }
    by_action cmp (clock y up down) e b = record {
      origin = record {
        bound = at c y;
        interval = at r.intervals y;
        value = at v y;
        up = up;
        down = down;
        sides = sides D _ _ _ C.positive (C.within y b.0);
        reach = b.1;
        shift = refl;
        reference = refl;
        top = refl;
      };
      comes = λ x. alone_law cmp e (x + down * D) (at v y + up * D);
      ranked = ranked_at y b.0;
    }

    pub source : (u : Update) → settledb u ≡ true → BoundedBy c z u.action → From u.comparison u.action
    unfolding settledb
    source u s b = by_action u.comparison u.action s b
