-- Every row has a point: in counts of 1 / (greatest rank + 1), each open clock's part is its rank. Assumes nothing.
use Prim.Native.Nat.{ℕ, ◌+◌, ◌*◌, ◌≤◌, ◌<◌, ◌/◌}
use native.Mathlib.Omega.{arith}
use mathlib.Core.Path.{◌≡◌, refl}
use mathlib.Core.Logic.{inl, inr}
use mathlib.Core.List.{List}
use lib.ListN.{length}
use Rattle.automata.specs.Clocks.{at, greatest}
use Rattle.automata.specs.Row.{Row, Open, IsRow}
use Rattle.automata.specs.Point.{Within, part, Contains}
use Rattle.automata.proofs.Laws.Lists.{collect, at_greatest}
use Rattle.automata.proofs.Laws.Clocks.{Kind, is_even, is_open, is_top, kind}

-- x lies in interval j, with the part w if that is open
pub record Placing (E c j w x : ℕ) : Type 0 where
  pub inside : Within E c j x
  pub wanted : Open c j → part E j x ≡ w

pub placing : (E c j w : ℕ) → j ≤ 2 * c + 1 → (Open c j → (0 < w) × (w < E)) → (x : ℕ) × Placing E c j w x
placing E c j w h b = go (kind c j h)
  where
    go : Kind c j → (x : ℕ) × Placing E c j w x
    go (is_even e) = (j / 2 * E, record { inside = inl (e, refl); wanted = λ o. omega arith })
    go (is_open o) = let f = b o in (j / 2 * E + w, record { inside = inr (inl (o, omega arith, omega arith)); wanted = λ o. omega arith })
    go (is_top t) = (c * E + 1, record { inside = inr (inr (t, omega arith)); wanted = λ o. omega arith })

pub some_point : (c : List ℕ) (r : Row) → IsRow c r → (v : List ℕ) × Contains c (greatest r.ranks + 1) v r
some_point c r row =
    let (v, e, f) = all in (
      v,
      record {
        positive = omega arith;
        sized = e;
        within = λ z h. (f z h).inside;
        ordered = λ z w hz hw oz ow. rw ((f z hz).wanted oz, (f w hw).wanted ow) (λ q. q, λ q. q);
      },
    )
  where
    D : ℕ
    D = greatest r.ranks + 1

    all : (v : List ℕ) × (length v ≡ length c) × ((z : ℕ) → z < length c → Placing D (at c z) (at r.intervals z) (at r.ranks z) (at v z))
    all = collect (λ z x. Placing D (at c z) (at r.intervals z) (at r.ranks z) x) (length c)
        (λ z h. placing D (at c z) (at r.intervals z) (at r.ranks z) (row.in_range z h) (λ o. (row.rank_open z h o, omega (arith, at_greatest r.ranks z))))
