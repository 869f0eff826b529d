-- `Leads` is a symbolic test on the two rows, whatever the point. Assumes nothing.
use Prim.Native.Nat.{ℕ, suc, ◌+◌, ◌*◌, ◌≤◌, ◌<◌}
use native.Mathlib.Nat.{mul-pos}
use native.Mathlib.Omega.{arith}
use mathlib.Core.Path.{◌≡◌, sym, ap, ◌∙◌}
use mathlib.Core.Bool.{true}
use mathlib.Core.Logic.{◌↔◌}
use mathlib.Core.List.{List}
use lib.ListN.{length, get_or}
use Rattle.automata.specs.Clocks.{at, greatest}
use Rattle.automata.specs.Row.{Row, IsRow}
use Rattle.automata.specs.Point.{Contains, scaled}
use Rattle.automata.specs.Edge.{Guarded, Update, Edge, idle, AllowedBy, Allowed, Bounded, Leads}
use Rattle.automata.specs.Successors.{guardsb, clock_fits}
use Rattle.automata.proofs.Laws.Order.{Tri, is_lt, is_eq, is_gt, tri}
use Rattle.automata.proofs.Laws.Lists.{collect, length_scaled, at_greatest}
use Rattle.automata.proofs.Laws.Scale.{scaling}
use Rattle.automata.proofs.Laws.Guards.{guards_law}
use Rattle.automata.proofs.Laws.Points.{Placing, some_point}
use Rattle.automata.proofs.Laws.Positions.{After, pos, pos_bound, pos_compare, pos_after, pos_zero, value, value_compare, value_lt, value_pos, value_small, after_chain}
use Rattle.automata.proofs.Laws.Classes.{Classes, classes}
use Rattle.automata.proofs.Laws.Update.{forth, back}

-- the update of clock z
abbrev pub update : Edge → ℕ → Update
update e z = get_or e.updates z idle

-- positions for the new ranks 1, 2, .. among the old ones, where every clock fits
pub record Fitting (c : List ℕ) (e : Edge) (r r' : Row) (P : ℕ → ℕ) : Type 0 where
  pub base : P 0 ≡ 0
  pub ordered : (a : ℕ) → a < greatest r'.ranks → After (P a) (P (suc a))
  pub bounded : (a : ℕ) → a ≤ greatest r'.ranks → P a ≤ 2 * greatest r.ranks
  pub fitting : (z : ℕ) → z < length c → clock_fits c e r r' z (P (at r'.ranks z)) ≡ true

-- the edge leads from r to r', as far as the rows tell
pub record Placed (c : List ℕ) (e : Edge) (r r' : Row) : Type 0 where
  pub is_row : IsRow c r'
  pub leaves : r.location ≡ e.source
  pub enters : r'.location ≡ e.target
  pub guarded : guardsb r e.guards ≡ true
  pub places : ℕ → ℕ
  pub placed : Fitting c e r r' places

-- what leads is placed
pub leads_placed : (c : List ℕ) (e : Edge) (r r' : Row) → IsRow c r → Bounded c e → Leads c e r r' → Placed c e r r'
unfolding clock_fits
leads_placed c e r r' R B L = record {
  is_row = L.is_row;
  leaves = L.leaves;
  enters = L.enters;
  guarded = (guards_law c L.D L.before r L.from e.guards B.guards_in).1 L.guarded;
  places = P;
  placed = record {
    base = ap (pos F m) new.ascending.base ∙ pos_zero F m old.ascending;
    ordered = λ a h. pos_after F m (new.class a) (new.class (suc a)) old.ascending (new.ascending.up a (suc a) (omega arith) h);
    bounded = λ a h. pos_bound F m (new.class a);
    fitting = λ z l.
        forth c r R L.D L.before L.from old z (at r'.intervals z) (at L.after z) (P (at r'.ranks z)) (update e z).comparison (update e z).action
        l (B.updates_in z l) (L.to.within z l) (λ o q q0 qm. rw (← new.is_part z l o) (sym (pos_compare F m (new.class (at r'.ranks z)) q old.ascending q0 qm)))
        (L.allowed z (omega (arith, L.from.sized)));
  };
}
  where
    m : ℕ
    m = greatest r.ranks

    old : Classes c L.D L.before r
    old = classes c L.D L.before r R L.from

    new : Classes c L.D L.after r'
    new = classes c L.D L.after r' L.is_row L.to

    F : ℕ → ℕ
    F = old.class

    P : ℕ → ℕ
    P a = pos F m (new.class a)

-- what is placed leads, from any point, in a unit k times finer
module _ (c : List ℕ) (e : Edge) (r r' : Row) (R : IsRow c r) (B : Bounded c e) (p : Placed c e r r')
    (D : ℕ) (v : List ℕ) (C : Contains c D v r) (k : ℕ) (k2 : 2 ≤ k) (kr : greatest r'.ranks < k) where
  m : ℕ
  m = greatest r.ranks

  old : Classes c D v r
  old = classes c D v r R C

  -- the new part of rank a
  goal : ℕ → ℕ
  goal a = value k old.class (p.places a) a

  record Good (z x : ℕ) : Type 0 where
    placing : Placing (k * D) (at c z) (at r'.intervals z) (goal (at r'.ranks z)) x
    allowed : AllowedBy (k * D) (scaled k v) z x (update e z).comparison (update e z).action

  one : (z : ℕ) → z < length c → (x : ℕ) × Good z x
  unfolding clock_fits goal m
  one z l =
      let a : ℕ = at r'.ranks z in
      let ag : a ≤ greatest r'.ranks = at_greatest r'.ranks z in
      let pb : p.places a ≤ 2 * m = p.placed.bounded a ag in
      let (x, pl, ok) = back c r R D v C old k k2 z (at r'.intervals z) (goal a) (p.places a) (update e z).comparison (update e z).action l
      (B.updates_in z l) (p.is_row.in_range z l) (λ o.
      let a0 : 0 < a = p.is_row.rank_open z l o in (
        value_pos k old.class m old.ascending (p.places a) a pb a0 (omega arith),
        value_small k old.class m old.ascending D (p.places a) a old.small pb (omega arith),
        λ q q0 qm. value_compare k old.class m old.ascending (p.places a) a q pb a0 (omega arith) q0 qm,
      ))
      (p.placed.fitting z l) in
      (x, record { placing = pl; allowed = ok })

  goal_lt : (a b : ℕ) → a < b → b ≤ greatest r'.ranks → goal a < goal b
  unfolding goal m
  goal_lt a b h g =
      value_lt k old.class m old.ascending (p.places a) (p.places b) a b (p.placed.bounded b g) h (omega arith)
      (after_chain p.places (greatest r'.ranks) p.placed.ordered a b h g)

  goal_order : (a b : ℕ) → a ≤ greatest r'.ranks → b ≤ greatest r'.ranks → (a ≤ b) ↔ (goal a ≤ goal b)
  goal_order a b ga gb = go (tri a b)
    where
      go : Tri a b → (a ≤ b) ↔ (goal a ≤ goal b)
      go (is_lt l _) = let x = goal_lt a b l gb in (λ h. omega arith, λ h. omega arith)
      go (is_eq l _) = let x : goal a ≡ goal b = ap goal l in (λ h. omega arith, λ h. omega arith)
      go (is_gt l _) = let x = goal_lt b a l ga in (λ h. omega arith, λ h. omega arith)

  compatible : (v' : List ℕ) × Contains c (k * D) v' r' × Allowed (k * D) (scaled k v) v' e.updates
  compatible =
      let (v', s, f) = collect Good (length c) one in (
        v',
        record {
          positive = mul-pos (omega arith) C.positive;
          sized = s;
          within = λ z l. (f z l).placing.inside;
          ordered = λ z w lz lw oz ow.
              rw ((f z lz).placing.wanted oz, (f w lw).placing.wanted ow)
              (goal_order (at r'.ranks z) (at r'.ranks w) (at_greatest r'.ranks z) (at_greatest r'.ranks w));
        },
        λ z h. (f z (omega (arith, length_scaled k v, C.sized))).allowed,
      )

-- FROM ANY POINT: what is placed leads from every point of the row, in any unit k times finer
pub from_point : (c : List ℕ) (e : Edge) (r r' : Row) → IsRow c r → Bounded c e → Placed c e r r'
    → (D : ℕ) (v : List ℕ) → Contains c D v r → (k : ℕ) → 2 ≤ k → greatest r'.ranks < k
    → (v' : List ℕ) × Contains c (k * D) v' r' × Guarded (k * D) (scaled k v) e.guards × Allowed (k * D) (scaled k v) v' e.updates
from_point c e r r' R B p D v C k k2 kr =
    let (v', to, allowed) = compatible c e r r' R B p D v C k k2 kr in
    (v', to, (guards_law c (k * D) (scaled k v) r ((scaling k (omega arith) c D v r).0 C) e.guards B.guards_in).0 p.guarded, allowed)

pub placed_leads : (c : List ℕ) (e : Edge) (r r' : Row) → IsRow c r → Bounded c e → Placed c e r r' → Leads c e r r'
placed_leads c e r r' R B p =
    let (v, C) = some_point c r R in
    let k : ℕ = greatest r'.ranks + 2 in
    let (v', to, guarded, allowed) = from_point c e r r' R B p (greatest r.ranks + 1) v C k (omega arith) (omega arith) in
    record {
      D = k * (greatest r.ranks + 1);
      before = scaled k v;
      after = v';
      from = (scaling k (omega arith) c (greatest r.ranks + 1) v r).0 C;
      to = to;
      is_row = p.is_row;
      leaves = p.leaves;
      enters = p.enters;
      guarded = guarded;
      allowed = allowed;
    }
