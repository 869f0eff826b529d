-- An edge leads where its sides lead: to a value that is not the one it excludes, from below or from above. Assumes nothing.
use Prim.Native.Nat.{ℕ, zero, suc, ◌+◌, ◌*◌, ◌%◌, ◌/◌, ◌^◌, ◌≤◌, ◌<◌}
use native.Mathlib.Omega.{arith}
use Rattle.std.proofs.lemmas.Nat.{shr-shr}
use Rattle.std.proofs.Math.Nat.{div-one}
use mathlib.Core.Path.{◌≡◌, refl, sym, ap, ◌∙◌, subst}
use mathlib.Core.Bool.{Bool, true, false, cond}
use mathlib.Core.Logic.{◌↔◌, inl, inr, ⊎_elim}
use mathlib.Core.List.{List, map}
use lib.ListN.{length, get_or, length-map}
use lib.Dec.{eqb}
use borrow.Author.Tests.{eq-eqb, ne_eqb}
use Rattle.automata.specs.Comparison.{below, above, sides_alone}
use Rattle.automata.specs.Checks.{every}
use Rattle.automata.specs.Clocks.{at, one_if, allb}
use Rattle.automata.specs.Row.{Row, IsRow}
use Rattle.automata.specs.Rows.{from}
use Rattle.automata.specs.Edge.{Action, keep, constant, clock, Update, idle, Edge, AllowedBy, Bounded, Leads}
use Rattle.automata.specs.Closed.{Mem}
use Rattle.automata.specs.Successors.{edge_rows}
use Rattle.automata.proofs.Laws.Tests.{never, and_law, implies_law, allb_law, eqb_law}
use Rattle.automata.proofs.Laws.Checks.{every_law}
use Rattle.automata.proofs.Laws.Lists.{length_from}
use Rattle.automata.proofs.Laws.Comparison.{below_law, above_law, sides_law}
use Rattle.automata.proofs.Laws.Successors.{edge_rows_law}
use Rattle.skylines.specs.Sides.{halved, bit, two_sided, sided_update, two_sided_at, sided_at, sided, may_choose, is_choice}

-- ways to choose ----------------------------------------------------------------------------------------------------------------

-- k without its z lowest bits is k shifted by z
pub halved_is : (k z : ℕ) → halved k z ≡ k / 2 ^ z
unfolding halved
halved_is k zero = sym (div-one k)
halved_is k (suc z) = halved_is (k / 2) z ∙ shr-shr k 1 z ∙ (let e : 1 + z ≡ suc z = omega arith in ap (λ (m : ℕ). k / 2 ^ m) e)

-- two to the n
twice : ℕ → ℕ
twice zero = 1
twice (suc n) = 2 * twice n

-- k gives each of n clocks a side that it can have
record Chosen (P : ℕ → Bool → Type 0) (n k : ℕ) : Type 0 where
  few : k < twice n
  none_more : halved k n ≡ 0
  each_has : (z : ℕ) → z < n → P z (bit k z)

one_chosen : (n m : ℕ) (P : ℕ → Bool → Type 0) (b : Bool) → P 0 b → Chosen (λ (z : ℕ). P (suc z)) n m → Chosen P (suc n) (one_if b + 2 * m)
unfolding halved twice
one_chosen n m P b p w = record {
  few = under b w.few;
  none_more = ap (λ (k : ℕ). halved k n) (half b) ∙ w.none_more;
  each_has = λ z l. has z l;
}
  where
    half : (b : Bool) → (one_if b + 2 * m) / 2 ≡ m
    half true = omega arith
    half false = omega arith

    under : (b : Bool) → m < twice n → one_if b + 2 * m < 2 * twice n
    under true l = omega arith
    under false l = omega arith

    lowest : (b : Bool) → b ≡ eqb ((one_if b + 2 * m) % 2) 1
    lowest true = sym (eq-eqb ((1 + 2 * m) % 2) 1 (omega arith))
    lowest false = sym (ne_eqb ((0 + 2 * m) % 2) 1 (λ e. omega arith))

    has : (z : ℕ) → z < suc n → P z (bit (one_if b + 2 * m) z)
    has zero l = subst (P 0) (lowest b) p
    has (suc z) l = subst (λ (k : ℕ). P (suc z) (bit k z)) (sym (half b)) (w.each_has z (omega arith))

-- if each clock can have a side, some number chooses them all
choose : (n : ℕ) (P : ℕ → Bool → Type 0) → ((z : ℕ) → z < n → (b : Bool) × P z b) → (k : ℕ) × Chosen P n k
unfolding halved twice
choose zero P h = (0, record { few = omega arith; none_more = refl; each_has = λ z l. absurd (omega arith) })
choose (suc n) P h =
    let (b, p) = h 0 (omega arith) in
    let (m, w) = choose n (λ (z : ℕ). P (suc z)) (λ z l. h (suc z) (omega arith)) in
    (one_if b + 2 * m, one_chosen n m P b p w)

twice_more : (n m : ℕ) → n ≤ m → twice n ≤ twice m
unfolding twice
twice_more zero zero h = omega arith
twice_more zero (suc m) h = omega (arith, twice_more zero m (omega arith))
twice_more (suc n) zero h = absurd (omega arith)
twice_more (suc n) (suc m) h = omega (arith, twice_more n m (omega arith))

sixteen : twice 4 ≡ 16
unfolding twice
sixteen = refl

-- one update --------------------------------------------------------------------------------------------------------------------

module _ (D : ℕ) (v : List ℕ) (z x : ℕ) where
  abbrev Allows : Update → Type 0
  Allows u = AllowedBy D v z x u.comparison u.action

  abbrev by_clock : ℕ → ℕ → ℕ → ℕ → Update
  by_clock cmp y up down = record { action = clock y up down; comparison = cmp }

  -- what the update allows by one of its sides, it allows
  side_allows : (cmp : ℕ) (a : Action) (b : Bool) → Allows (sided_update (record { action = a; comparison = cmp }) b) → AllowedBy D v z x cmp a
  unfolding sided_update
  side_allows cmp keep b h = h
  side_allows cmp (constant k) b h = h
  side_allows cmp (clock y up down) b h = go (sides_alone cmp) refl b h
    where
      go : (t : Bool) → sides_alone cmp ≡ t → (b : Bool) → Allows (cond {A = Update} t (by_clock (cond b above below) y up down) (by_clock cmp y up down))
          → Allows (by_clock cmp y up down)
      go false q b h = h
      go true q true h = (sides_law cmp q (x + down * D) (at v y + up * D)).1 (inr ((above_law (x + down * D) (at v y + up * D)).0 h))
      go true q false h = (sides_law cmp q (x + down * D) (at v y + up * D)).1 (inl ((below_law (x + down * D) (at v y + up * D)).0 h))

  -- and what it allows, it allows by one of them
  some_side : (cmp : ℕ) (a : Action) → AllowedBy D v z x cmp a
      → (b : Bool) × ((b ≡ true → two_sided (record { action = a; comparison = cmp }) ≡ true) × Allows (sided_update (record { action = a; comparison = cmp }) b))
  unfolding sided_update
  some_side cmp keep h = (false, (λ e. never e, h))
  some_side cmp (constant k) h = (false, (λ e. never e, h))
  some_side cmp (clock y up down) h = go (sides_alone cmp) refl
    where
      go : (t : Bool) → sides_alone cmp ≡ t
          → (b : Bool) × ((b ≡ true → t ≡ true) × Allows (cond {A = Update} t (by_clock (cond b above below) y up down) (by_clock cmp y up down)))
      go false q = (false, (λ e. never e, h))
      go true q =
          ⊎_elim
          (λ l. (false, (λ e. refl, (below_law (x + down * D) (at v y + up * D)).1 l)))
          (λ l. (true, (λ e. refl, (above_law (x + down * D) (at v y + up * D)).1 l)))
          ((sides_law cmp q (x + down * D) (at v y + up * D)).0 h)

-- what is updated stays
sided_action : (u : Update) (b : Bool) → (sided_update u b).action ≡ u.action
unfolding sided_update
sided_action u b = go (two_sided u)
  where
    go : (t : Bool) → (cond {A = Update} t (record { action = u.action; comparison = cond b above below }) u).action ≡ u.action
    go true = refl
    go false = refl

-- edges -------------------------------------------------------------------------------------------------------------------------

pub get_or_made : {A : Type 0} (f : ℕ → A) (a n z : ℕ) (d : A) → z < n → get_or (map f (from a n)) z d ≡ f (a + z)
get_or_made f a zero z d l = absurd (omega arith)
get_or_made f a (suc n) zero d l = let e : a ≡ a + 0 = omega arith in ap f e
get_or_made f a (suc n) (suc z) d l = let e : a + 1 + z ≡ a + suc z = omega arith in get_or_made f (a + 1) n z d (omega arith) ∙ ap f e

pub made_length : {A : Type 0} (f : ℕ → A) (a n : ℕ) → length (map f (from a n)) ≡ n
made_length f a n = length-map (from a n) f ∙ length_from a n

module _ (n : ℕ) (e : Edge) (k : ℕ) where
  -- the update of clock z
  sided_there : (z : ℕ) → z < n → get_or (sided n e k).updates z idle ≡ sided_at e k z
  unfolding sided
  sided_there z l = get_or_made (sided_at e k) 0 n z idle l ∙ (let q : 0 + z ≡ z = omega arith in ap (sided_at e k) q)

  sided_length : length (sided n e k).updates ≡ n
  unfolding sided
  sided_length = made_length (sided_at e k) 0 n

module _ (c : List ℕ) (e : Edge) (B : Bounded c e) (k : ℕ) where
  -- and so do the bound rules
  pub sided_bounded : Bounded c (sided (length c) e k)
  unfolding sided
  sided_bounded = record {
    guards_in = B.guards_in;
    updates_length = sided_length (length c) e k;
    updates_in = λ z l. rw (sided_there (length c) e k z l, sided_action (get_or e.updates z idle) (bit k z)) (B.updates_in z l);
  }

itself : (b : Bool) → (b ≡ true) ↔ (b ≡ true)
itself b = (λ h. h, λ h. h)

pub choice_law : (n : ℕ) (e : Edge) (k : ℕ) → (is_choice n e k ≡ true) ↔ (((z : ℕ) → z < n → bit k z ≡ true → two_sided_at e z ≡ true) × (halved k n ≡ 0))
unfolding is_choice
choice_law n e k =
    and_law (allb n (may_choose e k)) (eqb (halved k n) 0)
    (allb_law n (may_choose e k) (λ z. implies_law (bit k z) (two_sided_at e z) (itself (bit k z)) (itself (two_sided_at e z))))
    (eqb_law (halved k n) 0)

module _ (c : List ℕ) (e : Edge) (r r' : Row) where
  -- where a side of the edge leads, the edge leads
  side_leads : (k : ℕ) → Leads c (sided (length c) e k) r r' → Leads c e r r'
  unfolding sided
  side_leads k L = record {
    D = L.D;
    before = L.before;
    after = L.after;
    from = L.from;
    to = L.to;
    is_row = L.is_row;
    leaves = L.leaves;
    enters = L.enters;
    guarded = L.guarded;
    allowed = λ z l.
        let u = get_or e.updates z idle in
        side_allows L.D L.before z (at L.after z) u.comparison u.action (bit k z)
        (rw (sided_there (length c) e k z (omega (arith, L.from.sized))) at (L.allowed z l));
  }

  -- and where the edge leads, one of them leads
  some_leads : length c ≤ 4 → Leads c e r r' → (k : ℕ) × ((k < 16) × ((is_choice (length c) e k ≡ true) × Leads c (sided (length c) e k) r r'))
  unfolding sided
  some_leads few L =
      let (k, w) = choose (length c) Has (λ z l. some_side L.D L.before z (at L.after z) (get_or e.updates z idle).comparison (get_or e.updates z idle).action (L.allowed z (omega (arith, L.from.sized)))) in (
        k,
        (
          omega (arith, w.few, twice_more (length c) 4 few, sixteen),
          (
            (choice_law (length c) e k).1 (λ z l. (w.each_has z l).0, w.none_more),
            record {
              D = L.D;
              before = L.before;
              after = L.after;
              from = L.from;
              to = L.to;
              is_row = L.is_row;
              leaves = L.leaves;
              enters = L.enters;
              guarded = L.guarded;
              allowed = λ z l. rw (sided_there (length c) e k z (omega (arith, L.from.sized))) (w.each_has z (omega (arith, L.from.sized))).1;
            },
          ),
        ),
      )
    where
      Has : ℕ → Bool → Type 0
      Has z b = (b ≡ true → two_sided_at e z ≡ true) × Allows L.D L.before z (at L.after z) (sided_update (get_or e.updates z idle) b)

  module _ (few : length c ≤ 4) (R : IsRow c r) (B : Bounded c e) where
    -- the edge leads where its sides lead
    pub sides_lead : Mem r' (edge_rows c e r) ↔ ((k : ℕ) × ((k < 16) × ((is_choice (length c) e k ≡ true) × Mem r' (edge_rows c (sided (length c) e k) r))))
    sides_lead = (
      λ m. let (k, (l, (v, L))) = some_leads few ((edge_rows_law c e r r' R B).0 m) in (k, (l, (v, (edge_rows_law c (sided (length c) e k) r r' R (sided_bounded c e B k)).1 L))),
      λ w. let (k, (l, (v, m))) = w in (edge_rows_law c e r r' R B).1 (side_leads k ((edge_rows_law c (sided (length c) e k) r r' R (sided_bounded c e B k)).0 m)),
    )

-- a test of all rows that the edge leads to
pub sides_every : (c : List ℕ) (e : Edge) (r : Row) → length c ≤ 4 → IsRow c r → Bounded c e → (p : Row → Bool)
    → (every p (edge_rows c e r) ≡ true) ↔ ((k : ℕ) → k < 16 → is_choice (length c) e k ≡ true → every p (edge_rows c (sided (length c) e k) r) ≡ true)
sides_every c e r few R B p = (
  λ h k l v. (every_law p (λ x. itself (p x)) (edge_rows c (sided (length c) e k) r)).1 (λ x m. (every_law p (λ x. itself (p x)) (edge_rows c e r)).0 h x ((sides_lead c e r x few R B).1 (k, (l, (v, m))))),
  λ h. (every_law p (λ x. itself (p x)) (edge_rows c e r)).1 (λ x m. let (k, (l, (v, i))) = (sides_lead c e r x few R B).0 m in (every_law p (λ x. itself (p x)) (edge_rows c (sided (length c) e k) r)).0 (h k l v) x i),
)
