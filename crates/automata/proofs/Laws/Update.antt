-- The law of one clock's update: the test on its new interval and position, against what the update allows. Assumes nothing.
use Prim.Native.Nat.{ℕ, ◌+◌, ◌*◌, ◌-◌, ◌≤◌, ◌<◌, ◌%◌, compare, Ordering}
use native.Mathlib.Omega.{arith}
use mathlib.Core.Path.{◌≡◌, refl, sym, ap, ◌∙◌}
use mathlib.Core.Bool.{Bool, true, false, ◌&&◌, ◌||◌}
use mathlib.Core.Logic.{◌⊎◌, inl, inr}
use mathlib.Core.List.{List}
use lib.ListN.{length}
use lib.Dec.{eqb, leb}
use Rattle.automata.specs.Comparison.{equal, answer, holds, some_answer}
use Rattle.automata.specs.Clocks.{at, greatest}
use Rattle.automata.specs.Row.{Row, Open, IsRow}
use Rattle.automata.specs.Point.{Within, part, Contains, scaled}
use Rattle.automata.specs.Edge.{Action, keep, constant, clock, AllowedBy, BoundedBy}
use Rattle.automata.specs.Successors.{Rel, fixed, free, parts, relation, rel_clock, rel, comparison_of, fits}
use Rattle.automata.proofs.Laws.Order.{compare_lt, compare_eq, compare_gt}
use Rattle.automata.proofs.Laws.Comparison.{equal_law, some_order}
use Rattle.automata.proofs.Laws.Tests.{Says, refutes, and_law, eqb_law, leb_law}
use Rattle.automata.proofs.Laws.Lists.{at_scaled, at_greatest}
use Rattle.automata.proofs.Laws.Clocks.{within_range}
use Rattle.automata.proofs.Laws.Scale.{scaling}
use Rattle.automata.proofs.Laws.Sides.{Sides, sides, less, whole, compare_fixed, compare_parts}
use Rattle.automata.proofs.Laws.Guards.{within_compare}
use Rattle.automata.proofs.Laws.Points.{Placing, placing}
use Rattle.automata.proofs.Laws.Positions.{gap}
use Rattle.automata.proofs.Laws.Classes.{Classes, finer_classes}

-- what the rows tell ----------------------------------------------------------------------------------------------------------------------

data Case (t j J I q : ℕ) : Type 0 where
  by_choice : j ≡ t → J ≤ I → relation t j J I q ≡ free → Case t j J I q
  by_parts : (j ≡ t → ⊥) → J ≡ I → j % 2 ≡ 1 → relation t j J I q ≡ parts q → Case t j J I q
  by_intervals : (j ≡ t → I < J) → (J ≡ I → j % 2 ≡ 0) → relation t j J I q ≡ fixed (compare J I) → Case t j J I q

case : (t j J I q : ℕ) → Case t j J I q
unfolding relation
case t j J I q = go chosen refl shared refl
  where
    chosen : Bool
    chosen = eqb j t && leb J I

    shared : Bool
    shared = eqb J I && eqb (j % 2) 1

    chosen_law : Says chosen ((j ≡ t) × (J ≤ I))
    chosen_law = and_law (eqb j t) (leb J I) (eqb_law j t) (leb_law J I)

    shared_law : Says shared ((J ≡ I) × (j % 2 ≡ 1))
    shared_law = and_law (eqb J I) (eqb (j % 2) 1) (eqb_law J I) (eqb_law (j % 2) 1)

    go : (a : Bool) → chosen ≡ a → (b : Bool) → shared ≡ b → Case t j J I q
    go true p b s = by_choice (chosen_law.0 p).0 (chosen_law.0 p).1 (rw p)
    go false p true s =
        let (e, o) = shared_law.0 s in
        by_parts (λ h. refutes chosen chosen_law p (h, omega arith)) e o (rw (p, s))
    go false p false s =
        by_intervals (λ h. let n : J ≤ I → ⊥ = λ l. refutes chosen chosen_law p (h, l) in omega arith)
        (λ h. let n : j % 2 ≡ 1 → ⊥ = λ o. refutes shared shared_law s (h, o) in omega arith) (rw (p, s))

-- answers -------------------------------------------------------------------------------------------------------------------------------

-- a comparison fits where any order can be had just if it allows some order
free_law : (cmp p : ℕ) → Says (fits cmp free p) ((o : Ordering) × (answer cmp o ≡ true))
unfolding fits some_answer
free_law cmp p = (found (answer cmp Ordering.lt) refl (answer cmp Ordering.eq) refl, λ t. some_order cmp t.0 t.1)
  where
    found : (a : Bool) → answer cmp Ordering.lt ≡ a → (b : Bool) → answer cmp Ordering.eq ≡ b
        → (a || b || answer cmp Ordering.gt) ≡ true → (o : Ordering) × (answer cmp o ≡ true)
    found true e b f h = (Ordering.lt, e)
    found false e true f h = (Ordering.eq, f)
    found false e false f h = (Ordering.gt, h)

-- the law of one clock ---------------------------------------------------------------------------------------------------------

-- around a value T there is room above B
around : (B S T cmp : ℕ) (o : Ordering) → B + 2 + S ≤ T → answer cmp o ≡ true → (x : ℕ) × (B < x) × (holds cmp (x + S) T ≡ true)
unfolding holds
around B S T cmp Ordering.lt h a =
    (T - S - 1, omega arith, ap (answer cmp) (compare_lt (T - S - 1 + S) T (omega arith)) ∙ a)
around B S T cmp Ordering.eq h a =
    (T - S, omega arith, ap (answer cmp) (compare_eq (T - S + S) T (omega arith)) ∙ a)
around B S T cmp Ordering.gt h a =
    (T - S + 1, omega arith, ap (answer cmp) (compare_gt (T - S + 1 + S) T (omega arith)) ∙ a)

choose : (k D c c' i y down up cmp : ℕ) (o : Ordering) → 2 ≤ k → 0 < D → Sides D c' i y → 2 * c + 1 + 2 * down ≤ i + 2 * up → answer cmp o ≡ true
    → (x : ℕ) × (c * (k * D) < x) × (holds cmp (x + down * (k * D)) (k * y + up * (k * D)) ≡ true)
choose k D c c' i y down up cmp o k2 d s h a =
    let f : c * D + down * D < y + up * D = less D c c' (2 * c) i down up (c * D) y (whole D c d) s (omega arith) (omega arith) in
    let g : k * (c * D + down * D) + k ≤ k * (y + up * D) = gap k (c * D + down * D) (y + up * D) f in
    around (c * (k * D)) (down * (k * D)) (k * y + up * (k * D)) cmp o (omega arith) a

-- at one scale: a row, a point of it, and its classes of fractional parts
module _ (c : List ℕ) (r : Row) (R : IsRow c r) (E : ℕ) (u : List ℕ) (C : Contains c E u r) (K : Classes c E u r) where
  -- the position p tells the order of the part w to each class
  abbrev pub PlacedAt : ℕ → ℕ → Type 0
  PlacedAt p w = (q : ℕ) → 0 < q → q ≤ greatest r.ranks → compare w (K.class q) ≡ compare (p + 1) (2 * q)

  -- either any order can be had, or the test tells what holds
  abbrev Settled : ℕ → ℕ → ℕ → ℕ → ℕ → ℕ → ℕ → ℕ → Type 0
  Settled z j x p y up down cmp =
      ((j ≡ 2 * at c z + 1) × (j + 2 * down ≤ at r.intervals y + 2 * up) × (rel_clock c r z j y up down ≡ free))
      ⊎ (fits cmp (rel_clock c r z j y up down) p ≡ holds cmp (x + down * E) (at u y + up * E))

  settled : (z j x p y up down cmp : ℕ) → y < length c → at c z + down ≤ at c y + up → Within E (at c z) j x
      → (Open (at c z) j → PlacedAt p (part E j x)) → Settled z j x p y up down cmp
  unfolding fits holds
  settled z j x p y up down cmp l bound w at_p =
      go (case (2 * at c z + 1) j (j + 2 * down) (i + 2 * up) (at r.ranks y))
    where
      i : ℕ
      i = at r.intervals y

      s : Sides E (at c z) j x
      s = sides E (at c z) j x C.positive w

      t : Sides E (at c y) i (at u y)
      t = sides E (at c y) i (at u y) C.positive (C.within y l)

      jr : j ≤ 2 * at c z + 1
      jr = within_range E (at c z) j x w

      go : Case (2 * at c z + 1) j (j + 2 * down) (i + 2 * up) (at r.ranks y) → Settled z j x p y up down cmp
      go (by_choice a b e) = inl (a, b, e)
      go (by_parts a b o e) =
          let oj : Open (at c z) j = omega (arith, jr) in
          let oi : Open (at c y) i = omega arith in
          inr (ap (λ (x : Rel). fits cmp x p) e
          ∙ ap (answer cmp) (sym (at_p oj (at r.ranks y) (R.rank_open y l oi) (at_greatest r.ranks y))
          ∙ ap (compare (part E j x)) (K.is_part y l oi)
          ∙ sym (compare_parts E (at c z) (at c y) j i down up x (at u y) s t bound b)))
      go (by_intervals a b e) =
          inr (ap (λ (x : Rel). fits cmp x p) e
          ∙ ap (answer cmp) (sym (compare_fixed E (at c z) (at c y) j i down up x (at u y) s t bound jr (R.in_range y l) a b)))

  -- from a value to the test
  forth_clock : (z j x p y up down cmp : ℕ) → y < length c → at c z + down ≤ at c y + up → Within E (at c z) j x
      → (Open (at c z) j → PlacedAt p (part E j x)) → holds cmp (x + down * E) (at u y + up * E) ≡ true → fits cmp (rel_clock c r z j y up down) p ≡ true
  unfolding holds
  forth_clock z j x p y up down cmp l bound w at_p h = go (settled z j x p y up down cmp l bound w at_p)
    where
      go : Settled z j x p y up down cmp → fits cmp (rel_clock c r z j y up down) p ≡ true
      go (inl e) = ap (λ (x : Rel). fits cmp x p) e.2 ∙ (free_law cmp p).1 (compare (x + down * E) (at u y + up * E), h)
      go (inr e) = e ∙ h

  pub forth : (z j x p cmp : ℕ) (a : Action) → z < length c → BoundedBy c z a → Within E (at c z) j x
      → (Open (at c z) j → PlacedAt p (part E j x)) → AllowedBy E u z x cmp a → fits (comparison_of cmp a) (rel c r z j a) p ≡ true
  unfolding fits holds
  forth z j x p cmp keep l b w at_p h = forth_clock z j x p z 0 0 equal l (omega arith) w at_p ((equal_law (x + 0 * E) (at u z + 0 * E)).1 (omega arith))
  forth z j x p cmp (constant k) l b w at_p h = ap (answer cmp) (sym (within_compare E (at c z) j x k C.positive b w)) ∙ h
  forth z j x p cmp (clock y up down) l b w at_p h = forth_clock z j x p y up down cmp b.0 b.1 w at_p h

-- from the test to a value, at the k-fold scale, for any point v of the row; w is the part wanted where the new interval is open
module _ (c : List ℕ) (r : Row) (R : IsRow c r) (D : ℕ) (v : List ℕ) (C : Contains c D v r) (K : Classes c D v r) (k : ℕ) (k2 : 2 ≤ k) where
  finer : Contains c (k * D) (scaled k v) r
  finer = (scaling k (omega arith) c D v r).0 C

  abbrev Wanted : ℕ → ℕ → Type 0
  Wanted p w = (0 < w) × (w < k * D) × ((q : ℕ) → 0 < q → q ≤ greatest r.ranks → compare w (k * K.class q) ≡ compare (p + 1) (2 * q))

  back_clock : (z j w p y up down cmp : ℕ) → y < length c → at c z + down ≤ at c y + up → j ≤ 2 * at c z + 1
      → (Open (at c z) j → Wanted p w) → fits cmp (rel_clock c r z j y up down) p ≡ true
      → (x : ℕ) × Placing (k * D) (at c z) j w x × (holds cmp (x + down * (k * D)) (at (scaled k v) y + up * (k * D)) ≡ true)
  unfolding finer_classes
  back_clock z j w p y up down cmp l bound jr want h =
      let (x, pl) = placing (k * D) (at c z) j w jr (λ o. ((want o).0, (want o).1)) in
      go x pl (settled c r R (k * D) (scaled k v) finer (finer_classes k (omega arith) c D v r K) z j x p y up down cmp l bound pl.inside
      (λ o. rw (pl.wanted o) (want o).2))
    where
      go : (x : ℕ) → Placing (k * D) (at c z) j w x → Settled c r R (k * D) (scaled k v) finer (finer_classes k (omega arith) c D v r K) z j x p y up down cmp
          → (x : ℕ) × Placing (k * D) (at c z) j w x × (holds cmp (x + down * (k * D)) (at (scaled k v) y + up * (k * D)) ≡ true)
      go x pl (inr e) = (x, pl, sym e ∙ h)
      go x pl (inl e) =
          let (o, g) = (free_law cmp p).0 (ap (λ (x : Rel). fits cmp x p) (sym e.2) ∙ h) in
          let (x', above, held) = choose k D (at c z) (at c y) (at r.intervals y) (at v y) down up cmp o k2 C.positive
          (sides D (at c y) (at r.intervals y) (at v y) C.positive (C.within y l)) (omega arith) g in
          (x', record { inside = inr (inr (e.0, above)); wanted = λ o. absurd (omega arith) }, rw (at_scaled k v y) held)

  pub back : (z j w p cmp : ℕ) (a : Action) → z < length c → BoundedBy c z a → j ≤ 2 * at c z + 1
      → (Open (at c z) j → Wanted p w) → fits (comparison_of cmp a) (rel c r z j a) p ≡ true
      → (x : ℕ) × Placing (k * D) (at c z) j w x × AllowedBy (k * D) (scaled k v) z x cmp a
  unfolding fits holds
  back z j w p cmp keep l b jr want h =
      let (x, pl, held) = back_clock z j w p z 0 0 equal l (omega arith) jr want h in
      (x, pl, omega (arith, (equal_law (x + 0 * (k * D)) (at (scaled k v) z + 0 * (k * D))).0 held))
  back z j w p cmp (constant a) l b jr want h =
      let (x, pl) = placing (k * D) (at c z) j w jr (λ o. ((want o).0, (want o).1)) in
      (x, pl, ap (answer cmp) (within_compare (k * D) (at c z) j x a finer.positive b pl.inside) ∙ h)
  back z j w p cmp (clock y up down) l b jr want h = back_clock z j w p y up down cmp b.0 b.1 jr want h
