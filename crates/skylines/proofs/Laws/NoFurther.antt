-- An edge leads to no other rows from a row than from one whose reach its own lies within. Assumes nothing.
use Prim.Native.Nat.{Ordering}
use Prim.Native.Nat.{ℕ, zero, suc, ◌+◌, ◌*◌, ◌-◌, ◌%◌, ◌≤◌, ◌<◌, compare}
use native.Mathlib.Decide.{dec_le, dec_lt, ℕ_discrete}
use native.Mathlib.Omega.{arith}
use mathlib.Core.Path.{◌≡◌, refl, sym, ap, ◌∙◌}
use mathlib.Core.Bool.{Bool, true, false, cond, not, ◌&&◌, ◌||◌}
use mathlib.Core.Logic.{◌⊎◌, inl, inr}
use mathlib.Core.List.{List, [], ◌∷◌}
use lib.ListN.{length, get_or}
use lib.Dec.{leb, ltb, eqb}
use borrow.Author.Tests.{le-leb, lt-leb, lt-ltb, le-ltb, eq-eqb, ne_eqb}
use Rattle.automata.specs.Comparison.{equal, answer}
use Rattle.automata.specs.Clocks.{at, allb, greatest}
use Rattle.automata.specs.Row.{Row, IsRow}
use Rattle.automata.specs.Edge.{Action, keep, constant, clock, idle, Edge}
use Rattle.automata.specs.Rows.{select, rows_at, isrowb}
use Rattle.automata.specs.Successors.{guardsb, Rel, fixed, free, parts, relation, rel, comparison_of, fits, clock_fits, rank_fits, least, greedy, placedb, leadsb, edge_rows}
use Rattle.automata.specs.Checks.{every}
use Rattle.automata.proofs.Laws.Order.{compare_lt, compare_gt}
use Rattle.automata.proofs.Laws.Comparison.{some_order}
use Rattle.automata.proofs.Laws.Tests.{Says, never, and_law, leb_law, allb_law}
use Rattle.automata.proofs.Laws.Lists.{at_greatest}
use Rattle.automata.proofs.Laws.Rows.{isrowb_law}
use Rattle.automata.proofs.Laws.Ranks.{rank_le}
use Rattle.skylines.specs.declared.reach.Reach.{Reach}
use Rattle.skylines.proofs.Laws.Reach.{within_at}
use Rattle.skylines.specs.Reach.{place, place_of, upb, downb, low_end, high_end, low_at, high_at, ReachOf, withinb}

itself : (b : Bool) → Says b (b ≡ true)
itself b = (λ h. h, λ h. h)

-- selecting -------------------------------------------------------------------------------------------------------------------------------

-- where nothing passes a test, nothing is selected
pub select_none : {A : Type 0} (p : A → Bool) (xs : List A) → ((x : A) → p x ≡ false) → select p xs ≡ []
select_none p [] h = refl
select_none p (x ∷ xs) h = rw (h x) (select_none p xs h)

-- what holds of all that a test selects holds of all that a narrower one does
every_select : {A : Type 0} (p t u : A → Bool) (xs : List A) → ((x : A) → t x ≡ true → u x ≡ true) → every p (select u xs) ≡ true → every p (select t xs) ≡ true
every_select p t u [] h k = refl
every_select {A} p t u (x ∷ xs) h k = go (t x) (u x) (h x) (every_select p t u xs h) k
  where
    both : (l : List A) → Says (p x && every p l) ((p x ≡ true) × (every p l ≡ true))
    both l = and_law (p x) (every p l) (itself (p x)) (itself (every p l))

    go : (a b : Bool) → (a ≡ true → b ≡ true) → (every p (select u xs) ≡ true → every p (select t xs) ≡ true)
        → every p (cond b (x ∷ select u xs) (select u xs)) ≡ true → every p (cond a (x ∷ select t xs) (select t xs)) ≡ true
    go false false h rest k = rest k
    go false true h rest k = rest ((both (select u xs)).0 k).1
    go true false h rest k = never (h refl)
    go true true h rest k = let (first, others) = (both (select u xs)).0 k in (both (select t xs)).1 (first, rest others)

-- the least number that passes -----------------------------------------------------------------------------------------------------------

module _ (t : ℕ → Bool) where
  -- if there is one among so many, it passes
  least_passes : (n s : ℕ) → least t n s < s + n → (s ≤ least t n s) × (t (least t n s) ≡ true)
  unfolding least
  least_passes zero s h = absurd (omega arith)
  least_passes (suc n) s h = go (t s) refl (least_passes n (suc s)) h
    where
      go : (b : Bool) → t s ≡ b → (least t n (suc s) < suc s + n → (suc s ≤ least t n (suc s)) × (t (least t n (suc s)) ≡ true))
          → cond b s (least t n (suc s)) < s + suc n → (s ≤ cond b s (least t n (suc s))) × (t (cond b s (least t n (suc s))) ≡ true)
      go true e next l = (omega arith, e)
      go false e next l = let (k, u) = next (omega arith) in (omega arith, u)

  -- and it is no greater than any that passes
  least_below : (n s k : ℕ) → s ≤ k → k < s + n → t k ≡ true → least t n s ≤ k
  unfolding least
  least_below zero s k h l u = absurd (omega arith)
  least_below (suc n) s k h l u = go (t s) refl (ℕ_discrete s k) (λ m. least_below n (suc s) k m (omega arith) u)
    where
      go : (b : Bool) → t s ≡ b → Dec (s ≡ k) → (suc s ≤ k → least t n (suc s) ≤ k) → cond b s (least t n (suc s)) ≤ k
      go true e d next = h
      go false e (yes q) next = never (sym e ∙ ap t q ∙ u)
      go false e (no q) next = next (omega arith)

-- positions for the new ranks, up to 2 G -------------------------------------------------------------------------------------------------

-- the least position for each rank after those of the ranks before
placing : (ℕ → ℕ → Bool) → ℕ → ℕ → ℕ
placing t G zero = 0
placing t G (suc a) = least (t (suc a)) (2 * G + 1 - (placing t G a + placing t G a % 2)) (placing t G a + placing t G a % 2)

-- a test that passes wherever another does, and no longer changes from 2 H on
module _ (t u : ℕ → ℕ → Bool) (G H : ℕ) (wider : (a p : ℕ) → t a p ≡ true → u a p ≡ true) (steady : (a p : ℕ) → 2 * H ≤ p → u a p ≡ u a (2 * H)) where
  -- has its positions where the other has, no later than those
  placed_before : (a : ℕ) → placing t G a ≤ 2 * G → (placing u H a ≤ placing t G a) × (placing u H a ≤ 2 * H)
  unfolding placing
  placed_before zero h = (omega arith, omega arith)
  placed_before (suc a) h = go (placing t G a) (placing u H a) (placed_before a) h
    where
      after : (ℕ → ℕ → Bool) → ℕ → ℕ → ℕ
      after v B g = least (v (suc a)) (2 * B + 1 - (g + g % 2)) (g + g % 2)

      go : (x y : ℕ) → (x ≤ 2 * G → (y ≤ x) × (y ≤ 2 * H)) → after t G x ≤ 2 * G → (after u H y ≤ after t G x) × (after u H y ≤ 2 * H)
      go x y before l =
          let (from, passes) = least_passes (t (suc a)) (2 * G + 1 - (x + x % 2)) (x + x % 2) (omega arith) in
          let (lower, low) = before (omega arith) in
          at_last (after t G x) (omega arith) (omega arith) (wider (suc a) (after t G x) passes) (dec_le (after t G x) (2 * H))
        where
          at_last : (k : ℕ) → y + y % 2 ≤ k → y + y % 2 ≤ 2 * H → u (suc a) k ≡ true → Dec (k ≤ 2 * H) → (after u H y ≤ k) × (after u H y ≤ 2 * H)
          at_last k b c p (yes d) = let h = least_below (u (suc a)) (2 * H + 1 - (y + y % 2)) (y + y % 2) k b (omega arith) p in (h, omega arith)
          at_last k b c p (no d) =
              let h = least_below (u (suc a)) (2 * H + 1 - (y + y % 2)) (y + y % 2) (2 * H) c (omega arith) (sym (steady (suc a) k (omega arith)) ∙ p) in
              (omega arith, h)

-- one comparison -------------------------------------------------------------------------------------------------------------------------

-- it allows what is above and refuses what is below
abbrev Above : ℕ → Type 0
Above cmp = (answer cmp Ordering.gt ≡ true) × (answer cmp Ordering.lt ≡ false)

-- the other way round
abbrev Below : ℕ → Type 0
Below cmp = (answer cmp Ordering.lt ≡ true) × (answer cmp Ordering.gt ≡ false)

-- one clock ------------------------------------------------------------------------------------------------------------------------------

-- a part at or above an old one's position is above it, wherever it is
fits_steady : (cmp t j J I q p p' : ℕ) → 2 * q ≤ p → 2 * q ≤ p' → fits cmp (relation t j J I q) p ≡ fits cmp (relation t j J I q) p'
unfolding fits relation
fits_steady cmp t j J I q p p' h h' = go (eqb j t && leb J I) (eqb J I && eqb (j % 2) 1)
  where
    go : (a b : Bool) → fits cmp (cond a free (cond b (parts q) (fixed (compare J I)))) p ≡ fits cmp (cond a free (cond b (parts q) (fixed (compare J I)))) p'
    go true b = refl
    go false true = ap (answer cmp) (compare_gt (p + 1) (2 * q) (omega arith) ∙ sym (compare_gt (p' + 1) (2 * q) (omega arith)))
    go false false = refl

-- what the intervals alone tell
module _ (t j J I q : ℕ) where
  relation_above : I < J → relation t j J I q ≡ fixed Ordering.gt
  unfolding relation
  relation_above h = rw (lt-leb J I h, ne_eqb J I (λ e. omega arith), compare_gt J I h) (go (eqb j t))
    where
      go : (b : Bool) → cond (b && false) free (fixed Ordering.gt) ≡ fixed Ordering.gt
      go true = refl
      go false = refl

  relation_below : J < I → (j ≡ t → ⊥) → relation t j J I q ≡ fixed Ordering.lt
  unfolding relation
  relation_below h n = rw (ne_eqb j t n, ne_eqb J I (λ e. omega arith), compare_lt J I h) refl

  relation_top : J ≤ I → j ≡ t → relation t j J I q ≡ free
  unfolding relation
  relation_top h e = rw (eq-eqb j t e, le-leb J I h) refl

-- beyond the ends of all that the new interval j can be, with d taken away on its side, the order is the same for all
abbrev Beyond : ℕ → ℕ → ℕ → ℕ → Type 0
Beyond t d I K = ((I < d) × (K < d)) ⊎ ((t + d ≤ I) × (t + d ≤ K))

beyond_same : (t j d I K q q' : ℕ) → j ≤ t → Beyond t d I K → relation t j (j + d) I q ≡ relation t j (j + d) K q'
beyond_same t j d I K q q' l (inl (h, k)) = relation_above t j (j + d) I q (omega arith) ∙ sym (relation_above t j (j + d) K q' (omega arith))
beyond_same t j d I K q q' l (inr (h, k)) = go (ℕ_discrete j t)
  where
    go : Dec (j ≡ t) → relation t j (j + d) I q ≡ relation t j (j + d) K q'
    go (yes e) = relation_top t j (j + d) I q (omega arith) e ∙ sym (relation_top t j (j + d) K q' (omega arith) e)
    go (no e) = relation_below t j (j + d) I q (omega arith) e ∙ sym (relation_below t j (j + d) K q' (omega arith) e)

-- interval I with rank q is no lower than interval K with rank q'
abbrev NoLower : ℕ → ℕ → ℕ → ℕ → Type 0
NoLower I q K q' = (K < I) ⊎ ((I ≡ K) × (q' ≤ q))

module _ (cmp t j J I K q q' p : ℕ) where
  -- what is allowed against interval I with rank q is allowed against interval K with rank q'
  abbrev Narrower : Type 0
  Narrower = fits cmp (relation t j J I q) p ≡ true → fits cmp (relation t j J K q') p ≡ true

  -- .. where the relations are known
  through : (R S : Rel) → relation t j J I q ≡ R → relation t j J K q' ≡ S → (fits cmp R p ≡ true → fits cmp S p ≡ true) → Narrower
  through R S a b f h = ap (λ (x : Rel). fits cmp x p) b ∙ f (ap (λ (x : Rel). fits cmp x p) (sym a) ∙ h)

  -- .. where the intervals are the same, so that the relations differ in the ranks at most
  through_parts : I ≡ K → (fits cmp (parts q) p ≡ true → fits cmp (parts q') p ≡ true) → Narrower
  unfolding relation
  through_parts e f = rw e (go (eqb j t && leb J K) (eqb J K && eqb (j % 2) 1))
    where
      go : (a b : Bool) → fits cmp (cond a free (cond b (parts q) (fixed (compare J K)))) p ≡ true → fits cmp (cond a free (cond b (parts q') (fixed (compare J K)))) p ≡ true
      go true b h = h
      go false true h = f h
      go false false h = h

  parts_above : Above cmp → q' ≤ q → fits cmp (parts q) p ≡ true → fits cmp (parts q') p ≡ true
  unfolding fits
  parts_above A l h = go (dec_le (p + 1) (2 * q')) (dec_le (2 * q) (p + 1))
    where
      go : Dec (p + 1 ≤ 2 * q') → Dec (2 * q ≤ p + 1) → answer cmp (compare (p + 1) (2 * q')) ≡ true
      go (no a) b = ap (answer cmp) (compare_gt (p + 1) (2 * q') (omega arith)) ∙ A.0
      go (yes a) (no b) = never (sym A.1 ∙ ap (answer cmp) (sym (compare_lt (p + 1) (2 * q) (omega arith))) ∙ h)
      go (yes a) (yes b) = let e : q' ≡ q = omega arith in rw e h

  parts_below : Below cmp → q ≤ q' → fits cmp (parts q) p ≡ true → fits cmp (parts q') p ≡ true
  unfolding fits
  parts_below B l h = go (dec_le (2 * q') (p + 1)) (dec_le (p + 1) (2 * q))
    where
      go : Dec (2 * q' ≤ p + 1) → Dec (p + 1 ≤ 2 * q) → answer cmp (compare (p + 1) (2 * q')) ≡ true
      go (no a) b = ap (answer cmp) (compare_lt (p + 1) (2 * q') (omega arith)) ∙ B.0
      go (yes a) (no b) = never (sym B.1 ∙ ap (answer cmp) (sym (compare_gt (p + 1) (2 * q) (omega arith))) ∙ h)
      go (yes a) (yes b) = let e : q' ≡ q = omega arith in rw e h

  -- above what is no lower
  narrower_above : Above cmp → NoLower I q K q' → Narrower
  unfolding fits
  narrower_above A (inr (e, l)) h = through_parts e (parts_above A l) h
  narrower_above A (inl l) h = go (dec_le J K) (ℕ_discrete j t)
    where
      go : Dec (J ≤ K) → Dec (j ≡ t) → fits cmp (relation t j J K q') p ≡ true
      go (no a) d = rw (relation_above t j J K q' (omega arith)) A.0
      go (yes a) (yes d) = through free free (relation_top t j J I q (omega arith) d) (relation_top t j J K q' a d) (λ f. f) h
      go (yes a) (no d) = through (fixed Ordering.lt) (relation t j J K q') (relation_below t j J I q (omega arith) d) refl (λ f. never (sym A.1 ∙ f)) h

  -- below what is no higher
  narrower_below : Below cmp → NoLower K q' I q → Narrower
  unfolding fits
  narrower_below B (inr (e, l)) h = through_parts (sym e) (parts_below B l) h
  narrower_below B (inl l) h = go (dec_le K J) (ℕ_discrete j t)
    where
      go : Dec (K ≤ J) → Dec (j ≡ t) → fits cmp (relation t j J K q') p ≡ true
      go (yes a) d = through (fixed Ordering.gt) (relation t j J K q') (relation_above t j J I q (omega arith)) refl (λ f. never (sym B.1 ∙ f)) h
      go (no a) (yes d) = rw (relation_top t j J K q' (omega arith) d) (some_order cmp Ordering.lt B.0)
      go (no a) (no d) = rw (relation_below t j J K q' (omega arith) d) B.0

-- places --------------------------------------------------------------------------------------------------------------------------------

-- where a clock's value, with what is added in I and d what is taken away, has place P among those of a clock with top t
abbrev At : ℕ → ℕ → ℕ → ℕ → ℕ → Type 0
At t d I q P = ((I < d) × (P ≡ 0)) ⊎ ((t + d ≤ I) × (P ≡ 5 * (t + 1))) ⊎ ((d ≤ I) × (I < t + d) × (P ≡ 5 * (I - d + 1) + q))

place_at : (b i q up down : ℕ) → At (2 * b + 1) (2 * down) (i + 2 * up) q (place b i q up down)
unfolding place
place_at b i q up down = go (dec_lt (i + 2 * up) (2 * down)) (dec_le (2 * b + 1 + 2 * down) (i + 2 * up))
  where
    go : Dec (i + 2 * up < 2 * down) → Dec (2 * b + 1 + 2 * down ≤ i + 2 * up)
        → At (2 * b + 1) (2 * down) (i + 2 * up) q
        (cond (ltb (i + 2 * up) (2 * down)) 0 (cond (leb (2 * b + 1 + 2 * down) (i + 2 * up)) (5 * (2 * b + 2)) (5 * (i + 2 * up - 2 * down + 1) + q)))
    go (yes h) k = rw (lt-ltb (i + 2 * up) (2 * down) h) (inl (h, refl))
    go (no h) (yes k) = rw (le-ltb (i + 2 * up) (2 * down) (omega arith), le-leb (2 * b + 1 + 2 * down) (i + 2 * up) k) (inr (inl (k, omega arith)))
    go (no h) (no k) =
        rw (le-ltb (i + 2 * up) (2 * down) (omega arith), lt-leb (2 * b + 1 + 2 * down) (i + 2 * up) (omega arith)) (inr (inr (omega arith, omega arith, refl)))

module _ (cmp t j d I K q q' P P' p : ℕ) (l : j ≤ t) (few : q ≤ 4) (few' : q' ≤ 4) (a : At t d I q P) (a' : At t d K q' P') where
  -- beyond the same end nothing tells them apart
  place_beyond : Beyond t d I K → Narrower cmp t j (j + d) I K q q' p
  place_beyond b f = ap (λ (R : Rel). fits cmp R p) (sym (beyond_same t j d I K q q' l b)) ∙ f

  -- what is above the one is above another that has no greater place
  place_above : Above cmp → P' ≤ P → Narrower cmp t j (j + d) I K q q' p
  unfolding fits
  place_above A h = go a a'
    where
      go : At t d I q P → At t d K q' P' → Narrower cmp t j (j + d) I K q q' p
      go x (inl (k, e)) = λ f. rw (relation_above t j (j + d) K q' (omega arith)) A.0
      go (inl (i, m)) (inr (inl (k, e))) = absurd (omega arith)
      go (inr (inl (i, m))) (inr (inl (k, e))) = place_beyond (inr (i, k))
      go (inr (inr (i, m, n))) (inr (inl (k, e))) = absurd (omega arith)
      go (inl (i, m)) (inr (inr (k, e, g))) = absurd (omega arith)
      go (inr (inl (i, m))) (inr (inr (k, e, g))) = narrower_above cmp t j (j + d) I K q q' p A (inl (omega arith))
      go (inr (inr (i, m, n))) (inr (inr (k, e, g))) = narrower_above cmp t j (j + d) I K q q' p A (higher (dec_lt K I))
        where
          higher : Dec (K < I) → NoLower I q K q'
          higher (yes x) = inl x
          higher (no x) = inr (omega arith, omega arith)

  -- what is below the one is below another that has no lesser place
  place_below : Below cmp → P ≤ P' → Narrower cmp t j (j + d) I K q q' p
  unfolding fits
  place_below B h = go a a'
    where
      go : At t d I q P → At t d K q' P' → Narrower cmp t j (j + d) I K q q' p
      go (inl (i, m)) x =
          through cmp t j (j + d) I K q q' p (fixed Ordering.gt) (relation t j (j + d) K q') (relation_above t j (j + d) I q (omega arith)) refl (λ f. never (sym B.1 ∙ f))
      go (inr x) (inr (inl (k, e))) = over (ℕ_discrete j t)
        where
          over : Dec (j ≡ t) → Narrower cmp t j (j + d) I K q q' p
          over (yes y) f = rw (relation_top t j (j + d) K q' (omega arith) y) (some_order cmp Ordering.lt B.0)
          over (no y) f = rw (relation_below t j (j + d) K q' (omega arith) y) B.0
      go (inr (inl (i, m))) (inl (k, e)) = absurd (omega arith)
      go (inr (inr (i, m, n))) (inl (k, e)) = absurd (omega arith)
      go (inr (inl (i, m))) (inr (inr (k, e, g))) = absurd (omega arith)
      go (inr (inr (i, m, n))) (inr (inr (k, e, g))) = narrower_below cmp t j (j + d) I K q q' p B (lower (dec_lt I K))
        where
          lower : Dec (I < K) → NoLower K q' I q
          lower (yes x) = inl x
          lower (no x) = inr (omega arith, omega arith)

  -- at one place all is alike
  place_same : P ≡ P' → Narrower cmp t j (j + d) I K q q' p
  place_same h = go a a'
    where
      go : At t d I q P → At t d K q' P' → Narrower cmp t j (j + d) I K q q' p
      go (inl (i, m)) (inl (k, e)) = place_beyond (inl (i, k))
      go (inr (inl (i, m))) (inr (inl (k, e))) = place_beyond (inr (i, k))
      go (inr (inr (i, m, n))) (inr (inr (k, e, g))) =
          let x : K ≡ I = omega arith in
          let y : q' ≡ q = omega arith in
          λ f. (λ i. fits cmp (relation t j (j + d) (x i) (y i)) p) ∙ f
      go (inl (i, m)) (inr (inl (k, e))) = absurd (omega arith)
      go (inl (i, m)) (inr (inr (k, e, g))) = absurd (omega arith)
      go (inr (inl (i, m))) (inl (k, e)) = absurd (omega arith)
      go (inr (inl (i, m))) (inr (inr (k, e, g))) = absurd (omega arith)
      go (inr (inr (i, m, n))) (inl (k, e)) = absurd (omega arith)
      go (inr (inr (i, m, n))) (inr (inl (k, e))) = absurd (omega arith)

-- one update -----------------------------------------------------------------------------------------------------------------------------

module _ (c : List ℕ) (r s : Row) (short : length c ≤ 4) (ir : IsRow c r) (is : IsRow c s) where
  -- what the update of clock z to interval j allows from r it allows from s
  abbrev Allows : ℕ → ℕ → ℕ → Action → ℕ → Type 0
  Allows cmp z j a p = fits (comparison_of cmp a) (rel c r z j a) p ≡ true → fits (comparison_of cmp a) (rel c s z j a) p ≡ true

  -- .. by the order of the places, as the comparison has it
  module _ (cmp z j y up down p : ℕ) (l : j ≤ 2 * at c z + 1) where
    abbrev t : ℕ
    t = 2 * at c z + 1

    abbrev I : ℕ
    I = at r.intervals y + 2 * up

    abbrev K : ℕ
    K = at s.intervals y + 2 * up

    abbrev Goes : Type 0
    Goes = fits cmp (rel c r z j (clock y up down)) p ≡ true → fits cmp (rel c s z j (clock y up down)) p ≡ true

    few : at r.ranks y ≤ 4
    few = omega (arith, rank_le c r ir y)

    few' : at s.ranks y ≤ 4
    few' = omega (arith, rank_le c s is y)

    here : At t (2 * down) I (at r.ranks y) (place_of c r z y up down)
    here = place_at (at c z) (at r.intervals y) (at r.ranks y) up down

    there : At t (2 * down) K (at s.ranks y) (place_of c s z y up down)
    there = place_at (at c z) (at s.intervals y) (at s.ranks y) up down

    goes_above : Above cmp → place_of c s z y up down ≤ place_of c r z y up down → Goes
    goes_above A h = place_above cmp t j (2 * down) I K (at r.ranks y) (at s.ranks y) _ _ p l few few' here there A h

    goes_below : Below cmp → place_of c r z y up down ≤ place_of c s z y up down → Goes
    goes_below B h = place_below cmp t j (2 * down) I K (at r.ranks y) (at s.ranks y) _ _ p l few few' here there B h

    goes_same : place_of c r z y up down ≡ place_of c s z y up down → Goes
    goes_same h = place_same cmp t j (2 * down) I K (at r.ranks y) (at s.ranks y) _ _ p l few few' here there h

  narrower : (cmp z j p : ℕ) (a : Action) → j ≤ 2 * at c z + 1 → low_end c s z cmp a ≤ low_end c r z cmp a → high_end c r z cmp a ≤ high_end c s z cmp a → Allows cmp z j a p
  unfolding low_end high_end upb downb
  narrower cmp z j p keep l h k f = goes_same equal z j z 0 0 p l (omega arith) f
  narrower cmp z j p (constant k) l h m f = f
  narrower cmp z j p (clock y up down) l h k f = go (answer cmp Ordering.gt) (answer cmp Ordering.lt) refl refl h k
    where
      P : ℕ
      P = place_of c r z y up down

      P' : ℕ
      P' = place_of c s z y up down

      go : (a b : Bool) → answer cmp Ordering.gt ≡ a → answer cmp Ordering.lt ≡ b → cond (b && not a) 0 P' ≤ cond (b && not a) 0 P
          → cond (a && not b) 0 P ≤ cond (a && not b) 0 P' → fits cmp (rel c s z j (clock y up down)) p ≡ true
      go true false x x' h k = goes_above cmp z j y up down p l (x, x') h f
      go false true x x' h k = goes_below cmp z j y up down p l (x', x) k f
      go true true x x' h k = goes_same cmp z j y up down p l (omega arith) f
      go false false x x' h k = goes_same cmp z j y up down p l (omega arith) f

-- a part above all old ones is above them wherever it is
rel_steady : (c : List ℕ) (s : Row) (cmp z j p : ℕ) (a : Action) → 2 * greatest s.ranks ≤ p → fits cmp (rel c s z j a) p ≡ fits cmp (rel c s z j a) (2 * greatest s.ranks)
unfolding fits
rel_steady c s cmp z j p keep m =
    fits_steady cmp (2 * at c z + 1) j (j + 2 * 0) (at s.intervals z + 2 * 0) (at s.ranks z) p (2 * greatest s.ranks) (omega (arith, at_greatest s.ranks z)) (omega (arith, at_greatest s.ranks z))
rel_steady c s cmp z j p (constant k) m = refl
rel_steady c s cmp z j p (clock y up down) m =
    fits_steady cmp (2 * at c z + 1) j (j + 2 * down) (at s.intervals y + 2 * up) (at s.ranks y) p (2 * greatest s.ranks) (omega (arith, at_greatest s.ranks y)) (omega (arith, at_greatest s.ranks y))

-- all clocks -----------------------------------------------------------------------------------------------------------------------------

allb_same : (n : ℕ) (f g : ℕ → Bool) → ((z : ℕ) → f z ≡ g z) → allb n f ≡ allb n g
unfolding allb
allb_same zero f g h = refl
allb_same (suc n) f g h = let e : allb n f ≡ allb n g = allb_same n f g h in λ i. e i && h n i

allb_wider : (n : ℕ) (f g : ℕ → Bool) → ((z : ℕ) → z < n → f z ≡ true → g z ≡ true) → allb n f ≡ true → allb n g ≡ true
allb_wider n f g h k = (allb_law n g (λ z. itself (g z))).1 (λ z l. h z l ((allb_law n f (λ z. itself (f z))).0 k z l))

or_wider : (a b d : Bool) → (b ≡ true → d ≡ true) → (a || b) ≡ true → (a || d) ≡ true
or_wider true b d h k = refl
or_wider false b d h k = h k

ranks_steady : (c : List ℕ) (e : Edge) (s x : Row) (a p : ℕ) → 2 * greatest s.ranks ≤ p → rank_fits c e s x a p ≡ rank_fits c e s x a (2 * greatest s.ranks)
unfolding rank_fits clock_fits
ranks_steady c e s x a p h =
    allb_same (length c) _ _ (λ z. λ i. not (eqb (at x.ranks z) a)
    || rel_steady c s (comparison_of (get_or e.updates z idle).comparison (get_or e.updates z idle).action) z (at x.intervals z) p (get_or e.updates z idle).action h i)

greedy_placing : (c : List ℕ) (e : Edge) (r x : Row) (a : ℕ) → greedy c e r x a ≡ placing (rank_fits c e r x) (greatest r.ranks) a
unfolding greedy placing
greedy_placing c e r x zero = refl
greedy_placing c e r x (suc a) =
    ap (λ (g : ℕ). least (rank_fits c e r x (suc a)) (2 * greatest r.ranks + 1 - (g + g % 2)) (g + g % 2)) (greedy_placing c e r x a)

-- reaches of two rows, the one within the other
module _ (c : List ℕ) (e : Edge) (r s : Row) (short : length c ≤ 4) (ir : IsRow c r) (is : IsRow c s) (i k : ℕ) (m m' : Reach) (R : ReachOf c e r i m) (S : ReachOf c e s k m')
    (within : withinb (length c) m m' ≡ true) where
  narrowed : (z : ℕ) → z < length c → (low_at c e s z ≤ low_at c e r z) × (high_at c e r z ≤ high_at c e s z)
  unfolding withinb
  narrowed z l =
      let (h, g) = (allb_law (length c) (within_at m m') (λ z. and_law _ _ (leb_law (at m'.lows z) (at m.lows z)) (leb_law (at m.highs z) (at m'.highs z)))).0 within z l in
      (omega (arith, R.low z l, S.low z l), omega (arith, R.high z l, S.high z l))

  module _ (x : Row) (is_row : IsRow c x) where
    ranks_wider : (a p : ℕ) → rank_fits c e r x a p ≡ true → rank_fits c e s x a p ≡ true
    unfolding rank_fits clock_fits
    ranks_wider a p =
        allb_wider (length c) _ _ (λ z l. or_wider (not (eqb (at x.ranks z) a)) _ _
        (narrower c r s short ir is (get_or e.updates z idle).comparison z (at x.intervals z) p (get_or e.updates z idle).action (is_row.in_range z l) (narrowed z l).0 (narrowed z l).1))

    placed_wider : placedb c e r x ≡ true → placedb c e s x ≡ true
    unfolding placedb
    placed_wider h =
        let G : ℕ = greatest r.ranks in
        let H : ℕ = greatest s.ranks in
        let m : ℕ = greatest x.ranks in
        let (first, others) = (and_law _ _ (itself (rank_fits c e r x 0 0)) (leb_law (greedy c e r x m) (2 * G))).0 h in
        let last : placing (rank_fits c e s x) H m ≤ 2 * H =
        (placed_before (rank_fits c e r x) (rank_fits c e s x) G H ranks_wider (ranks_steady c e s x) m (rw (greedy_placing c e r x m) at others)).1 in
        (and_law _ _ (itself (rank_fits c e s x 0 0)) (leb_law (greedy c e s x m) (2 * H))).1 (ranks_wider 0 0 first, rw (greedy_placing c e s x m) last)

  module _ (l : r.location ≡ s.location) (g : guardsb r e.guards ≡ guardsb s e.guards) where
    leads_wider : (x : Row) → leadsb c e r x ≡ true → leadsb c e s x ≡ true
    unfolding leadsb
    leads_wider x h =
        (λ i. eqb (sym l i) e.source && eqb x.location e.target && sym g i && isrowb c x && placedb c e s x)
        ∙ go (eqb r.location e.source && eqb x.location e.target && guardsb r e.guards) (isrowb c x) (isrowb_law c x).0 h
      where
        go : (a b : Bool) → (b ≡ true → IsRow c x) → (a && b && placedb c e r x) ≡ true → (a && b && placedb c e s x) ≡ true
        go true true i k = placed_wider x (i refl) k
        go true false i k = never k
        go false b i k = never k

    -- NO FURTHER: what all rows have that it leads to from s, all rows have that it leads to from r
    pub none_further : (p : Row → Bool) → every p (edge_rows c e s) ≡ true → every p (edge_rows c e r) ≡ true
    unfolding edge_rows
    none_further p = every_select p (leadsb c e r) (leadsb c e s) (rows_at c e.target) leads_wider
