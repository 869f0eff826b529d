-- The table of comparisons: what its rows say of =, of ≠, of a comparison that asks for one value, and of numbers past the last row. Assumes nothing.
use Prim.Native.Nat.{ℕ, zero, suc, ◌≤◌, ◌<◌, compare, Ordering}
use native.Mathlib.Decide.{dec_lt}
use native.Mathlib.Omega.{arith}
use mathlib.Core.Path.{◌≡◌, refl, sym, ap, ◌∙◌}
use mathlib.Core.Bool.{Bool, true, false, not, ◌&&◌, ◌||◌, and-true, and-false, or-true}
use mathlib.Core.Logic.{◌↔◌, ◌⊎◌, inl, inr, ⊎_elim}
use mathlib.Core.List.{List, [], ◌∷◌}
use lib.ListN.{length, get_or}
use lib.Dec.{ltb}
use borrow.Author.Tests.{lt-ltb, le-ltb}
use Rattle.automata.specs.Comparison.{answers, comparisons, equal, below, above, place, answer, holds, some_answer, at_alone, sides_alone}
use Rattle.automata.specs.Checks.{every}
use Rattle.automata.proofs.Laws.Tests.{never, not_law, and_law}
use Rattle.automata.proofs.Laws.Order.{Tri, is_lt, is_eq, is_gt, tri}

pub place_small : (o : Ordering) → place o < 3
place_small Ordering.lt = omega arith
place_small Ordering.eq = omega arith
place_small Ordering.gt = omega arith

-- whether a comparison asks for one value, answer by answer
pub not_below_alone : (cmp : ℕ) → answer cmp Ordering.lt ≡ true → false ≡ at_alone cmp
unfolding at_alone
not_below_alone cmp h = rw h (sym (and-false (answer cmp Ordering.eq)))

pub not_above_alone : (cmp : ℕ) → answer cmp Ordering.gt ≡ true → false ≡ at_alone cmp
unfolding at_alone
not_above_alone cmp h = rw (h, or-true (answer cmp Ordering.lt)) (sym (and-false (answer cmp Ordering.eq)))

pub at_is_alone : (cmp : ℕ) → answer cmp Ordering.lt ≡ false → answer cmp Ordering.gt ≡ false → answer cmp Ordering.eq ≡ at_alone cmp
unfolding at_alone
at_is_alone cmp l g = rw (l, g) (sym (and-true (answer cmp Ordering.eq)))

-- what a comparison allows that asks for one value: that value, and no other
pub alone_law : (cmp : ℕ) → at_alone cmp ≡ true → (x y : ℕ) → (holds cmp x y ≡ true) ↔ (x ≡ y)
unfolding holds at_alone
alone_law cmp alone x y = go (tri x y) (answer cmp Ordering.lt) refl (answer cmp Ordering.eq) refl (answer cmp Ordering.gt) refl alone
  where
    go : Tri x y → (l : Bool) → answer cmp Ordering.lt ≡ l → (e : Bool) → answer cmp Ordering.eq ≡ e → (g : Bool) → answer cmp Ordering.gt ≡ g
        → (e && not (l || g)) ≡ true → (answer cmp (compare x y) ≡ true) ↔ (x ≡ y)
    go (is_lt h c) false l true e false g t = (λ q. never (sym l ∙ ap (answer cmp) (sym c) ∙ q), λ q. absurd (omega arith))
    go (is_eq h c) false l true e false g t = (λ q. h, λ q. ap (answer cmp) c ∙ e)
    go (is_gt h c) false l true e false g t = (λ q. never (sym g ∙ ap (answer cmp) (sym c) ∙ q), λ q. absurd (omega arith))
    go t true l true e g f z = never z
    go t true l false e g f z = never z
    go t false l false e g f z = never z
    go t false l true e true f z = never z

pub equal_alone : at_alone equal ≡ true
unfolding at_alone answer
equal_alone = refl

pub equal_law : (x y : ℕ) → (holds equal x y ≡ true) ↔ (x ≡ y)
equal_law = alone_law equal equal_alone

-- what a comparison allows of one side alone: that side
pub below_law : (x y : ℕ) → (holds below x y ≡ true) ↔ (x < y)
unfolding holds answer
below_law x y = go (tri x y)
  where
    go : Tri x y → (holds below x y ≡ true) ↔ (x < y)
    go (is_lt h e) = (λ q. h, λ l. rw e)
    go (is_eq h e) = (λ q. never (rw e at q), λ l. absurd (omega arith))
    go (is_gt h e) = (λ q. never (rw e at q), λ l. absurd (omega arith))

pub above_law : (x y : ℕ) → (holds above x y ≡ true) ↔ (y < x)
unfolding holds answer
above_law x y = go (tri x y)
  where
    go : Tri x y → (holds above x y ≡ true) ↔ (y < x)
    go (is_lt h e) = (λ q. never (rw e at q), λ l. absurd (omega arith))
    go (is_eq h e) = (λ q. never (rw e at q), λ l. absurd (omega arith))
    go (is_gt h e) = (λ q. h, λ l. rw e)

-- what a comparison allows that allows both sides alone
pub sides_law : (cmp : ℕ) → sides_alone cmp ≡ true → (x y : ℕ) → (holds cmp x y ≡ true) ↔ ((x < y) ⊎ (y < x))
unfolding holds sides_alone
sides_law cmp alone x y = go (tri x y)
  where
    said : ((answer cmp Ordering.lt ≡ true) × (answer cmp Ordering.gt ≡ true)) × (answer cmp Ordering.eq ≡ false)
    said =
        (and_law (answer cmp Ordering.lt && answer cmp Ordering.gt) (not (answer cmp Ordering.eq))
        (and_law (answer cmp Ordering.lt) (answer cmp Ordering.gt) (λ h. h, λ h. h) (λ h. h, λ h. h)) (not_law (answer cmp Ordering.eq))).0 alone

    go : Tri x y → (answer cmp (compare x y) ≡ true) ↔ ((x < y) ⊎ (y < x))
    go (is_lt h c) = (λ q. inl h, λ t. ap (answer cmp) c ∙ said.0.0)
    go (is_eq h c) = (λ q. never (sym said.1 ∙ ap (answer cmp) (sym c) ∙ q), λ t. absurd (⊎_elim (λ l. omega arith) (λ l. omega arith) t))
    go (is_gt h c) = (λ q. inr h, λ t. ap (answer cmp) c ∙ said.0.1)

-- comparison 5 holds just where the numbers differ
pub not_equal_law : (x y : ℕ) → (holds 5 x y ≡ true) ↔ (x ≡ y → ⊥)
unfolding holds answer
not_equal_law x y = go (tri x y)
  where
    go : Tri x y → (holds 5 x y ≡ true) ↔ (x ≡ y → ⊥)
    go (is_lt h e) = (λ q n. omega arith, λ n. rw e)
    go (is_eq h e) = (λ q n. never (rw e at q), λ n. absurd (n h))
    go (is_gt h e) = (λ q n. omega arith, λ n. rw e)

-- a number past the table's last row names no comparison, and allows nothing
pub no_answer : (cmp : ℕ) (o : Ordering) → comparisons ≤ cmp → answer cmp o ≡ false
unfolding answer
no_answer cmp o h = ap (λ (row : List Bool). get_or row (place o) false) (past answers cmp h)
  where
    past : (rows : List (List Bool)) (i : ℕ) → length rows ≤ i → get_or rows i [] ≡ []
    past [] i h = refl
    past (r ∷ rows) zero h = absurd (omega arith)
    past (r ∷ rows) (suc i) h = past rows i (omega arith)

pub no_comparison : (cmp x y : ℕ) → comparisons ≤ cmp → holds cmp x y ≡ false
unfolding holds
no_comparison cmp x y h = no_answer cmp (compare x y) h

-- what allows an order allows some order
pub some_order : (cmp : ℕ) (o : Ordering) → answer cmp o ≡ true → some_answer cmp ≡ true
unfolding some_answer
some_order cmp Ordering.lt h = rw h
some_order cmp Ordering.eq h = rw (h, or-true (answer cmp Ordering.lt))
some_order cmp Ordering.gt h = rw h (or-true (answer cmp Ordering.lt || answer cmp Ordering.eq))

-- each row of the table has a yes: just the numbers of comparisons allow some order
pub some_answer_law : (cmp : ℕ) → ltb cmp comparisons ≡ some_answer cmp
unfolding some_answer answer
some_answer_law cmp = go (dec_lt cmp comparisons)
  where
    some_yes : List Bool → Bool
    some_yes row = get_or row 0 false || get_or row 1 false || get_or row 2 false

    both : (r : List Bool) (rows : List (List Bool)) → every some_yes (r ∷ rows) ≡ true → (some_yes r ≡ true) × (every some_yes rows ≡ true)
    both r rows h = (and_law (some_yes r) (every some_yes rows) (λ h. h, λ h. h) (λ h. h, λ h. h)).0 h

    yes_at : (rows : List (List Bool)) → every some_yes rows ≡ true → (i : ℕ) → i < length rows → some_yes (get_or rows i []) ≡ true
    yes_at [] h i l = absurd (omega arith)
    yes_at (r ∷ rows) h zero l = (both r rows h).0
    yes_at (r ∷ rows) h (suc i) l = yes_at rows (both r rows h).1 i (omega arith)

    go : Dec (cmp < comparisons) → ltb cmp comparisons ≡ some_answer cmp
    go (yes l) = lt-ltb cmp comparisons l ∙ sym (yes_at answers refl cmp l)
    go (no n) =
        let h : comparisons ≤ cmp = omega arith in
        le-ltb cmp comparisons h ∙ sym (rw (no_answer cmp Ordering.lt h, no_answer cmp Ordering.eq h, no_answer cmp Ordering.gt h) refl)
