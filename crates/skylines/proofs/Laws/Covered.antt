-- A skyline as the code keeps it: reach by reach, in place. Assumes nothing.
use Prim.Native.Nat.{ℕ, zero, suc, ◌+◌, ◌≤◌, ◌<◌}
use native.Mathlib.Decide.{ℕ_discrete}
use native.Mathlib.Omega.{arith}
use mathlib.Core.Path.{◌≡◌, refl, sym, ap, ◌∙◌}
use mathlib.Core.Bool.{Bool, true, false, ◌||◌}
use mathlib.Core.Logic.{◌⊎◌, inl, inr}
use mathlib.Core.List.{List, [], ◌∷◌}
use lib.ListN.{length, get_or, take, set, length-set}
use lib.Seq.{get_or-set_same, get_or-set_other}
use Rattle.automata.specs.Checks.{any}
use Rattle.automata.specs.Clocks.{someb}
use Rattle.automata.proofs.Laws.Tests.{Says, never, someb_law}
use Rattle.skylines.specs.Reach.{withinb}
use Rattle.skylines.specs.declared.reach.Reach.{Reach}
use Rattle.skylines.specs.Skyline.{no_reach, member, coveredb, Drops, Seats}
use Rattle.skylines.proofs.Laws.Reach.{within_itself}

-- one of two ways
pub by_cases : {A B C : Type 0} → (A → C) → (B → C) → A ⊎ B → C
by_cases f g (inl a) = f a
by_cases f g (inr b) = g b

-- covered or not -------------------------------------------------------------------------------------------------------------------------

module _ (n : ℕ) (ms : List Reach) (own : Reach) where
  covered_law : (size : ℕ) → Says (coveredb n ms size own) ((k : ℕ) × (k < size) × (withinb n own (member ms k) ≡ true))
  unfolding coveredb
  covered_law size = someb_law size (λ (k : ℕ). withinb n own (member ms k)) (λ k. (λ h. h, λ h. h))

  pub covered_by : (size : ℕ) → coveredb n ms size own ≡ true → (k : ℕ) × (k < size) × (withinb n own (member ms k) ≡ true)
  covered_by size = (covered_law size).0

-- the first of n is one of n, or those after it are
some_after : (n : ℕ) (f : ℕ → Bool) → (f 0 || someb n (λ (k : ℕ). f (suc k))) ≡ someb (suc n) f
unfolding someb
some_after zero f = refl
some_after (suc n) f = swap (f 0) (f (suc n)) (someb n (λ (k : ℕ). f (suc k))) ∙ ap (λ (b : Bool). f (suc n) || b) (some_after n f)
  where
    swap : (a b r : Bool) → (a || (b || r)) ≡ (b || (a || r))
    swap true true r = refl
    swap true false r = refl
    swap false true r = refl
    swap false false r = refl

-- some of the first n of a list passes a test
some_first : {A : Type 0} (p : A → Bool) (d : A) (n : ℕ) (xs : List A) → n ≤ length xs → any p (take n xs) ≡ someb n (λ (k : ℕ). p (get_or xs k d))
unfolding someb
some_first p d zero xs l = refl
some_first p d (suc n) [] l = absurd (omega arith)
some_first p d (suc n) (x ∷ xs) l = ap (λ (b : Bool). p x || b) (some_first p d n xs (omega arith)) ∙ some_after n (λ (k : ℕ). p (get_or (x ∷ xs) k d))

pub covered_any : (n : ℕ) (ms : List Reach) (own : Reach) (size : ℕ) → size ≤ length ms → any (withinb n own) (take size ms) ≡ coveredb n ms size own
unfolding coveredb
covered_any n ms own size l = some_first (withinb n own) no_reach size ms l

-- those that lie within one's own are dropped -------------------------------------------------------------------------------------------

module _ (n : ℕ) (own : Reach) (start : List Reach) (size : ℕ) where
  -- of the first k
  pub record Dropping (k kept : ℕ) (ms : List Reach) : Type 0 where
    pub within : k ≤ size
    pub fewer : kept ≤ k
    pub long : length ms ≡ length start
    pub none_new : (i : ℕ) → i < kept → (j : ℕ) × (j < k) × (member ms i ≡ member start j)
    pub none_lost : (j : ℕ) → j < k → (withinb n (member start j) own ≡ true) ⊎ ((i : ℕ) × (i < kept) × (member ms i ≡ member start j))
    pub unmoved : kept ≡ k → (j : ℕ) → j < k → member ms j ≡ member start j
    pub rest : (j : ℕ) → k ≤ j → member ms j ≡ member start j

  pub dropping_begins : (first : ℕ) → first ≤ size → Dropping first first start
  dropping_begins first l =
      record {
        within = l;
        fewer = omega arith;
        long = refl;
        none_new = λ i h. (i, h, refl);
        none_lost = λ j h. inr (j, h, refl);
        unmoved = λ e j h. refl;
        rest = λ j h. refl;
      }

  module _ (k kept : ℕ) (ms : List Reach) (D : Dropping k kept ms) (l : k < size) where
    -- one that does not moves up to the others that are kept
    pub dropping_keeps : size ≤ length start → Dropping (k + 1) (kept + 1) (set ms kept (member ms k))
    dropping_keeps room =
        record {
          within = omega arith;
          fewer = omega (arith, D.fewer);
          long = length-set ms kept (member ms k) ∙ D.long;
          none_new = λ i h. new i h (ℕ_discrete i kept);
          none_lost = λ j h. lost j h (ℕ_discrete j k);
          unmoved = λ e j h. same (omega arith) j h (ℕ_discrete j k);
          rest = λ j h. other j (λ e. omega (arith, D.fewer)) ∙ D.rest j (omega arith);
        }
      where
        here : member (set ms kept (member ms k)) kept ≡ member start k
        here = get_or-set_same ms kept (member ms k) no_reach (omega (arith, D.fewer, D.long)) ∙ D.rest k (omega arith)

        other : (j : ℕ) → (j ≡ kept → ⊥) → member (set ms kept (member ms k)) j ≡ member ms j
        other j h = get_or-set_other ms kept j (member ms k) no_reach h

        new : (i : ℕ) → i < kept + 1 → Dec (i ≡ kept) → (j : ℕ) × (j < k + 1) × (member (set ms kept (member ms k)) i ≡ member start j)
        new i h (yes e) = (k, omega arith, ap (member (set ms kept (member ms k))) e ∙ here)
        new i h (no e) = let (j, g, q) = D.none_new i (omega arith) in (j, omega arith, other i e ∙ q)

        lost : (j : ℕ) → j < k + 1 → Dec (j ≡ k) → (withinb n (member start j) own ≡ true) ⊎ ((i : ℕ) × (i < kept + 1) × (member (set ms kept (member ms k)) i ≡ member start j))
        lost j h (yes e) = inr (kept, omega arith, here ∙ ap (member start) (sym e))
        lost j h (no e) = go (D.none_lost j (omega arith))
          where
            go : (withinb n (member start j) own ≡ true) ⊎ ((i : ℕ) × (i < kept) × (member ms i ≡ member start j))
                → (withinb n (member start j) own ≡ true) ⊎ ((i : ℕ) × (i < kept + 1) × (member (set ms kept (member ms k)) i ≡ member start j))
            go (inl a) = inl a
            go (inr (i, g, q)) = inr (i, omega arith, other i (λ d. omega arith) ∙ q)

        same : kept ≡ k → (j : ℕ) → j < k + 1 → Dec (j ≡ k) → member (set ms kept (member ms k)) j ≡ member start j
        same q j h (yes e) = ap (member (set ms kept (member ms k))) (e ∙ sym q) ∙ here ∙ ap (member start) (sym e)
        same q j h (no e) = other j (λ d. omega arith) ∙ D.unmoved q j (omega arith)

    pub dropping_drops : withinb n (member ms k) own ≡ true → Dropping (k + 1) kept ms
    dropping_drops h =
        record {
          within = omega arith;
          fewer = omega (arith, D.fewer);
          long = D.long;
          none_new = λ i g. (let (j, x, q) = D.none_new i g in (j, omega arith, q));
          none_lost = λ j g. lost j g (ℕ_discrete j k);
          unmoved = λ e j g. absurd (omega (arith, D.fewer));
          rest = λ j g. D.rest j (omega arith);
        }
      where
        lost : (j : ℕ) → j < k + 1 → Dec (j ≡ k) → (withinb n (member start j) own ≡ true) ⊎ ((i : ℕ) × (i < kept) × (member ms i ≡ member start j))
        lost j g (yes e) = inl (ap (λ (m : Reach). withinb n m own) (ap (member start) e ∙ sym (D.rest k (omega arith))) ∙ h)
        lost j g (no e) = D.none_lost j (omega arith)

  pub dropping_all : (k kept : ℕ) (ms : List Reach) → Dropping k kept ms → size ≤ k → Drops n own start size ms kept
  dropping_all k kept ms D l =
      record {
        fewer = omega (arith, D.fewer, D.within);
        none_new = λ i h. (let (j, g, q) = D.none_new i h in (j, omega (arith, D.within), q));
        none_lost = λ j h. D.none_lost j (omega arith);
        unmoved = λ e j h. D.unmoved (omega (arith, D.within)) j (omega arith);
      }

-- a reach is offered --------------------------------------------------------------------------------------------------------------------

module _ (n : ℕ) (own : Reach) (start : List Reach) (size : ℕ) where
  within_same : (a b : Reach) → a ≡ b → withinb n b a ≡ true
  within_same a b e = rw e (within_itself n b)

  -- it is covered
  pub seats_covered : size ≤ 64 → coveredb n start size own ≡ true → Seats n own start size start size true
  seats_covered room h =
      record {
        room = room;
        none_new = λ k l. inr (k, l, refl);
        none_lost = λ j l. (j, l, within_itself n (member start j));
        covers = λ e. covered_by n start own size h;
        first = λ e. refl;
      }

  module _ (ms : List Reach) (kept : ℕ) (D : Drops n own start size ms kept) where
    -- there is no room
    pub seats_none : size ≤ 64 → kept ≡ 64 → Seats n own start size ms kept false
    seats_none room e =
        record {
          room = omega arith;
          none_new = λ k l. inr (D.none_new k l);
          none_lost = λ j l. (j, omega arith, within_same (member ms j) (member start j) (D.unmoved (omega (arith, D.fewer)) j l));
          covers = λ h. never h;
          first = λ h. absurd (omega (arith, D.fewer));
        }

    -- it is added
    pub seats_one : kept < 64 → length ms ≡ 64 → Seats n own start size (set ms kept own) (kept + 1) true
    seats_one room long =
        record {
          room = omega arith;
          none_new = λ k l. new k l (ℕ_discrete k kept);
          none_lost = λ j l. lost j (D.none_lost j l);
          covers = λ h. (kept, omega arith, within_same (member (set ms kept own) kept) own here);
          first = λ h. refl;
        }
      where
        here : member (set ms kept own) kept ≡ own
        here = get_or-set_same ms kept own no_reach (omega arith)

        other : (j : ℕ) → j < kept → member (set ms kept own) j ≡ member ms j
        other j h = get_or-set_other ms kept j own no_reach (λ e. omega arith)

        new : (k : ℕ) → k < kept + 1 → Dec (k ≡ kept) → (member (set ms kept own) k ≡ own) ⊎ ((j : ℕ) × (j < size) × (member (set ms kept own) k ≡ member start j))
        new k l (yes e) = inl (ap (member (set ms kept own)) e ∙ here)
        new k l (no e) = let (j, g, q) = D.none_new k (omega arith) in inr (j, g, other k (omega arith) ∙ q)

        lost : (j : ℕ) → (withinb n (member start j) own ≡ true) ⊎ ((i : ℕ) × (i < kept) × (member ms i ≡ member start j))
            → (k : ℕ) × (k < kept + 1) × (withinb n (member start j) (member (set ms kept own) k) ≡ true)
        lost j (inl h) = (kept, omega arith, ap (withinb n (member start j)) here ∙ h)
        lost j (inr (i, l, q)) = (i, omega arith, within_same (member (set ms kept own) i) (member start j) (other i l ∙ q))
