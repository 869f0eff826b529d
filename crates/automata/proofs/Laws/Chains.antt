-- What `all` and `any` answer where a call of the closure is a test: of the numbers below n, the tests clock by clock of specs/Clocks; of a slice, `every`
-- and `any` of specs/Checks. Assumes nothing.
use Prim.Native.Nat.{ℕ, zero, suc, ◌+◌, ◌<◌}
use Rattle.automata.specs.Checks.{every, any}
use Rattle.automata.specs.Clocks.{allb, someb}
use Rattle.std.proofs.Math.Bool.{and-true, or-false, or_comm}
use Rattle.std.proofs.iter.Yields.{nat_range_steps, fronts}
use Rattle.std.proofs.lemmas.Iterator.{YieldsList-from_range, YieldsList-from_slice}
use Rattle.std.proofs.lemmas.Iterator.Search.{all_from_yields_List, any_from_yields_List}
use Rattle.std.proofs.lemmas.List.Folds.{list_all-append, list_any-append}
use Rattle.std.proofs.lemmas.List.FromFn.{map-range_with_len_more}
use Rattle.std.specs.Fn.{Called}
use Rattle.std.specs.Iterator.{YieldsThen}
use Rattle.std.specs.List.{range_with_len, FoldsTo, list_all, list_any}
use Rattle.std.specs.Option.{MatchOption}
use Rattle.std.specs.Slice.Iter.{iter_rest}
use Rattle.std.specs.declared.slice.Iter.{Iter}
use Rattle.std.specs.declared.ops.Range.{Range}
use Rattle.std.specs.declared.option.Option.{Option}
use denote.Param.Members.{Mut}
use denote.Ref.{Bor}
use mathlib.Core.Bool.{Bool, true, false, ◌&&◌, ◌||◌}
use mathlib.Core.List.{List, [], ◌∷◌, ◌++◌, map-id}
use mathlib.Core.Path.{◌≡◌, refl, sym, ◌∙◌, ap}
use native.Mathlib.Omega.{arith}

-- the numbers below n + 1 are those below n, and n
below_more : (n : ℕ) → range_with_len 0 (suc n) ≡ range_with_len 0 n ++ n ∷ []
below_more n = ap (range_with_len 0) {x = suc n} {y = n + 1} (omega arith) ∙ sym (map-id _) ∙ map-range_with_len_more (λ k. k) 0 n n (omega arith) ∙ ap (λ xs. xs ++ n ∷ []) (map-id _)

all_below : (f : ℕ → Bool) (n : ℕ) → list_all f (range_with_len 0 n) ≡ allb n f
unfolding allb
all_below f zero = refl
all_below f (suc n) =
    ap (list_all f) (below_more n)
    ∙ list_all-append f (range_with_len 0 n) (n ∷ [])
    ∙ ap (λ b. b && (f n && true)) (all_below f n)
    ∙ ap (λ b. allb n f && b) (and-true (f n))

any_below : (f : ℕ → Bool) (n : ℕ) → list_any f (range_with_len 0 n) ≡ someb n f
unfolding someb
any_below f zero = refl
any_below f (suc n) =
    ap (list_any f) (below_more n)
    ∙ list_any-append f (range_with_len 0 n) (n ∷ [])
    ∙ ap (λ b. b || (f n || false)) (any_below f n)
    ∙ ap (λ b. someb n f || b) (or-false (f n))
    ∙ or_comm (someb n f) (f n)

-- all numbers below n pass the test that the closure is
pub allb_from_all : {F : Type 0} {g : Mut F (ℕ × Unit {0}) Bool} {n : ℕ} (test : ℕ → Bool) (u : Range ℕ) (f : F) (r : Bool)
    → (xs : List ℕ) × (o : Option ℕ) × (j : F) × YieldsThen nat_range_steps (record { start = 0; end = n }) xs o u × FoldsTo (λ p x q. Called g p (x, tt) true q) f xs j × MatchOption o (r ≡ true) (λ x. (r ≡ false) × ((h : F) × Called g j (x, tt) false h))
    → ((x : ℕ) (b : Bool) (q : F) → Called g f (x, tt) b q → (q ≡ f) × (b ≡ test x)) → r ≡ allb n test
allb_from_all {F} {g} {n} test u f r ran k =
    all_from_yields_List test u f r ran (YieldsList-from_range 0 n n refl (omega arith)) k
    ∙ all_below test n

-- some number below n passes it
pub someb_from_any : {F : Type 0} {g : Mut F (ℕ × Unit {0}) Bool} {n : ℕ} (test : ℕ → Bool) (u : Range ℕ) (f : F) (r : Bool)
    → (xs : List ℕ) × (o : Option ℕ) × (j : F) × YieldsThen nat_range_steps (record { start = 0; end = n }) xs o u × FoldsTo (λ p x q. Called g p (x, tt) false q) f xs j × MatchOption o (r ≡ false) (λ x. (r ≡ true) × ((h : F) × Called g j (x, tt) true h))
    → ((x : ℕ) (b : Bool) (q : F) → Called g f (x, tt) b q → (q ≡ f) × (b ≡ test x)) → r ≡ someb n test
someb_from_any {F} {g} {n} test u f r ran k =
    any_from_yields_List test u f r ran (YieldsList-from_range 0 n n refl (omega arith)) k
    ∙ any_below test n

-- the same tests of the numbers below n
pub allb_same : (n : ℕ) (f g : ℕ → Bool) → ((z : ℕ) → z < n → f z ≡ g z) → allb n f ≡ allb n g
unfolding allb
allb_same zero f g h = refl
allb_same (suc n) f g h = rw (allb_same n f g (λ z l. h z (omega arith)), h n (omega arith))

pub someb_same : (n : ℕ) (f g : ℕ → Bool) → ((z : ℕ) → z < n → f z ≡ g z) → someb n f ≡ someb n g
unfolding someb
someb_same zero f g h = refl
someb_same (suc n) f g h = rw (someb_same n f g (λ z l. h z (omega arith)), h n (omega arith))

-- a slice ---------------------------------------------------------------------------------------------------------------------------

all_every : {A : Type 0} (test : A → Bool) (xs : List A) → list_all test xs ≡ every test xs
all_every test [] = refl
all_every test (x ∷ xs) = ap (λ b. test x && b) (all_every test xs)

any_some : {A : Type 0} (test : A → Bool) (xs : List A) → list_any test xs ≡ any test xs
any_some test [] = refl
any_some test (x ∷ xs) = ap (λ b. test x || b) (any_some test xs)

-- all of the slice pass the test that the closure is
pub every_from_all : {A F : Type 0} {g : Mut F (Bor A × Unit {0}) Bool} {s : Iter A} (test : A → Bool) (u : Iter A) (f : F) (r : Bool)
    → (xs : List (Bor A)) × (o : Option (Bor A)) × (j : F) × YieldsThen fronts s xs o u × FoldsTo (λ p x q. Called g p (x, tt) true q) f xs j × MatchOption o (r ≡ true) (λ x. (r ≡ false) × ((h : F) × Called g j (x, tt) false h))
    → ((x : Bor A) (b : Bool) (q : F) → Called g f (x, tt) b q → (q ≡ f) × (b ≡ test x.now)) → r ≡ every test (iter_rest s)
every_from_all {A} {F} {g} {s} test u f r ran k =
    all_from_yields_List test u f r ran (YieldsList-from_slice (iter_rest s) refl) k
    ∙ all_every test (iter_rest s)

-- some of the slice passes it
pub some_from_any : {A F : Type 0} {g : Mut F (Bor A × Unit {0}) Bool} {s : Iter A} (test : A → Bool) (u : Iter A) (f : F) (r : Bool)
    → (xs : List (Bor A)) × (o : Option (Bor A)) × (j : F) × YieldsThen fronts s xs o u × FoldsTo (λ p x q. Called g p (x, tt) false q) f xs j × MatchOption o (r ≡ false) (λ x. (r ≡ true) × ((h : F) × Called g j (x, tt) true h))
    → ((x : Bor A) (b : Bool) (q : F) → Called g f (x, tt) b q → (q ≡ f) × (b ≡ test x.now)) → r ≡ any test (iter_rest s)
some_from_any {A} {F} {g} {s} test u f r ran k =
    any_from_yields_List test u f r ran (YieldsList-from_slice (iter_rest s) refl) k
    ∙ any_some test (iter_rest s)
