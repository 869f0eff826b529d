-- The first of some numbers of which something does not hold, found by halves, one by one, or among some of them alone. Assumes nothing.
use Prim.Native.Nat.{ℕ, ◌≤◌, ◌<◌}
use native.Mathlib.Decide.{dec_lt}
use native.Mathlib.Omega.{arith}
use mathlib.Core.Bool.{Bool, true, false, not}
use mathlib.Core.List.{List}
use mathlib.Core.Path.{◌≡◌, sym, ◌∙◌}
use borrow.Author.Tests.{not-true, not-false}
use Rattle.automata.proofs.Laws.Tests.{never}
use denote.Param.Members.{Mut}
use denote.Ref.{Bor}
use Rattle.std.proofs.iter.Yields.{nat_range_steps}
use Rattle.std.proofs.lemmas.Iterator.{first_from_Range}
use Rattle.std.specs.Bool.{⊤}
use Rattle.std.specs.Fn.{CalledAt}
use Rattle.std.specs.Iterator.{YieldsThen}
use Rattle.std.specs.List.{FoldsTo}
use Rattle.std.specs.Option.{MatchOption, unwrap_or}
use Rattle.std.specs.declared.ops.Range.{Range}
use Rattle.std.specs.declared.option.Option.{Option}
use Rattle.std.specs.declared.option.Option.TheVariants.{Some, None}
use Rattle.walked_rows.specs.Open.{FirstOpen, SomeOpen}

module _ (P : ℕ → Type 0) (lo hi : ℕ) where
  -- by halves ----------------------------------------------------------------------------------------------------------------------------

  -- it holds of all before low, and not of first, unless that is the end; those from low to before top come next
  pub record Halving (low first top : ℕ) : Type 0 where
    pub from : lo ≤ low
    pub some : low < first → low < top
    pub low_top : low ≤ top
    pub top_first : top ≤ first
    pub to : first ≤ hi
    pub before : (i : ℕ) → lo ≤ i → i < low → P i
    pub here : first < hi → P first → ⊥

  pub halving_begins : (first : ℕ) → lo ≤ first → first ≤ hi → (first < hi → P first → ⊥) → Halving lo first first
  halving_begins first a b h =
      record { from = omega arith; some = λ l. l; low_top = a; top_first = omega arith; to = b; before = λ i a b. absurd (omega arith); here = h }

  module _ (low first top : ℕ) (H : Halving low first top) where
    pub halving_ends : first ≤ low → FirstOpen P lo hi first
    halving_ends l = record { from = omega (arith, H.from, H.low_top, H.top_first); to = H.to; before = λ i a b. H.before i a (omega (arith, H.low_top, H.top_first)); here = H.here }

    -- one is found, and those before it are left
    pub halving_fails : (r : ℕ) → r < top → (P r → ⊥) → (top' : ℕ) → low ≤ top' → top' ≤ r → (low < r → low < top') → Halving low r top'
    halving_fails r l h top' a b some =
        record { from = H.from; some = some; low_top = a; top_first = b; to = omega (arith, H.top_first, H.to); before = H.before; here = λ k. h }

    -- none is
    pub halving_passes : (r : ℕ) → SomeOpen P low top r → top ≤ r → Halving top first first
    halving_passes r S n = record { from = omega (arith, H.from, H.low_top); some = λ l. l; low_top = H.top_first; top_first = omega arith; to = H.to; before = λ i a b. go i a b (dec_lt i low); here = H.here }
      where
        go : (i : ℕ) → lo ≤ i → i < top → Dec (i < low) → P i
        go i a b (yes l) = H.before i a l
        go i a b (no l) = S.all (omega (arith, S.to)) i (omega arith) b

-- by `find`, whose closure says where it fails the test --------------------------------------------------------------------------------------

pub first_found : {F : Type 0} {g : Mut F (Bor ℕ × Unit {0}) Bool} (test : ℕ → Bool) (lo hi : ℕ) → lo ≤ hi → (u : Range ℕ) (f : F) (r : Option ℕ)
    → (xs : List ℕ) × (j : F) × YieldsThen nat_range_steps (record { start = lo; end = hi }) xs r u × FoldsTo (λ p x q. CalledAt g p x false q) f xs j × MatchOption r ⊤ (λ x. (h : F) × CalledAt g j x true h)
    → ((x : ℕ) (b : Bool) (q : F) → CalledAt g f x b q → (q ≡ f) × (b ≡ not (test x))) → FirstOpen (λ i. test i ≡ true) lo hi (unwrap_or r hi)
first_found {F} {g} test lo hi l u f r ran k =
    go r (first_from_Range {g = g} (record { start = lo; end = hi }) u f r (λ x. test x ≡ true → ⊥) (λ x. test x ≡ true) ran
    (λ x q h e. never (sym (not-true _ (sym (k x true q h).1)) ∙ e)) (λ x q h. let (same, e) = k x false q h in (same, not-false _ (sym e))))
  where
    go : (r : Option ℕ) → MatchOption r ((k : ℕ) → lo ≤ k → k < hi → test k ≡ true) (λ i. (lo ≤ i) × (i < hi) × (test i ≡ true → ⊥) × ((k : ℕ) → lo ≤ k → k < i → test k ≡ true)) → FirstOpen (λ i. test i ≡ true) lo hi (unwrap_or r hi)
    go None h = record { from = l; to = omega arith; before = h; here = λ k. absurd (omega arith) }
    go (Some i) (a, b, h, before) = record { from = a; to = omega arith; before = before; here = λ _. h }

-- those of some rows alone ---------------------------------------------------------------------------------------------------------------------

-- a stretch of them where nothing is open elsewhere
pub first_within : (P : ℕ → Type 0) (start end hi : ℕ) → start ≤ end → end ≤ hi → ((i : ℕ) → i < start → P i) → ((i : ℕ) → end ≤ i → i < hi → P i) → (r : ℕ) → FirstOpen P start end r
    → (r < end → FirstOpen P 0 hi r) × (end ≤ r → FirstOpen P 0 hi hi)
first_within P start end hi s t before after r F = (λ l. record { from = omega arith; to = omega arith; before = λ i a b. go i b (dec_lt i start); here = λ k. F.here l }, λ n. record { from = omega arith; to = omega arith; before = λ i a b. all n i b (dec_lt i start) (dec_lt i end); here = λ k. absurd (omega arith) })
  where
    go : (i : ℕ) → i < r → Dec (i < start) → P i
    go i b (yes l) = before i l
    go i b (no l) = F.before i (omega arith) b

    all : end ≤ r → (i : ℕ) → i < hi → Dec (i < start) → Dec (i < end) → P i
    all n i b (yes l) e = before i l
    all n i b (no l) (yes e) = F.before i (omega arith) (omega (arith, F.to))
    all n i b (no l) (no e) = after i (omega arith) b
