-- The record reader's tests against the definitions. Assumes nothing.
use Prim.Native.Nat.{ℕ, ◌+◌, ◌-◌, ◌≤◌, ◌<◌}
use native.Mathlib.Omega.{arith}
use native.Mathlib.Nat.{add-sub_cancel_left}
use mathlib.Core.Path.{◌≡◌, refl, sym, ap, ◌∙◌}
use mathlib.Core.Bool.{true, false, ◌&&◌}
use mathlib.Core.List.{List, [], ◌∷◌}
use lib.ListN.{length, take, drop}
use lib.Dec.{leb, eqb}
use borrow.Author.Tests.{leb-true, leb-false, le-leb, eq-eqb, ne_eqb}
use Rattle.automata.specs.Clocks.{at}
use Rattle.automata.specs.Checks.{same}
use Rattle.automata.proofs.Laws.Tests.{leb_law, fails, and_false}

-- two tests of orders that say the same
pub leb_same : (a b c d : ℕ) → (a ≤ b → c ≤ d) → (c ≤ d → a ≤ b) → leb a b ≡ leb c d
leb_same a b c d f g = go (leb c d) refl
  where
    go : (t : mathlib.Core.Bool.Bool) → leb c d ≡ t → leb a b ≡ t
    go true e = le-leb a b (g (leb-true c d e))
    go false e = fails (leb a b) (leb_law a b) (λ h. let k : c ≤ d = f h in let n : d < c = leb-false c d e in omega arith)

-- the part from p to p + n
pub span : (s : List ℕ) (p n : ℕ) → take (p + n - p) (drop p s) ≡ take n (drop p s)
span s p n = rw add-sub_cancel_left

-- a mark of two bytes ----------------------------------------------------------------------------------------------------------

two_of : (mark : List ℕ) → length mark ≡ 2 → mark ≡ at mark 0 ∷ at mark 1 ∷ []
two_of [] e = absurd (omega arith)
two_of (x ∷ []) e = absurd (omega arith)
two_of (x ∷ (y ∷ [])) e = refl
two_of (x ∷ (y ∷ (z ∷ rest))) e = absurd (omega arith)

take_two : (b : List ℕ) → 2 ≤ length b → take 2 b ≡ at b 0 ∷ at b 1 ∷ []
take_two [] h = absurd (omega arith)
take_two (x ∷ []) h = absurd (omega arith)
take_two (x ∷ (y ∷ rest)) h = refl

module _ (mark b : List ℕ) (m : length mark ≡ 2) where
  pub mark_short : length b < 2 → same mark (take 2 b) ≡ false
  mark_short h = go b h
    where
      go : (b : List ℕ) → length b < 2 → same mark (take 2 b) ≡ false
      go [] h = ap (λ (l : List ℕ). same l []) (two_of mark m)
      go (x ∷ []) h = ap (λ (l : List ℕ). same l (x ∷ [])) (two_of mark m) ∙ and_false (eqb (at mark 0) x)
      go (x ∷ (y ∷ rest)) h = absurd (omega arith)

  marks : 2 ≤ length b → same mark (take 2 b) ≡ (eqb (at mark 0) (at b 0) && (eqb (at mark 1) (at b 1) && true))
  marks h = rw (take_two b h) (ap (λ (l : List ℕ). same l (at b 0 ∷ at b 1 ∷ [])) (two_of mark m))

  pub mark_first : 2 ≤ length b → (at b 0 ≡ at mark 0 → ⊥) → same mark (take 2 b) ≡ false
  mark_first h n = marks h ∙ rw (ne_eqb (at mark 0) (at b 0) (λ e. n (sym e)))

  pub mark_second : 2 ≤ length b → at b 0 ≡ at mark 0 → (at b 1 ≡ at mark 1 → ⊥) → same mark (take 2 b) ≡ false
  mark_second h e n = marks h ∙ rw (eq-eqb (at mark 0) (at b 0) (sym e), ne_eqb (at mark 1) (at b 1) (λ e. n (sym e)))

  pub mark_both : 2 ≤ length b → at b 0 ≡ at mark 0 → at b 1 ≡ at mark 1 → same mark (take 2 b) ≡ true
  mark_both h e f = marks h ∙ rw (eq-eqb (at mark 0) (at b 0) (sym e), eq-eqb (at mark 1) (at b 1) (sym f))
