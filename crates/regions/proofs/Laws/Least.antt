-- The least number that passes a test, sought from k on up to before the end. Assumes nothing.
use Prim.Native.Nat.{ℕ, zero, suc, max, ◌+◌, ◌-◌, ◌≤◌, ◌<◌}
use native.Mathlib.Nat.{add-zero}
use native.Mathlib.Omega.{arith}
use native.Mathlib.Decide.{dec_le}
use mathlib.Core.Path.{◌≡◌, sym, ap, ◌∙◌}
use mathlib.Core.Bool.{Bool, true, false}
use Rattle.automata.specs.Successors.{least}
use Rattle.std.specs.Option.{MatchOption, unwrap_or}
use Rattle.std.specs.declared.option.Option.{Option}
use Rattle.std.specs.declared.option.Option.TheVariants.{None, Some}

module _ (t : ℕ → Bool) (end : ℕ) where
  pub least_here : (k : ℕ) → k < end → t k ≡ true → least t (end - k) k ≡ k
  unfolding least
  least_here k h e = let n : end - k ≡ suc (end - suc k) = omega arith in rw (n, e)

  pub least_none : (k : ℕ) → end ≤ k → least t (end - k) k ≡ k
  unfolding least
  least_none k h = let n : end - k ≡ 0 = omega arith in rw n

  leap : (k d : ℕ) → k + d ≤ end → ((j : ℕ) → k ≤ j → j < k + d → t j ≡ false) → least t (end - k) k ≡ least t (end - (k + d)) (k + d)
  unfolding least
  leap k zero h f = rw add-zero
  leap k (suc d) h f =
      let n : end - k ≡ suc (end - suc k) = omega arith in
      let s : suc k + d ≡ k + suc d = omega arith in
      let off : t k ≡ false = f k (omega arith) (omega arith) in
      rw (n, off) (leap (suc k) d (omega arith) (λ j a b. f j (omega arith) (omega arith)) ∙ ap (λ (x : ℕ). least t (end - x) x) s)

  pub least_leap : (k l : ℕ) → k ≤ l → l ≤ end → ((j : ℕ) → k ≤ j → j < l → t j ≡ false) → least t (end - k) k ≡ least t (end - l) l
  least_leap k l h e f =
      let s : k + (l - k) ≡ l = omega arith in
      leap k (l - k) (omega arith) (λ j a b. f j a (omega arith)) ∙ ap (λ (x : ℕ). least t (end - x) x) s

  pub least_next : (k : ℕ) → k < end → t k ≡ false → least t (end - k) k ≡ least t (end - (k + 1)) (k + 1)
  least_next k h e = least_leap k (k + 1) (omega arith) (omega arith) (λ j a b. let s : j ≡ k = omega arith in ap t s ∙ e)

-- what `find` gives of the numbers from k on to before the end, or the end
module _ (t : ℕ → Bool) (k end : ℕ) where
  pub least_found : (r : Option ℕ)
      → MatchOption r ((j : ℕ) → k ≤ j → j < end → t j ≡ false) (λ i. (k ≤ i) × (i < end) × (t i ≡ true) × ((j : ℕ) → k ≤ j → j < i → t j ≡ false))
      → unwrap_or r (max k end) ≡ least t (end - k) k
  least_found None f = by (dec_le k end)
    where
      by : Dec (k ≤ end) → max k end ≡ least t (end - k) k
      by (yes h) = sym (least_leap t end k end h (omega arith) f ∙ least_none t end end (omega arith) ∙ omega arith)
      by (no h) = sym (least_none t end k (omega arith) ∙ omega arith)
  least_found (Some i) (a, b, e, f) = sym (least_leap t end k i a (omega arith) f ∙ least_here t end i b e)
