-- Ranks made dense: in the same order, 0 where they were, and with none missing. Assumes nothing.
use Prim.Native.Nat.{ℕ, ◌≤◌, ◌<◌}
use native.Mathlib.Omega.{arith}
use mathlib.Core.Path.{◌≡◌, refl, ap, ◌∙◌}
use mathlib.Core.Bool.{true}
use mathlib.Core.Logic.{◌↔◌}
use mathlib.Core.List.{List}
use lib.ListN.{length}
use Rattle.automata.specs.Clocks.{at, count}
use Rattle.automata.specs.Rankings.{usedb}
use Rattle.regions.specs.Image.{dense_rank, dense_at, dense}
use Rattle.automata.proofs.Laws.Lists.{length_each, at_each}
use Rattle.automata.proofs.Laws.Ranks.{used_law}
use Rattle.automata.proofs.Laws.Count.{count_less, count_dense, count_le, count_order}

module _ (ks : List ℕ) (n : ℕ) where
  used_own : (z : ℕ) → z < n → usedb ks n (at ks z) ≡ true
  used_own z h = (used_law ks n (at ks z)).1 (z, h, refl)

  pub length_dense : length (dense ks n) ≡ n
  unfolding dense
  length_dense = length_each n (dense_at ks n)

  pub at_dense : (z : ℕ) → z < n → at (dense ks n) z ≡ dense_rank ks n (at ks z)
  unfolding dense
  at_dense z h = at_each n (dense_at ks n) z h

  -- no rank grows
  pub dense_le : (a : ℕ) → dense_rank ks n a ≤ a
  unfolding dense_rank
  dense_le a = count_le (usedb ks n) a

  pub dense_zero : (z : ℕ) → z < n → at ks z ≡ 0 → at (dense ks n) z ≡ 0
  dense_zero z h e = omega (arith, at_dense z h, dense_le (at ks z))

  pub dense_positive : (z : ℕ) → z < n → 0 < at ks z → 0 < at (dense ks n) z
  unfolding dense_rank
  dense_positive z h p = let q = count_less (usedb ks n) 0 (at ks z) p (used_own z h) in omega (arith, at_dense z h)

  pub dense_order : (z w : ℕ) → z < n → w < n → (at (dense ks n) z ≤ at (dense ks n) w) ↔ (at ks z ≤ at ks w)
  unfolding dense_rank
  dense_order z w h k = rw (at_dense z h, at_dense w k) (count_order (usedb ks n) (at ks z) (at ks w) (used_own z h))

  pub dense_none_missing : (z k : ℕ) → z < n → 0 < k → k < at (dense ks n) z → (w : ℕ) × (w < n) × (at (dense ks n) w ≡ k)
  unfolding dense_rank
  dense_none_missing z k h p q =
      let (a, e, s) = count_dense (usedb ks n) (at ks z) k p (omega (arith, at_dense z h)) in
      let (w, l, t) = (used_law ks n a).0 e in
      (w, l, at_dense w l ∙ ap (count (usedb ks n)) t ∙ s)
