-- An array of four that a loop fills from the front, zeros after what it has filled. Assumes nothing.
use Prim.Native.Nat.{ℕ, zero, suc, ◌+◌, ◌-◌, ◌≤◌, ◌<◌}
use native.Mathlib.Numerals.{add-one}
use native.Mathlib.Omega.{arith}
use mathlib.Core.Path.{◌≡◌, refl, sym, ap, ◌∙◌}
use mathlib.Core.Bool.{cond}
use mathlib.Core.List.{List, [], ◌∷◌, ◌++◌, append_assoc}
use lib.ListN.{length, set, replicate}
use lib.Seq.{set_at}
use lib.Dec.{ltb}
use Rattle.automata.specs.Clocks.{each}
use Rattle.regions.specs.Values.{padded}
use Rattle.automata.proofs.Laws.Lists.{length_each}

each_more : (n : ℕ) (f : ℕ → ℕ) → each (suc n) f ≡ each n f ++ (f n ∷ [])
each_more zero f = refl
each_more (suc n) f = ap (λ (l : List ℕ). f 0 ∷ l) (each_more n (λ (z : ℕ). f (suc z)))

zeros_after : (xs : List ℕ) (n : ℕ) → length xs ≡ n → padded xs ≡ xs ++ replicate (4 - n) 0
zeros_after xs n e = ap (λ (k : ℕ). xs ++ replicate (4 - k) 0) e

-- one store more
pub filled_more : (f : ℕ → ℕ) (z : ℕ) (l : List ℕ) (v : ℕ) → z < 4 → l ≡ padded (each z f) → v ≡ f z → set l z v ≡ padded (each (z + 1) f)
filled_more f z l v h e q =
    let room : 4 - z ≡ suc (4 - suc z) = omega arith in
    let before : l ≡ each z f ++ (0 ∷ replicate (4 - suc z) 0) =
    e ∙ zeros_after (each z f) z (length_each z f) ∙ ap (λ (k : ℕ). each z f ++ replicate k 0) room in
    let after : padded (each (suc z) f) ≡ each z f ++ (f z ∷ replicate (4 - suc z) 0) =
    zeros_after (each (suc z) f) (suc z) (length_each (suc z) f)
    ∙ ap (λ (l : List ℕ). l ++ replicate (4 - suc z) 0) (each_more z f)
    ∙ append_assoc (each z f) (f z ∷ []) (replicate (4 - suc z) 0) in
    (λ i. set (before i) z (q i))
    ∙ set_at (each z f) 0 (replicate (4 - suc z) 0) (f z) z (length_each z f)
    ∙ sym after
    ∙ ap (λ (k : ℕ). padded (each k f)) (sym (add-one z))

-- four numbers side by side
pub four_filled : (f : ℕ → ℕ) (n : ℕ) → n ≤ 4 → (a b c d : ℕ) → a ≡ cond (ltb 0 n) (f 0) 0 → b ≡ cond (ltb 1 n) (f 1) 0 → c ≡ cond (ltb 2 n) (f 2) 0 → d ≡ cond (ltb 3 n) (f 3) 0
    → a ∷ (b ∷ (c ∷ (d ∷ []))) ≡ padded (each n f)
four_filled f zero h a b c d p q r s = λ i. p i ∷ (q i ∷ (r i ∷ (s i ∷ [])))
four_filled f (suc zero) h a b c d p q r s = λ i. p i ∷ (q i ∷ (r i ∷ (s i ∷ [])))
four_filled f (suc (suc zero)) h a b c d p q r s = λ i. p i ∷ (q i ∷ (r i ∷ (s i ∷ [])))
four_filled f (suc (suc (suc zero))) h a b c d p q r s = λ i. p i ∷ (q i ∷ (r i ∷ (s i ∷ [])))
four_filled f (suc (suc (suc (suc zero)))) h a b c d p q r s = λ i. p i ∷ (q i ∷ (r i ∷ (s i ∷ [])))
four_filled f (suc (suc (suc (suc (suc n))))) h a b c d p q r s = absurd (omega arith)
