-- Parts of lists. Assumes nothing.
use Prim.Native.Nat.{ℕ, ◌+◌, ◌≤◌}
use native.Mathlib.Omega.{arith}
use mathlib.Core.Path.{◌≡◌, sym, ap, ◌∙◌}
use mathlib.Core.List.{List, ◌++◌}
use lib.ListN.{length, take, drop, length-drop}
use lib.Seq.{take-append-le, drop-append-le, drop-append-add}

module _ {A : Type 0} where
  -- a part that ends within the first list does not depend on what follows
  pub part_within : (xs ys zs : List A) (p w : ℕ) → p + w ≤ length xs → take w (drop p (xs ++ ys)) ≡ take w (drop p (xs ++ zs))
  part_within xs ys zs p w h = alone ys ∙ sym (alone zs)
    where
      alone : (ys : List A) → take w (drop p (xs ++ ys)) ≡ take w (drop p xs)
      alone ys = ap (take w) (drop-append-le p xs ys (omega arith)) ∙ take-append-le w (drop p xs) ys (simp length-drop (omega arith))

  -- what comes after the first list
  pub drop_past : (xs ys : List A) (p q : ℕ) → length xs ≡ p → drop (p + q) (xs ++ ys) ≡ drop q ys
  drop_past xs ys p q e = rw (← e) (drop-append-add xs ys q)
