-- Writing to the front of a lent buffer: number by number, and by lending the rest of it. Assumes nothing.
use Prim.Native.Nat.{ℕ, suc, ◌+◌, ◌-◌, ◌<◌}
use native.Mathlib.Numerals.{add-one}
use native.Mathlib.Omega.{arith}
use mathlib.Core.Path.{◌≡◌}
use mathlib.Core.List.{List, [], ◌∷◌, ◌++◌, append_assoc, append-nil}
use lib.ListN.{length, take, drop, set, get_or, length-append}
use lib.Seq.{take-suc, drop-cons, set_at, take_at, drop_at, take-length, drop-length, drop-drop, length-take-le}

module _ {A : Type 0} where
  -- out holds the first z of xs and then what o has: one more is written
  pub copy_next : (xs o out : List A) (z : ℕ) (d : A) → out ≡ take z xs ++ drop z o → z < length xs → z < length o
      → set out z (get_or xs z d) ≡ take (z + 1) xs ++ drop (z + 1) o
  copy_next xs o out z d e h k =
      rw (e, add-one, drop-cons o z d, take-suc xs z d, append_assoc)
      (set_at (take z xs) (get_or o z d) (drop (suc z) o) (get_or xs z d) z (length-take-le z xs (omega arith)))

  -- out holds p and then what o has from `place` on. The rest of out, from there, was lent, and came back as w: v and then what stood after it.
  pub rest_next : (p o out w v : List A) (place m : ℕ) → length p ≡ place → out ≡ p ++ drop place o
      → w ≡ v ++ drop m (take (length out - place) (drop place out))
      → take place out ++ (w ++ drop (length out - place) (drop place out)) ≡ (p ++ v) ++ drop (place + m) o
  rest_next p o out w v place m lp e f =
      let n : length (p ++ drop place o) - place ≡ length (drop place o) = simp length-append (omega arith) in
      rw (f, e)
      (rw (take_at p (drop place o) place lp, drop_at p (drop place o) place lp, n)
      (rw (take-length (drop place o), drop-length (drop place o))
      (simp (append-nil, drop-drop, append_assoc))))

  -- out holds p and then what o has: one more is stored
  pub store_next : (p o out : List A) (place : ℕ) (x d : A) → length p ≡ place → out ≡ p ++ drop place o → place < length o
      → set out place x ≡ (p ++ (x ∷ [])) ++ drop (place + 1) o
  store_next p o out place x d lp e h =
      rw (e, drop-cons o place d h, set_at p (get_or o place d) (drop (suc place) o) x place lp, add-one, append_assoc)
