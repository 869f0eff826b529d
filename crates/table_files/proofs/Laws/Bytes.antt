-- Numbers, and lists of them, in bytes and back. Assumes nothing.
use Prim.Native.Nat.{ℕ, zero, suc, ◌+◌, ◌*◌, ◌/◌, ◌%◌, ◌≤◌, ◌<◌}
use native.Mathlib.Omega.{arith}
use mathlib.Core.Path.{◌≡◌, refl, ap, ◌∙◌}
use mathlib.Core.List.Memᴰ
use mathlib.Core.List.{List, [], ◌∷◌, ◌++◌}
use lib.ListN.{length, drop}
use lib.Seq.{drop-cons, get_or-append-add}
use Rattle.automata.specs.Clocks.{at, each}
use Rattle.automata.specs.Closed.{Mem}
use Rattle.automata.specs.Rows.{gather}
use Rattle.table_files.specs.Bytes.{AreBytes, two, four, two_bytes, four_bytes}

-- what lists of bytes are made of --------------------------------------------------------------------------------------------

pub bytes_append : (xs ys : List ℕ) → AreBytes xs → AreBytes ys → AreBytes (xs ++ ys)
bytes_append [] ys p q = q
bytes_append (x ∷ xs) ys p q = (p.0, bytes_append xs ys p.1 q)

pub bytes_after : (xs ys : List ℕ) → AreBytes (xs ++ ys) → AreBytes ys
bytes_after [] ys p = p
bytes_after (x ∷ xs) ys p = bytes_after xs ys p.1

pub bytes_before : (xs ys : List ℕ) → AreBytes (xs ++ ys) → AreBytes xs
bytes_before [] ys p = tt
bytes_before (x ∷ xs) ys p = (p.0, bytes_before xs ys p.1)

pub are_bytes : (xs : List ℕ) → ((z : ℕ) → z < length xs → at xs z < 256) → AreBytes xs
are_bytes [] h = tt
are_bytes (x ∷ xs) h = (h 0 (omega arith), are_bytes xs (λ z l. h (suc z) (omega arith)))

pub gather_bytes : {A : Type 0} (f : A → List ℕ) (xs : List A) → ((a : A) → Mem a xs → AreBytes (f a)) → AreBytes (gather f xs)
gather_bytes f [] h = tt
gather_bytes f (x ∷ xs) h = bytes_append (f x) (gather f xs) (h x (Memᴰ.head refl)) (gather_bytes f xs (λ a m. h a (Memᴰ.tail m)))

pub byte_at : (b : List ℕ) → AreBytes b → (k : ℕ) → at b k < 256
byte_at [] p k = omega arith
byte_at (x ∷ b) p zero = p.0
byte_at (x ∷ b) p (suc k) = byte_at b p.1 k

-- from a file: what stands from byte k on ------------------------------------------------------------------------------------

pub byte_next : (b : List ℕ) (k : ℕ) → k < length b → drop k b ≡ at b k ∷ drop (k + 1) b
byte_next b k h = drop-cons b k 0 h ∙ (let e : suc k ≡ k + 1 = omega arith in λ i. at b k ∷ drop (e i) b)

-- n bytes
pub bytes_next : (b : List ℕ) (k n : ℕ) → k + n ≤ length b → drop k b ≡ each n (λ (z : ℕ). at b (k + z)) ++ drop (k + n) b
bytes_next b k zero h = let e : k ≡ k + 0 = omega arith in λ i. drop (e i) b
bytes_next b k (suc n) h =
    byte_next b k (omega arith)
    ∙ (λ i. at b (here i) ∷ bytes_next b (k + 1) n (omega arith) i)
    ∙ (λ i. at b (k + 0) ∷ (each n (λ (z : ℕ). at b (there z i)) ++ drop (last i) b))
  where
    here : k ≡ k + 0
    here = omega arith

    there : (z : ℕ) → k + 1 + z ≡ k + suc z
    there z = omega arith

    last : k + 1 + n ≡ k + suc n
    last = omega arith

module _ (b : List ℕ) (p : AreBytes b) where
  -- a number of two bytes
  pub two_next : (k : ℕ) → k + 2 ≤ length b → drop k b ≡ two_bytes (two b k) ++ drop (k + 2) b
  two_next k h =
      byte_next b k (omega arith)
      ∙ ap (λ (l : List ℕ). at b k ∷ l) (byte_next b (k + 1) (omega arith))
      ∙ (λ i. high i ∷ (low i ∷ drop (last i) b))
    where
      high : at b k ≡ (at b k * 256 + at b (k + 1)) / 256
      high = omega (arith, byte_at b p (k + 1))

      low : at b (k + 1) ≡ (at b k * 256 + at b (k + 1)) % 256
      low = omega (arith, byte_at b p (k + 1))

      last : k + 1 + 1 ≡ k + 2
      last = omega arith

  pub two_small : (k : ℕ) → two b k < 65536
  two_small k = omega (arith, byte_at b p k, byte_at b p (k + 1))

  -- a number of four bytes
  pub four_next : (k : ℕ) → k + 4 ≤ length b → drop k b ≡ four_bytes (four b k) ++ drop (k + 4) b
  four_next k h =
      two_next k (omega arith)
      ∙ ap (λ (l : List ℕ). two_bytes (two b k) ++ l) (two_next (k + 2) (omega arith))
      ∙ (λ i. two_bytes (high i) ++ (two_bytes (low i) ++ drop (last i) b))
    where
      high : two b k ≡ (two b k * 65536 + two b (k + 2)) / 65536
      high = omega (arith, two_small (k + 2))

      low : two b (k + 2) ≡ (two b k * 65536 + two b (k + 2)) % 65536
      low = omega (arith, two_small (k + 2))

      last : k + 2 + 2 ≡ k + 4
      last = omega arith

  -- n numbers of four bytes
  pub fours_next : (k n : ℕ) → k + 4 * n ≤ length b → drop k b ≡ gather four_bytes (each n (λ (z : ℕ). four b (k + 4 * z))) ++ drop (k + 4 * n) b
  fours_next k zero h = let e : k ≡ k + 4 * 0 = omega arith in λ i. drop (e i) b
  fours_next k (suc n) h =
      four_next k (omega arith)
      ∙ (λ i. four_bytes (four b (here i)) ++ fours_next (k + 4) n (omega arith) i)
      ∙ (λ i. four_bytes (four b (k + 4 * 0)) ++ (gather four_bytes (each n (λ (z : ℕ). four b (there z i))) ++ drop (last i) b))
    where
      here : k ≡ k + 4 * 0
      here = omega arith

      there : (z : ℕ) → k + 4 + 4 * z ≡ k + 4 * suc z
      there z = omega arith

      last : k + 4 + 4 * n ≡ k + 4 * suc n
      last = omega arith

-- and back: what was written is read -----------------------------------------------------------------------------------------

pub each_at : (xs : List ℕ) (f : ℕ → ℕ) → ((z : ℕ) → z < length xs → f z ≡ at xs z) → each (length xs) f ≡ xs
each_at [] f h = refl
each_at (x ∷ xs) f h = λ i. h 0 (omega arith) i ∷ each_at xs (λ (z : ℕ). f (suc z)) (λ z l. h (suc z) (omega arith)) i

-- past the bytes before
four_past : (pre l : List ℕ) (k : ℕ) → four (pre ++ l) (length pre + k) ≡ four l k
four_past pre l k = rw (get_or-append-add pre l k 0, past 1, past 2, last)
  where
    past : (j : ℕ) → at (pre ++ l) (length pre + k + j) ≡ at l (k + j)
    past j = let e : length pre + k + j ≡ length pre + (k + j) = omega arith in ap (at (pre ++ l)) e ∙ get_or-append-add pre l (k + j) 0

    last : at (pre ++ l) (length pre + k + 2 + 1) ≡ at l (k + 2 + 1)
    last = let e : length pre + k + 2 + 1 ≡ length pre + (k + 2 + 1) = omega arith in ap (at (pre ++ l)) e ∙ get_or-append-add pre l (k + 2 + 1) 0

four_back : (x : ℕ) (l : List ℕ) → four (four_bytes x ++ l) 0 ≡ x
four_back x l = omega arith

pub fours_back : (pre xs : List ℕ) (z : ℕ) → z < length xs → four (pre ++ gather four_bytes xs) (length pre + 4 * z) ≡ at xs z
fours_back pre xs z h = four_past pre (gather four_bytes xs) (4 * z) ∙ go xs z h
  where
    go : (xs : List ℕ) (z : ℕ) → z < length xs → four (gather four_bytes xs) (4 * z) ≡ at xs z
    go [] z h = absurd (omega arith)
    go (x ∷ xs) zero h = four_back x (gather four_bytes xs)
    go (x ∷ xs) (suc z) h =
        let e : 4 * suc z ≡ 4 + 4 * z = omega arith in
        ap (four (four_bytes x ++ gather four_bytes xs)) e
        ∙ four_past (four_bytes x) (gather four_bytes xs) (4 * z)
        ∙ go xs z (omega arith)

pub length_fours : (xs : List ℕ) → length (gather four_bytes xs) ≡ 4 * length xs
length_fours [] = refl
length_fours (x ∷ xs) = let h : length (gather four_bytes xs) ≡ 4 * length xs = length_fours xs in omega arith
