-- Text as bytes, and numbers in decimal. Assumes nothing.
use Prim.Native.Nat.{ℕ, zero, suc, ◌+◌, ◌/◌, ◌%◌, ◌≤◌, ◌<◌}
use Prim.Native.Char.{code}
use Prim.Native.String.append
use Prim.Native.String.{String, [], ◌∷◌, ◌++◌}
use native.Mathlib.Omega.{arith}
use mathlib.Core.Path.{◌≡◌, refl, ap, ◌∙◌}
use mathlib.Core.List.{List, [] as []ᴸ, ◌∷◌ as ◌∷ᴸ◌, ◌++◌ as ◌++ᴸ◌}
use borrow.Author.Tests.{lt-ltb, le-ltb}
use Rattle.calls.specs.Text.{ascii}
use Rattle.calls.specs.Program.{digit, decimal_of}

pub ascii_append : (s t : String) → ascii (s ++ t) ≡ ascii s ++ᴸ ascii t
ascii_append [] t = ap ascii (append.nil t)
ascii_append (c ∷ s) t = ap ascii (append.cons c s t) ∙ ap (λ (l : List ℕ). code c ∷ᴸ l) (ascii_append s t)

pub ascii_digit : (d : ℕ) → d < 10 → ascii (digit d) ≡ (48 + d) ∷ᴸ []ᴸ
ascii_digit zero h = refl
ascii_digit (suc zero) h = refl
ascii_digit (suc (suc zero)) h = refl
ascii_digit (suc (suc (suc zero))) h = refl
ascii_digit (suc (suc (suc (suc zero)))) h = refl
ascii_digit (suc (suc (suc (suc (suc zero))))) h = refl
ascii_digit (suc (suc (suc (suc (suc (suc zero)))))) h = refl
ascii_digit (suc (suc (suc (suc (suc (suc (suc zero))))))) h = refl
ascii_digit (suc (suc (suc (suc (suc (suc (suc (suc zero)))))))) h = refl
ascii_digit (suc (suc (suc (suc (suc (suc (suc (suc (suc zero))))))))) h = refl
ascii_digit (suc (suc (suc (suc (suc (suc (suc (suc (suc (suc d)))))))))) h = absurd (omega arith)

-- a number below 10, and any other
pub decimal_one : (k n : ℕ) → n < 10 → ascii (decimal_of (suc k) n) ≡ (48 + n) ∷ᴸ []ᴸ
decimal_one k n h = rw (lt-ltb n 10 h) (ascii_digit n h)

pub decimal_more : (k n : ℕ) → 10 ≤ n → ascii (decimal_of (suc k) n) ≡ ascii (decimal_of k (n / 10)) ++ᴸ ((48 + n % 10) ∷ᴸ []ᴸ)
decimal_more k n h =
    rw (le-ltb n 10 h)
    (ascii_append (decimal_of k (n / 10)) (digit (n % 10)) ∙ ap (λ (l : List ℕ). ascii (decimal_of k (n / 10)) ++ᴸ l) (ascii_digit (n % 10) (omega arith)))
