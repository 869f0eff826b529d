-- A line that is printed, part by part. Assumes nothing.
use Prim.Native.Nat.{ℕ, ◌+◌, ◌-◌, ◌≤◌, ◌<◌}
use Prim.Native.String.{String, ◌++◌ as ◌then◌}
use native.Mathlib.Omega.{arith}
use mathlib.Core.Path.{◌≡◌, sym, ap, ◌∙◌}
use mathlib.Core.List.{List, [], ◌∷◌, ◌++◌, append_assoc}
use lib.ListN.{length, take, drop, set, length-append, length-set, length-drop}
use lib.Seq.{take_at}
use Rattle.calls.specs.Text.{ascii}
use Rattle.calls.specs.Program.{decimal}
use Rattle.calls.proofs.Laws.Text.{ascii_append}
use Rattle.calls.proofs.Laws.Writing.{rest_next, store_next}

-- a word, a blank, a number
pub counted : (word : String) (n : ℕ) → ascii word ++ (32 ∷ ascii (decimal n)) ≡ ascii (word then (" " then decimal n))
counted word n = sym (ascii_append word (" " then decimal n) ∙ ap (λ (l : List ℕ). ascii word ++ l) (ascii_append " " (decimal n)))

pub refused_line : (number place : ℕ)
    → (ascii "REFUSED" ++ (32 ∷ ascii (decimal number))) ++ (32 ∷ ascii (decimal place)) ≡ ascii ("REFUSED " then (decimal number then (" " then decimal place)))
refused_line number place = sym (
    ascii_append "REFUSED " (decimal number then (" " then decimal place))
    ∙ ap (λ (l : List ℕ). ascii "REFUSED " ++ l) (ascii_append (decimal number) (" " then decimal place)
    ∙ ap (λ (l : List ℕ). ascii (decimal number) ++ l) (ascii_append " " (decimal place)))
    )

-- a line and its newline
pub newline : (line : String) → ascii (line then "\n") ≡ ascii line ++ (10 ∷ [])
newline line = ascii_append line "\n"

-- writing a word, a blank and a number: o is the buffer before, a after the word
module _ (o word a : List ℕ) (at : ℕ) (is : at ≡ length word) (e : a ≡ word ++ drop (length word) o) (room : length word + 6 ≤ length o) where
  abbrev blanked : List ℕ
  blanked = set a at 32

  long : length blanked ≡ length o
  long = length-set a at 32 ∙ ap length e ∙ simp (length-append, length-drop) (omega arith)

  pub counted_room : at + 6 ≤ length blanked
  counted_room = omega (arith, long)

  blanked_is : blanked ≡ (word ++ (32 ∷ [])) ++ drop (at + 1) o
  blanked_is = store_next word o a at 32 0 (sym is) (e ∙ ap (λ (k : ℕ). word ++ drop k o) (sym is)) (omega arith)

  -- w is what came back for the rest, with the number's digits d
  pub counted_written : (d w : List ℕ) (k : ℕ) → k ≡ length d → k ≤ 5 → w ≡ d ++ drop k (take (length blanked - (at + 1)) (drop (at + 1) blanked))
      → (at + 1 + k ≤ length word + 6) × ((at + 1 + k ≡ length (word ++ (32 ∷ d)))
      × (take (at + 1) blanked ++ (w ++ drop (length blanked - (at + 1)) (drop (at + 1) blanked)) ≡ (word ++ (32 ∷ d)) ++ drop (at + 1 + k) o))
  counted_written d w k l few f = (
    omega arith,
    (
      omega (arith, length-append word (32 ∷ d)),
      rest_next (word ++ (32 ∷ [])) o blanked w d (at + 1) k (length-append word (32 ∷ []) ∙ omega arith) blanked_is f
          ∙ ap (λ (t : List ℕ). t ++ drop (at + 1 + k) o) (append_assoc word (32 ∷ []) d),
    ),
  )

-- a first part p of j bytes, and a second part q of k bytes after it: a is the buffer after the first, w what came back for the rest
pub both_written : (o a p q w : List ℕ) (j k : ℕ) → j ≡ length p → a ≡ p ++ drop j o → k ≡ length q → w ≡ q ++ drop k (take (length a - j) (drop j a))
    → (j + k ≡ length (p ++ q)) × (take j a ++ (w ++ drop (length a - j) (drop j a)) ≡ (p ++ q) ++ drop (j + k) o)
both_written o a p q w j k l e m f = (sym (length-append p q ∙ omega arith), rest_next p o a w q j k (sym l) e f)

-- a text that is a line
pub line_written : (o out t line : List ℕ) (r m : ℕ) → m ≤ 19 → r ≤ m → r ≡ length t → out ≡ t ++ drop r o → t ≡ line
    → (r ≤ 19) × ((r ≡ length line) × (out ≡ line ++ drop r o))
line_written o out t line r m few h l e q = (omega arith, (l ∙ ap length q, e ∙ ap (λ (k : List ℕ). k ++ drop r o) q))

-- the newline after a line t: a is the buffer after that line
pub line_ended : (o a t : List ℕ) (j : ℕ) → j ≡ length t → a ≡ t ++ drop j o → j < length o
    → (j + 1 ≡ length (t ++ (10 ∷ []))) × (set a j 10 ≡ (t ++ (10 ∷ [])) ++ drop (j + 1) o)
line_ended o a t j l e h = (sym (length-append t (10 ∷ []) ∙ omega arith), store_next t o a j 10 0 (sym l) e h)

-- what was written is what stands in front
pub written_first : (o out t : List ℕ) (j : ℕ) → j ≡ length t → out ≡ t ++ drop j o → (j ≤ length out) × ((j ≡ length (take j out)) × (take j out ≡ t))
written_first o out t j l e =
    let front : take j out ≡ t = ap (take j) e ∙ take_at t (drop j o) j (sym l) in
    let all : length out ≡ length t + length (drop j o) = ap length e ∙ length-append t (drop j o) in
    (omega arith, (l ∙ sym (ap length front), front))
