-- What stands in front of the lent bytes: the file of the list that was made, and its line. Assumes nothing.
use Prim.Native.Nat.{ℕ}
use native.Mathlib.Omega.{arith}
use mathlib.Core.Path.{◌≡◌, sym, ap, ◌∙◌}
use mathlib.Core.List.{List, ◌++◌}
use lib.ListN.{length, take, drop}
use Rattle.std.specs.Counts.{IsPrefixLen}
use Rattle.table_files.specs.Answer.{Answer}
use Rattle.calls.specs.Making.{make_answer, make_buffer}
use Rattle.calls.specs.Program.{made_text, longest_list, made_bytes, made_file}
use Rattle.calls.proofs.Laws.Index.{make_buffer_length, make_prefix}
use Rattle.calls.proofs.Laws.MadeFiles.{made_room, made_first, made_prefix}
use Rattle.texts.proofs.Laws.Line.{written_first}

-- the table's first bytes are lent
module _ (table : List ℕ) (a : Answer) where
  -- a list of r bytes, where `before` and `after` are all of its bytes before and after the call
  pub list_first : (before after : List ℕ) (r : ℕ) → length before ≡ longest_list
      → a ≡ make_answer table (length before) 4096 → after ≡ make_buffer table 4096 before → (a ≡ make_answer table longest_list 4096 → r ≡ length (made_file table))
      → IsPrefixLen r after × ((t : List ℕ) → table ≡ take 65536 t → take r after ≡ made_file t)
  list_first before after r long e b h =
      let is : r ≡ length (made_file table) = h (e ∙ ap (λ (n : ℕ). make_answer table n 4096) long) in
      let front : take r after ≡ made_file table = (λ i. take (is i) (b i)) ∙ made_first table before long in
      let all : length after ≡ longest_list = ap length b ∙ make_buffer_length table 4096 before ∙ long in (
        (omega (arith, made_room table), is ∙ sym (ap length front)),
        λ t p. front ∙ ap made_file p ∙ made_prefix 65536 (omega arith) t,
      )

  -- a line of r bytes
  pub line_first : (before after : List ℕ) (r : ℕ) → a ≡ make_answer table longest_list 4096 → r ≡ length (made_text a) → after ≡ made_text a ++ drop r before
      → IsPrefixLen r after × ((t : List ℕ) → table ≡ take 65536 t → take r after ≡ made_bytes t)
  line_first before after r e l w =
      let f = written_first before after (made_text a) r l w in (
        (f.0, f.1.0),
        λ t p. f.1.1
            ∙ ap made_text (e ∙ ap (λ (k : List ℕ). make_answer k longest_list 4096) p ∙ make_prefix 65536 (omega arith) t longest_list 4096),
      )
