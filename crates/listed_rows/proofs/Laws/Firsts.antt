-- What `find` over the numbers from start to before end answers, with `unwrap_or(end)` after it: the first of a kind, or the end. Assumes nothing.
use Prim.Native.Nat.{ℕ, ◌≤◌, ◌<◌}
use Rattle.std.proofs.iter.Yields.{nat_range_steps}
use Rattle.std.proofs.lemmas.Iterator.{first_from_Range}
use Rattle.std.specs.Bool.{⊤}
use Rattle.std.specs.Fn.{CalledAt}
use Rattle.std.specs.Iterator.{YieldsThen}
use Rattle.std.specs.List.{FoldsTo}
use Rattle.std.specs.Option.{MatchOption, unwrap_or}
use Rattle.std.specs.declared.ops.Range.{Range}
use Rattle.std.specs.declared.option.Option.{Option}
use Rattle.std.specs.declared.option.Option.TheVariants.{None, Some}
use denote.Param.Members.{Mut}
use denote.Ref.{Bor}
use mathlib.Core.Bool.{Bool, true, false}
use mathlib.Core.List.{List}
use mathlib.Core.Path.{◌≡◌}
use native.Mathlib.Omega.{arith}

-- m is the first from start on that is of the kind, or the end
pub record Firsts (Yes No : ℕ → Type 0) (start end m : ℕ) : Type 0 where
  pub from : start ≤ m
  pub within : m ≤ end
  pub before : (k : ℕ) → start ≤ k → k < m → No k
  pub here : m < end → Yes m

first_or_end : (Yes No : ℕ → Type 0) (start end : ℕ) (r : Option ℕ) → start ≤ end
    → MatchOption r ((k : ℕ) → start ≤ k → k < end → No k) (λ i. (start ≤ i) × (i < end) × Yes i × ((k : ℕ) → start ≤ k → k < i → No k)) → Firsts Yes No start end (unwrap_or r end)
first_or_end Yes No start end None h d = record { from = h; within = omega arith; before = d; here = λ l. absurd (omega arith) }
first_or_end Yes No start end (Some i) h d = record { from = d.0; within = omega arith; before = d.3; here = λ l. d.2 }

pub firsts_from_find : {F : Type 0} {g : Mut F (Bor ℕ × Unit {0}) Bool} (s u : Range ℕ) (f : F) (r : Option ℕ) (Yes No : ℕ → Type 0) → s.start ≤ s.end
    → (xs : List ℕ) × (j : F) × YieldsThen nat_range_steps s xs r u × FoldsTo (λ p x q. CalledAt g p x false q) f xs j × MatchOption r ⊤ (λ x. (h : F) × CalledAt g j x true h)
    → ((x : ℕ) (q : F) → CalledAt g f x true q → Yes x) → ((x : ℕ) (q : F) → CalledAt g f x false q → (q ≡ f) × No x) → Firsts Yes No s.start s.end (unwrap_or r s.end)
firsts_from_find s u f r Yes No h d t e = first_or_end Yes No s.start s.end r h (first_from_Range s u f r Yes No d t e)
