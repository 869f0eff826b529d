-- The one next row by waiting, as the code asks for it. Assumes nothing.
use Prim.Native.Nat.{ℕ}
use mathlib.Core.Path.{◌≡◌, refl, ap, ◌∙◌}
use mathlib.Core.Bool.{Bool, true, false, ◌&&◌}
use mathlib.Core.List.{List}
use lib.ListN.{length}
use Rattle.automata.specs.Row.{Row, IsRow}
use Rattle.automata.specs.Wait.{wait}
use Rattle.automata.specs.Successors.{held, wait_rows}
use Rattle.automata.specs.Checks.{every}
use Rattle.regions.specs.Values.{row_of, sought, found_of}
use Rattle.regions.specs.declared.region.Region.{Region}
use Rattle.regions.proofs.Laws.Values.{found_sought}
use Rattle.std.specs.declared.option.Option as option_code
use Rattle.std.specs.Prelude.{None, Some}
use Rattle.automata.proofs.Laws.Waiting.{wait_row}

and_true : (b : Bool) → b ≡ (b && true)
and_true true = refl
and_true false = refl

module _ (c : List ℕ) (n : ℕ) (sized : length c ≡ n) (p : Row → Bool) (r : Row) (R : IsRow c r) where
  waited : (s : option_code.Option Region) → s ≡ sought (wait c r) → held (found_of n s) ≡ wait_rows c r
  unfolding wait_rows
  waited s e =
      ap (λ (t : option_code.Option Region). held (found_of n t)) e
      ∙ ap held (found_sought n (wait c r) (λ x q. let i = wait_row c r x R q in (i.intervals_length ∙ sized, i.ranks_length ∙ sized)))

  pub wait_found : (v : Region) → Some v ≡ sought (wait c r) → (b : Bool) → b ≡ p (row_of n v) → b ≡ every p (wait_rows c r)
  wait_found v e b q = q ∙ and_true (p (row_of n v)) ∙ ap (every p) (waited (Some v) e)

  pub wait_missing : None ≡ sought (wait c r) → true ≡ every p (wait_rows c r)
  wait_missing e = ap (every p) (waited None e)
