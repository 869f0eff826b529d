-- The initial row is a row, and holds the state that runs start in. Assumes nothing.
use Prim.Native.Nat.{ℕ, ◌<◌}
use native.Mathlib.Nat.{zero-mul}
use native.Mathlib.Omega.{arith}
use mathlib.Core.Path.{◌≡◌, refl, sym}
use mathlib.Core.Logic.{inl}
use mathlib.Core.List.{List}
use lib.ListN.{length, replicate, length-replicate}
use Rattle.automata.specs.Clocks.{at}
use Rattle.automata.specs.Row.{Row, Open, IsRow}
use Rattle.automata.specs.Point.{Contains}
use Rattle.automata.proofs.Laws.Lists.{zeros}

module _ (c : List ℕ) (l : ℕ) where
  abbrev zero_row : Row
  zero_row = record { location = l; intervals = replicate (length c) 0; ranks = replicate (length c) 0 }

  not_open : (z : ℕ) → Open (at c z) (at (replicate (length c) 0) z) → ⊥
  not_open z o = let (_, odd) = o in let e : at (replicate (length c) 0) z ≡ 0 = zeros (length c) z in omega arith

  pub zero_is_row : IsRow c zero_row
  zero_is_row = record {
    intervals_length = length-replicate (length c) 0;
    ranks_length = length-replicate (length c) 0;
    in_range = λ z h. omega (arith, zeros (length c) z);
    rank_open = λ z h o. absurd (not_open z o);
    rank_shut = λ z h o. zeros (length c) z;
    dense = λ z k h p q. absurd (omega (arith, zeros (length c) z));
  }

  pub zero_contains : (D : ℕ) → 0 < D → Contains c D (replicate (length c) 0) zero_row
  zero_contains D p = record {
    positive = p;
    sized = length-replicate (length c) 0;
    within = λ z h. rw (zeros (length c) z) (inl ((omega arith, refl), sym (zero-mul D)));
    ordered = λ z w h k o p. absurd (not_open z o);
  }
