-- A visit of all rows that are ahead, intervals by intervals: where all are chosen, the rows with these that the moves allow are tested. Assumes nothing.
use Prim.Native.Nat.{◌+◌}
use native.Mathlib.Decide.{ℕ_discrete}
use mathlib.Core.Path.{◌≡◌, sym, subst, ◌∙◌}
use mathlib.Core.Bool.{Bool, true, false}
use mathlib.Core.List.Memᴰ
use mathlib.Core.List.{List}
use lib.ListN.{length}
use Rattle.automata.specs.Row.{Row}
use Rattle.automata.specs.Closed.{Mem}
use Rattle.automata.specs.Checks.{every}
use Rattle.edge_walk.specs.Choice.{Ready}
use Rattle.edge_walk.specs.Stand.{Begun, Ahead, Advance}
use Rattle.edge_walk.specs.Intervals.{Chosen}
use Rattle.edge_walk.specs.Visit.{AllPass}
use Rattle.edge_walk.specs.declared.search.Search.{Search}
use Rattle.edge_walk.specs.declared.stand.Stand.{Stand}
use Rattle.ranked_ways.specs.Allowed.{rows_chosen}
use Rattle.automata.proofs.Laws.Tests.{Says, never}
use Rattle.automata.proofs.Laws.Checks.{every_law}
use Rattle.edge_walk.proofs.Laws.Stand.{goes_on}
use Rattle.edge_walk.proofs.Laws.Visit.{Visiting}
use Rattle.ranked_ways.proofs.Laws.Chosen.{four_intervals, begun_in, in_ahead, chosen_none, chosen_all}

module _ (s : Search) (ready : Ready s) (bounds : length s.clocks.bounds ≡ 4) (p : Row → Bool) (a b : Stand) (v : Visiting s p a b) (chosen : Chosen s b)
    (l : Bool) (e : l ≡ every p (rows_chosen s b)) where
  four : length b.part.intervals ≡ 4
  four = four_intervals s ready b v.standing

  tested : Says (every p (rows_chosen s b)) ((x : Row) → Mem x (rows_chosen s b) → p x ≡ true)
  tested = every_law p (λ x. (λ h. h, λ h. h)) (rows_chosen s b)

  -- what is tested is ahead
  are_ahead : (x : Row) → Mem x (rows_chosen s b) → Ahead s b x
  are_ahead x m = go (ℕ_discrete b.depth (1 + s.clocks.count))
    where
      go : Dec (b.depth ≡ 1 + s.clocks.count) → Ahead s b x
      go (yes d) = in_ahead s ready bounds b four d (chosen.fresh d) x (subst (λ (xs : List Row). Mem x xs) (chosen_all s b d) m)
      go (no f) = absurd (Memᴰ.not-nil (subst (λ (xs : List Row). Mem x xs) (chosen_none s b f) m))

  -- one fails
  pub chosen_fails : l ≡ false → AllPass (Ahead s a) p l
  chosen_fails f = record { passed = λ t. never (sym f ∙ t); noticed = λ all. e ∙ tested.1 (λ x m. all x (v.from x (are_ahead x m))) }

  -- all pass
  pub chosen_on : l ≡ true → (c : Stand) → Advance s (λ x. (b.depth ≡ 1 + s.clocks.count) × Begun s b x) b c → Visiting s p a c
  chosen_on t c step = goes_on s (λ x. p x ≡ true) (λ x. (b.depth ≡ 1 + s.clocks.count) × Begun s b x) a b c v step passes
    where
      passes : (x : Row) → Ahead s b x → (b.depth ≡ 1 + s.clocks.count) × Begun s b x → p x ≡ true
      passes x q (d, h) = tested.0 (sym e ∙ t) x (subst (λ (xs : List Row). Mem x xs) (sym (chosen_all s b d)) (begun_in s ready bounds b four d (chosen.fresh d) x q.held h))
