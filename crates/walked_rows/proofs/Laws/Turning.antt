-- Walks from chosen rows, turn after turn, tell of all rows. Assumes nothing.
use Prim.Native.Nat.{ℕ, suc, ◌≤◌, ◌<◌}
use native.Mathlib.Decide.{dec_lt}
use native.Mathlib.Omega.{arith}
use mathlib.Core.Path.{◌≡◌, refl, sym, ◌∙◌}
use mathlib.Core.Bool.{Bool, true, false}
use mathlib.Core.Logic.{◌⊎◌, inl, inr}
use mathlib.Core.List.{List}
use lib.ListN.{replicate}
use Rattle.automata.specs.Clocks.{at}
use Rattle.automata.specs.Row.{Row}
use Rattle.automata.specs.Edge.{Edge}
use Rattle.automata.specs.Successors.{edge_rows}
use Rattle.automata.specs.Checks.{has}
use Rattle.automata.proofs.Laws.Tests.{never}
use Rattle.skylines.specs.declared.reach.Reach.{Reach}
use Rattle.skylines.specs.Skyline.{member}
use Rattle.listed_rows.specs.Listed.{listed_rows}
use Rattle.selection.specs.Chosen.{taken_at, Chooses, Groups}
use Rattle.selection.proofs.Laws.Choosing.{none_taken}
use Rattle.walked_rows.specs.Open.{Inside, SomeOpen, LeastOf}
use Rattle.walked_rows.specs.Leading.{TakenInside, Grouped}

module _ (c : List ℕ) (e : Edge) (n : ℕ) (list : List ℕ) (count : ℕ) where
  abbrev In : ℕ → Type 0
  In = Inside (edge_rows c e) n list count

  abbrev p : Row → Bool
  p = has (listed_rows n list count)

  -- rows that are taken at first -----------------------------------------------------------------------------------------------------------

  pub none_inside : (lo hi m : ℕ) → TakenInside c e n list count lo hi (replicate m false)
  none_inside lo hi m i a b t = never (sym (none_taken m i) ∙ t)

  -- groups -------------------------------------------------------------------------------------------------------------------------------

  -- no row was offered
  pub grouped_none : (lo hi : ℕ) (ts : List Bool) → lo ≤ hi → Grouped c e n list count lo hi ts ts hi
  grouped_none lo hi ts h = record { from = h; to = omega arith; all = λ z i a b t. inl t; here = λ l. absurd (omega arith) }

  -- the rows that slots hold tell of those that were offered to them
  pub grouped_held : (lo hi : ℕ) (ts ts' : List Bool) (start slots : List ℕ) → lo ≤ hi → Groups c e n list lo hi ts ts' start slots → (r : ℕ)
      → LeastOf In (λ k j. at slots k ≡ suc j) 1024 hi r → Grouped c e n list count lo hi ts ts' r
  grouped_held lo hi ts ts' start slots h G r L = record {
    from = from (dec_lt r hi);
    to = L.to;
    all = λ z. G.lead p (λ k j l s. L.below k j l s (omega (arith, (G.held k j l s).to)));
    here = L.here;
  }
    where
      from : Dec (r < hi) → lo ≤ r
      from (yes l) = let (k, m, s) = L.one l in (G.held k r m s).from
      from (no l) = omega (arith, L.to)

  -- as many as there is room for at a time ------------------------------------------------------------------------------------------------

  module _ (start end : ℕ) where
    -- the rows before one lead into the list, and those after it that are taken do
    pub record Turning (from : ℕ) (ts : List Bool) : Type 0 where
      pub after : start ≤ from
      pub within : from ≤ end
      pub before : (j : ℕ) → start ≤ j → j < from → In j
      pub taken : TakenInside c e n list count from end ts

    pub turning_begins : (ts : List Bool) → start ≤ end → TakenInside c e n list count start end ts → Turning start ts
    turning_begins ts h T = record { after = omega arith; within = h; before = λ j a b. absurd (omega arith); taken = T }

    pub turning_ends : (from : ℕ) (ts : List Bool) → Turning from ts → end ≤ from → SomeOpen In start end end
    turning_ends from ts T h = record { from = omega (arith, T.after, T.within); to = omega arith; all = λ z j a b. T.before j a (omega arith); here = λ l. absurd (omega arith) }

    -- an open row was found
    turning_found : (from : ℕ) (ts : List Bool) → Turning from ts → (r : ℕ) → from ≤ r → r < end → (In r → ⊥) → SomeOpen In start end r
    turning_found from ts T r a l h = record { from = omega (arith, T.after); to = omega arith; all = λ z. absurd (omega arith); here = λ _. h }

    module _ (from : ℕ) (ts ts' : List Bool) (T : Turning from ts) where
      -- rows of groups are taken too
      module _ (r : ℕ) (G : Grouped c e n list count from end ts ts' r) where
        pub grouped_found : r < end → SomeOpen In start end r
        grouped_found l = turning_found from ts T r G.from l (G.here l)

        pub turning_grouped : end ≤ r → Turning from ts'
        turning_grouped z = record { after = T.after; within = T.within; before = T.before; taken = λ j a b t. go j a b (G.all (omega (arith, G.to)) j a b t) }
          where
            go : (j : ℕ) → from ≤ j → j < end → (taken_at ts j ≡ true) ⊎ In j → In j
            go j a b (inl k) = T.taken j a b k
            go j a b (inr k) = k

      -- of those that are left some are chosen
      module _ (ms : List Reach) (size next : ℕ) (C : Chooses c e n list from end ts ts' ms size next) (r : ℕ) (L : LeastOf In (λ k j. (member ms k).row ≡ j) size end r) where
        pub chosen_found : r < end → SomeOpen In start end r
        chosen_found l = let (k, m, s) = L.one l in turning_found from ts T r (omega (arith, (C.sit k m).from, s)) l (L.here l)

        pub turning_on : from < end → end ≤ r → Turning next ts'
        turning_on l z = record {
          after = omega (arith, T.after, C.later l);
          within = C.within;
          before = λ j a b. earlier j a b (dec_lt j from);
          taken = λ j a b t. chosen j (omega (arith, C.later l)) b t;
        }
          where
            chosen : (j : ℕ) → from ≤ j → j < end → taken_at ts' j ≡ true → In j
            chosen j a b t = go (C.lead p (λ k m. L.below k _ m refl (omega (arith, (C.sit k m).to))) j a b t)
              where
                go : (taken_at ts j ≡ true) ⊎ In j → In j
                go (inl k) = T.taken j a b k
                go (inr k) = k

            earlier : (j : ℕ) → start ≤ j → j < next → Dec (j < from) → In j
            earlier j a b (yes k) = T.before j a k
            earlier j a b (no k) = chosen j (omega arith) (omega (arith, C.within)) (C.taken j (omega arith) b)
