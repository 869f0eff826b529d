-- An edge that reads no clock leads into a list from all rows of its source if it does from one that it can be taken from. Assumes nothing.
use Prim.Native.Nat.{ℕ, ◌≤◌, ◌<◌}
use native.Mathlib.Omega.{arith}
use mathlib.Core.Path.{◌≡◌, refl, sym, ◌∙◌}
use mathlib.Core.Bool.{Bool, true, false}
use mathlib.Core.List.{List}
use lib.ListN.{length}
use Rattle.automata.specs.Row.{Row, IsRow}
use Rattle.automata.specs.Edge.{Edge}
use Rattle.automata.specs.Successors.{guardsb, edge_rows}
use Rattle.automata.specs.Checks.{has}
use Rattle.skylines.specs.Alike.{ReadsNone}
use Rattle.skylines.proofs.Laws.Alike.{alike}
use Rattle.skylines.proofs.Laws.NoNext.{edge_blocked}
use Rattle.listed_rows.specs.Listed.{listed_row, listed_rows}
use Rattle.walked_rows.specs.Open.{Inside, FirstOpen}
use Rattle.walked_rows.specs.Leading.{Blocked}
use Rattle.walked_rows.proofs.Laws.Open.{first_none}

-- the edge can be taken from the first row that it is not blocked at
pub guarded_here : (e : Edge) (n : ℕ) (list : List ℕ) (start end i : ℕ) → FirstOpen (Blocked e n list) start end i → i < end → guardsb (listed_row n list i) e.guards ≡ true
guarded_here e n list start end i F l = go (guardsb (listed_row n list i) e.guards) (F.here l)
  where
    go : (b : Bool) → (b ≡ false → ⊥) → b ≡ true
    go true h = refl
    go false h = absurd (h refl)

module _ (c : List ℕ) (e : Edge) (n : ℕ) (list : List ℕ) (count start end : ℕ) where
  abbrev p : Row → Bool
  p = has (listed_rows n list count)

  abbrev In : ℕ → Type 0
  In = Inside (edge_rows c e) n list count

  blocked_in : (i : ℕ) → Blocked e n list i → In i
  blocked_in i h = sym (edge_blocked c e (listed_row n list i) p h)

  module _ (i : ℕ) (F : FirstOpen (Blocked e n list) start end i) where
    -- it cannot be taken from any row
    pub blocked_all : end ≤ i → FirstOpen In start end end
    blocked_all h = first_none In start end (omega (arith, F.from, F.to)) (λ j a b. blocked_in j (F.before j a (omega arith)))

    -- row i is the first that it can be taken from, and it leads out of the list from there
    pub blocked_found : (In i → ⊥) → FirstOpen In start end i
    blocked_found h = record { from = F.from; to = F.to; before = λ j a b. blocked_in j (F.before j a b); here = λ l. h }

    -- it leads into the list from row i, and so from all
    module _ (sized : length c ≡ n) (few : n ≤ 4) (are_rows : (j : ℕ) → j < count → IsRow c (listed_row n list j)) (room : end ≤ count) (none : ReadsNone n e)
        (located : (j : ℕ) → start ≤ j → j < end → (listed_row n list j).location ≡ e.source) where
      pub alike_all : i < end → In i → FirstOpen In start end end
      alike_all to leads = first_none In start end (omega (arith, F.from)) (λ j a b. go j a b (guardsb (listed_row n list j) e.guards) refl)
        where
          go : (j : ℕ) → start ≤ j → j < end → (g : Bool) → guardsb (listed_row n list j) e.guards ≡ g → In j
          go j a b false q = blocked_in j q
          go j a b true q =
              alike c e (listed_row n list j) (listed_row n list i) (omega arith) (are_rows j (omega arith)) (are_rows i (omega arith)) (rw sized none)
              (located j a b ∙ sym (located i F.from to)) (q ∙ sym (guarded_here e n list start end i F to)) p leads
