-- What the type says of a region list that was read, and what is asked of its rows to be one. Assumes nothing.
use Prim.Native.Nat.{ℕ, zero, suc, ◌+◌, ◌≤◌, ◌<◌}
use native.Mathlib.Numerals.{add-one}
use native.Mathlib.Omega.{arith}
use mathlib.Core.Path.{◌≡◌}
use mathlib.Core.Bool.{true}
use mathlib.Core.List.{List, map}
use Rattle.automata.specs.Row.{Row, Below}
use Rattle.automata.specs.Rows.{from, isrowb}
use Rattle.automata.specs.Closed.{Ascends}
use Rattle.automata.specs.Checks.{belowb}
use Rattle.automata.proofs.Laws.Checks.{belowb_law}
use Rattle.automata.proofs.Laws.Rows.{isrowb_law}
use Rattle.regions.specs.Values.{bounds_of}
use Rattle.regions.specs.declared.clocks.Clocks.{Clocks}
use Rattle.regions.proofs.Laws.Values.{few_of}
use Rattle.listed_rows.specs.Listed.{listed_row, listed_rows, Listed}
use Rattle.listed_rows.specs.RegionLists.{nth_row, all_rows}
use Rattle.listed_rows.specs.declared.edge_in_list.EdgeOverRows.{EdgeOverRows}
use Rattle.listed_rows.specs.declared.region_list.RegionList.{RegionList}
use Rattle.listed_rows.proofs.Laws.Listed.{listed_rise}

-- each below the next
pub ascends_from : (f : ℕ → Row) (a n : ℕ) → ((i : ℕ) → a ≤ i → suc i < a + n → Below (f i) (f (suc i))) → Ascends (map f (from a n))
ascends_from f a zero h = tt
ascends_from f a (suc zero) h = tt
ascends_from f a (suc (suc n)) h = (
  rw (add-one a) (h a (omega arith) (omega arith)),
  ascends_from f (a + 1) (suc n) (λ i l k. h i (omega arith) (omega arith)),
)

module _ (l : RegionList) where
  pub listed_of : Listed l.clocks l.bytes.now l.count
  listed_of = record {
    few = few_of l.clocks;
    sized = l.sized;
    low = l.low;
    short = l.short;
    room = l.room;
    are_rows = λ i h. (isrowb_law (bounds_of l.clocks) (nth_row l i)).0 (l.are_rows i h);
  }

  pub ascends_of : Ascends (all_rows l)
  unfolding listed_rows
  ascends_of = ascends_from (nth_row l) 0 l.count (λ i _ h. (belowb_law (nth_row l i) (nth_row l (suc i))).0 (l.rise i (omega arith)))

-- what the type says of rows in any order
pub listed_over : (k : EdgeOverRows) → Listed k.clocks k.bytes.now k.count
listed_over k = record {
  few = few_of k.clocks;
  sized = k.sized;
  low = k.low;
  short = k.short;
  room = k.room;
  are_rows = λ i h. (isrowb_law (bounds_of k.clocks) (listed_row k.clocks.count k.bytes.now i)).0 (k.are_rows i h);
}

module _ (k : Clocks) (list : List ℕ) (count : ℕ) where
  pub rows_pass : Listed k list count → (i : ℕ) → i < count → isrowb (bounds_of k) (listed_row k.count list i) ≡ true
  rows_pass L i h = (isrowb_law (bounds_of k) (listed_row k.count list i)).1 (L.are_rows i h)

  pub rise_passes : Ascends (listed_rows k.count list count) → (i : ℕ) → suc i < count → belowb (listed_row k.count list i) (listed_row k.count list (suc i)) ≡ true
  rise_passes a i h = (belowb_law (listed_row k.count list i) (listed_row k.count list (suc i))).1 (listed_rise k.count list count a i (suc i) (omega arith) h)
