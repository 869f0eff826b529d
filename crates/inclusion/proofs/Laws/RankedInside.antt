-- Rows of the same intervals that the moves allow, looked up one after the other. Assumes nothing.
use Prim.Native.Nat.{ℕ, suc, ◌+◌, ◌*◌, ◌≤◌, ◌<◌}
use native.Mathlib.Numerals.{add-one}
use native.Mathlib.Omega.{arith}
use mathlib.Core.Path.{◌≡◌, refl, sym, ap, ◌∙◌}
use mathlib.Core.Bool.{Bool, true, false, cond, not, ◌&&◌, ◌||◌}
use mathlib.Core.List.{List, [], ◌∷◌}
use lib.ListN.{length, get_or, drop}
use lib.Seq.{drop-cons}
use Rattle.automata.specs.Clocks.{at}
use Rattle.automata.specs.Row.{Row}
use Rattle.automata.specs.Rows.{select}
use Rattle.automata.specs.Checks.{every, has}
use Rattle.regions.specs.Values.{bounds_of, row_of}
use Rattle.regions.specs.declared.region.Region.{Region}
use Rattle.regions.specs.Placing.{placed_at}
use Rattle.rankings.specs.Ranking.{InRange, first_ranking, pattern, rows_ranked}
use Rattle.rankings.specs.Table.{table}
use Rattle.rankings.proofs.Laws.Ranking.{in_table}
use Rattle.edge_walk.specs.Choice.{Ready, allowsb}
use Rattle.edge_walk.specs.declared.search.Search.{Search}
use Rattle.ranked_ways.specs.Allowed.{Permitted, parted_at, rows_allowed}
use Rattle.ranked_ways.specs.Memo.{Kept, marked}
use Rattle.ranked_ways.proofs.Laws.Memo.{parts_low, place_in, free_known, one_known, two_known, allowed_is, kept_on}
use Rattle.automata.proofs.Laws.Checks.{every_law}
use Rattle.ranked_ways.proofs.Laws.Allowed.{allowed_out}
use Rattle.listed_rows.specs.Ranked.{AllRanked}

-- those of the rows that pass the test p are tested by t, row by row
module _ (p t : Row → Bool) (rows : List Row) (j : ℕ) (b : Bool) (e : b ≡ every t (select p (drop j rows))) where
  module _ (x d : Row) (wanted found : Bool) (h : j < length rows) (q : x ≡ get_or rows j d) (f : wanted ≡ p x) (g : found ≡ (not wanted || t x)) where
    turn : b ≡ found && every t (select p (drop (j + 1) rows))
    turn =
        e ∙ ap (λ (xs : List Row). every t (select p xs)) (drop-cons rows j d h)
        ∙ rw (← q, add-one, g, f) (one (p x))
      where
        one : (w : Bool) → every t (cond w (x ∷ select p (drop (suc j) rows)) (select p (drop (suc j) rows))) ≡ (not w || t x) && every t (select p (drop (suc j) rows))
        one true = refl
        one false = refl

    pub turn_fails : found ≡ false → false ≡ b
    turn_fails k = sym (turn ∙ ap (λ (u : Bool). u && every t (select p (drop (j + 1) rows))) k)

    pub turn_passes : found ≡ true → b ≡ every t (select p (drop (j + 1) rows))
    turn_passes k = turn ∙ ap (λ (u : Bool). u && every t (select p (drop (j + 1) rows))) k

-- the moves allow a region
abbrev pub placed : Search → Region → Bool
placed s region = placed_at s.moves.each s.moves.ranks s.clocks.count region.intervals region.ranks

-- what is kept of a ranking that is met on the way: where that stands, and that it is right
pub record Told (s : Search) (region : Region) (memo : List ℕ) (parts i : ℕ) : Type 0 where
  pub parts_low : parts < 16
  pub ranking_low : i < 150
  pub there : parts * 150 + i < length memo
  pub free : parts ≡ 0 → placed s region ≡ true
  pub one : at memo (parts * 150 + i) ≡ 1 → placed s region ≡ false
  pub two : at memo (parts * 150 + i) ≡ 2 → placed s region ≡ true
  pub allowed : (b : Bool) → b ≡ placed s region → b ≡ allowsb s (row_of s.clocks.count region)
  pub kept : (b : Bool) → b ≡ placed s region → (after : List ℕ) → after ≡ marked parts (parts * 150 + i) b memo → Kept s after

pub told : {s : Search} (part region : Region) {memo : List ℕ} {parts first j : ℕ} → Ready s → length s.clocks.bounds ≡ 4 → length part.intervals ≡ 4 → InRange s.clocks part
    → Permitted s part → Kept s memo → parts ≡ pattern (parted_at s.moves.each part) s.clocks.count → first ≡ first_ranking s.clocks part → j < length (rows_ranked s.clocks part)
    → region.intervals ≡ part.intervals → region.ranks ≡ get_or table (first + j) [] → Told s region memo parts (first + j)
told {s} part region {memo} {parts} {first} {j} ready bounds intervals within permitted K e f h q t = record {
  parts_low = parts_low s part region memo K few parts i permitted e l q t;
  ranking_low = l;
  there = place_in s part region memo K few parts i permitted e l q t;
  free = free_known s part region memo K few parts i permitted e l q t;
  one = one_known s part region memo K few parts i permitted e l q t;
  two = two_known s part region memo K few parts i permitted e l q t;
  allowed = allowed_is s part region memo K few parts i permitted e l q t;
  kept = kept_on s part region memo K few parts i permitted e l q t;
}
  where
    i : ℕ
    i = first + j

    few : s.clocks.count ≤ 4
    few = ready.few.few

    l : i < 150
    l = omega (arith, f, in_table s.clocks part few bounds intervals within j h)

-- the list has all rows of these intervals, so it has those that the moves allow
pub ranked_listed : (s : Search) (part : Region) (rows : List Row) → AllRanked (bounds_of s.clocks) rows (row_of s.clocks.count part)
    → true ≡ every (has rows) (rows_allowed s part)
ranked_listed s part rows all =
    sym ((every_law (has rows) (λ x. (λ h. h, λ h. h)) (rows_allowed s part)).1 (λ x m. let (q, d, e) = allowed_out s part x m in all x q.is_row d e))
