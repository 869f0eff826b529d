use Prim.Native.Nat.{ℕ, ◌-◌, ◌≤◌, ◌<◌}
use Rattle.listed_rows.specs.Listed.{listed_row}
use mathlib.Core.Path.{◌≡◌}
use Rattle.listed_rows.proofs.region_list.RegionList.rows_end.Given as goal

-- the rows before low are in the location, and the one at high is not
abbrev pub invariant-loop-low : goal.invariant-loop-low
invariant-loop-low l =
    (l.start ≤ l.low) × (l.low ≤ l.high) × (l.high ≤ l.self.count) ×
    ((i : ℕ) → l.start ≤ i → i < l.low → (listed_row l.self.clocks.count l.self.bytes.now i).location ≡ l.location) ×
    (l.high < l.self.count → (listed_row l.self.clocks.count l.self.bytes.now l.high).location ≡ l.location → ⊥)

abbrev pub decreases-loop-low : goal.decreases-loop-low
decreases-loop-low l = l.high - l.low
