-- Waiting: the next row in time. Assumes nothing.
use Rattle.std.specs.Prelude.{ℕ, ◌+◌, ◌*◌, ◌%◌, ◌≡◌, Bool, cond, ◌&&◌, List, length, eqb, leb, ltb}
use Rattle.std.proofs.Math.Option.{Option, none, some}
use Rattle.automata.specs.Clocks.{at, each, someb, greatest}
use Rattle.automata.specs.Row.{Row}

-- one clock has an even interval
unfoldable pub evenb : ℕ → ℕ → Bool
evenb c j = leb j (2 * c) && eqb (j % 2) 0

-- an even interval below the bound: waiting takes it "into the open interval above with rank 1"
unfoldable pub entersb : ℕ → ℕ → Bool
entersb c j = ltb j (2 * c) && eqb (j % 2) 0

-- where some clock has an even interval ---------------------------------------------------------------------------------------------

-- "If any clock has an even interval"
unfoldable pub some_evenb : List ℕ → Row → Bool
some_evenb c r = someb (length c) (λ (z : ℕ). evenb (at c z) (at r.intervals z))

-- "If any of them takes rank 1"
unfoldable pub growsb : List ℕ → Row → Bool
growsb c r = someb (length c) (λ (z : ℕ). entersb (at c z) (at r.intervals z))

-- "waiting moves just those: to the top from c(z), else into the open interval above"
unfoldable pub leave_interval : ℕ → ℕ → ℕ
leave_interval c j = cond (evenb c j) (j + 1) j

-- ".. with rank 1. .. ranks that were above 0 grow by one"
unfoldable pub leave_rank : Bool → ℕ → ℕ → ℕ → ℕ
leave_rank grow c j k = cond (evenb c j) (cond (entersb c j) 1 0) (cond (grow && ltb 0 k) (k + 1) k)

-- the row after the clocks with even intervals have left them
unfoldable pub left : List ℕ → Row → Row
left c r = record {
  location = r.location;
  intervals = each (length c) (λ (z : ℕ). leave_interval (at c z) (at r.intervals z));
  ranks = each (length c) (λ (z : ℕ). leave_rank (growsb c r) (at c z) (at r.intervals z) (at r.ranks z));
}

-- where no clock has --------------------------------------------------------------------------------------------------------------------

-- "If no clock has an even interval, the clocks of greatest rank go to the next whole value"
unfoldable pub arrive_interval : ℕ → ℕ → ℕ → ℕ
arrive_interval g j k = cond (eqb k g) (j + 1) j

-- .. where "Rank is 0 at even intervals"
unfoldable pub arrive_rank : ℕ → ℕ → ℕ
arrive_rank g k = cond (eqb k g) 0 k

-- the row after the clocks of greatest rank have come to whole values
unfoldable pub arrived : List ℕ → Row → Row
arrived c r = record {
  location = r.location;
  intervals = each (length c) (λ (z : ℕ). arrive_interval (greatest r.ranks) (at r.intervals z) (at r.ranks z));
  ranks = each (length c) (λ (z : ℕ). arrive_rank (greatest r.ranks) (at r.ranks z));
}

-- the next row ------------------------------------------------------------------------------------------------------------------

-- "If all are at the top there is no next row"
unfoldable pub wait : List ℕ → Row → Option Row
wait c r = cond (some_evenb c r) (some (left c r)) (cond (eqb (greatest r.ranks) 0) none (some (arrived c r)))

-- zero or more waits lead from one row to another
pub data Waits (c : List ℕ) : Row → Row → Type 0 where
  stop : {r : Row} → Waits c r r
  on : {r s r' : Row} → wait c r ≡ some s → Waits c s r' → Waits c r r'
