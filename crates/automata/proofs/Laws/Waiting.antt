-- `wait` is one of three: some clock is even and leaves, none is and those of greatest rank arrive, or all rest. It takes rows to rows.
-- Assumes nothing.
use Prim.Native.Nat.{ℕ, ◌<◌}
use native.Mathlib.Omega.{arith}
use mathlib.Core.Path.{◌≡◌, refl, ap, ◌∙◌}
use mathlib.Core.Bool.{Bool, true, false}
use mathlib.Core.List.{List}
use mathlib.Core.Option.{Option, none, some}
use lib.ListN.{length}
use lib.Dec.{eqb}
use borrow.Author.Tests.{eqb-true, eqb-false}
use Rattle.automata.specs.Clocks.{at, greatest}
use Rattle.automata.specs.Row.{Row, Even, Open, IsRow}
use Rattle.automata.specs.Wait.{evenb, some_evenb, left, arrived, wait, Waits, stop, on}
use Rattle.automata.proofs.Laws.Tests.{Says, refutes, someb_law}
use Rattle.automata.proofs.Laws.Lists.{at_greatest}
use Rattle.automata.proofs.Laws.Clocks.{evenb_law}
use Rattle.automata.proofs.Laws.Leave.{left_row}
use Rattle.automata.proofs.Laws.Arrive.{arrived_row}

abbrev pub SomeEven : List ℕ → Row → Type 0
SomeEven c r = (z : ℕ) × (z < length c) × Even (at c z) (at r.intervals z)

abbrev pub NoneEven : List ℕ → Row → Type 0
NoneEven c r = (z : ℕ) → z < length c → Even (at c z) (at r.intervals z) → ⊥

abbrev pub NoneOpen : List ℕ → Row → Type 0
NoneOpen c r = (z : ℕ) → z < length c → Open (at c z) (at r.intervals z) → ⊥

-- what waiting comes to: some clock leaves a whole value, or some come to one, or all stay above their bounds
pub data Waiting (c : List ℕ) (r : Row) : Type 0 where
  leaves : SomeEven c r → wait c r ≡ some (left c r) → Waiting c r
  arrives : NoneEven c r → 0 < greatest r.ranks → wait c r ≡ some (arrived c r) → Waiting c r
  rests : NoneEven c r → NoneOpen c r → wait c r ≡ none → Waiting c r

some_even_law : (c : List ℕ) (r : Row) → Says (some_evenb c r) (SomeEven c r)
unfolding some_evenb
some_even_law c r = someb_law (length c) (λ (z : ℕ). evenb (at c z) (at r.intervals z)) (λ z. evenb_law (at c z) (at r.intervals z))

pub waiting : (c : List ℕ) (r : Row) → IsRow c r → Waiting c r
unfolding wait
waiting c r row = go (some_evenb c r) refl (eqb (greatest r.ranks) 0) refl
  where
    none_even : some_evenb c r ≡ false → NoneEven c r
    none_even e z h q = refutes (some_evenb c r) (some_even_law c r) e (z, h, q)

    none_open : greatest r.ranks ≡ 0 → NoneOpen c r
    none_open e z h o = let p = row.rank_open z h o in let s = at_greatest r.ranks z in omega arith

    go : (a : Bool) → some_evenb c r ≡ a → (b : Bool) → eqb (greatest r.ranks) 0 ≡ b → Waiting c r
    go true e b q = leaves ((some_even_law c r).0 e) (rw e)
    go false e true q = rests (none_even e) (none_open (eqb-true (greatest r.ranks) 0 q)) (rw (e, q))
    go false e false q = let g = eqb-false (greatest r.ranks) 0 q in arrives (none_even e) (omega arith) (rw (e, q))

pub some_same : (o : Option Row) (a b : Row) → o ≡ some a → o ≡ some b → a ≡ b
some_same o a b p q = cc

pub not_none : (o : Option Row) (a : Row) → o ≡ some a → o ≡ none → ⊥
not_none o a p q = let z : ◌≡◌ {A = ℕ} 0 1 = cc in omega arith

pub wait_row : (c : List ℕ) (r r' : Row) → IsRow c r → wait c r ≡ some r' → IsRow c r'
wait_row c r r' row e = go (waiting c r row)
  where
    go : Waiting c r → IsRow c r'
    go (leaves s q) = rw (some_same (wait c r) r' (left c r) e q) (left_row c r row)
    go (arrives n g q) = rw (some_same (wait c r) r' (arrived c r) e q) (arrived_row c r row g)
    go (rests n o q) = absurd (not_none (wait c r) r' e q)

-- waiting keeps the location
pub wait_location : (c : List ℕ) (r r' : Row) → IsRow c r → wait c r ≡ some r' → r'.location ≡ r.location
unfolding left arrived
wait_location c r r' row e = go (waiting c r row)
  where
    go : Waiting c r → r'.location ≡ r.location
    go (leaves n q) = ap (λ (x : Row). x.location) (some_same (wait c r) r' (left c r) e q)
    go (arrives n g q) = ap (λ (x : Row). x.location) (some_same (wait c r) r' (arrived c r) e q)
    go (rests n o q) = absurd (not_none (wait c r) r' e q)

-- chains of waits -----------------------------------------------------------------------------------------------------------------------

pub waits_trans : (c : List ℕ) {a b d : Row} → Waits c a b → Waits c b d → Waits c a d
waits_trans c stop q = q
waits_trans c (on e p) q = on e (waits_trans c p q)

pub waits_row : (c : List ℕ) {a b : Row} → IsRow c a → Waits c a b → IsRow c b
waits_row c row stop = row
waits_row c row (on e p) = waits_row c (wait_row c _ _ row e) p

pub waits_location : (c : List ℕ) {r s : Row} → IsRow c r → Waits c r s → s.location ≡ r.location
waits_location c row stop = refl
waits_location c {r} row (on {s = q} e w) = waits_location c (wait_row c r q row e) w ∙ wait_location c r q row e
