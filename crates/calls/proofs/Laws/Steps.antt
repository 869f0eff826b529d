-- The steps of a list pass the check just if they are a run. Assumes nothing.
use Prim.Native.Nat.{ℕ, ◌+◌, ◌*◌, ◌<◌}
use mathlib.Core.Path.{◌≡◌, refl, ◌∙◌}
use mathlib.Core.List.Memᴰ
use mathlib.Core.List.{List, [], ◌∷◌, ◌++◌, append-nil, append_assoc}
use lib.ListN.{length, get_or}
use Rattle.automata.specs.Comparison.{holds}
use Rattle.automata.specs.Clocks.{at}
use Rattle.automata.specs.Point.{later}
use Rattle.automata.specs.Edge.{Guard, Guarded, Action, keep, constant, clock, Update, idle, AllowedBy, Allowed}
use Rattle.automata.specs.Automaton.{Table, clocks, edge}
use Rattle.automata.specs.Run.{State, Move, first, after, Step, Run, begin, move}
use Rattle.automata.specs.Closed.{Mem}
use Rattle.automata.proofs.Laws.Tests.{Says, eqb_law, and_law, allb_law}
use Rattle.table_files.specs.Reading.{good}
use Rattle.calls.specs.RunFile.{guardedb, allowed_byb, allowedb, steps_taken}
use Rattle.table_files.proofs.Laws.Reading.{itself, cons_all, tested, goes, passes}

-- the tests ------------------------------------------------------------------------------------------------------------------

guarded_law : (D : ℕ) (v : List ℕ) (gs : List Guard) → Says (guardedb D v gs) (Guarded D v gs)
guarded_law D v [] = (λ h. tt, λ h. refl)
guarded_law D v (g ∷ gs) = and_law (holds g.comparison (at v g.clock) (g.constant * D)) (guardedb D v gs) (itself _) (guarded_law D v gs)

allowed_by_law : (D : ℕ) (v : List ℕ) (z x cmp : ℕ) (a : Action) → Says (allowed_byb D v z x cmp a) (AllowedBy D v z x cmp a)
allowed_by_law D v z x cmp keep = eqb_law x (at v z)
allowed_by_law D v z x cmp (constant k) = itself _
allowed_by_law D v z x cmp (clock y up down) = itself _

allowed_law : (D : ℕ) (v v' : List ℕ) (us : List Update) → Says (allowedb D v v' us) (Allowed D v v' us)
allowed_law D v v' us = allb_law (length v) _ (λ z. allowed_by_law D v z (at v' z) (get_or us z idle).comparison (get_or us z idle).action)

-- the steps in order ---------------------------------------------------------------------------------------------------------

-- what is known of a step that was read
pub record MoveIn (T : Table) (m : Move) : Type 0 where
  pub number_in : m.number < length T.edges
  pub sized : length m.values ≡ clocks T

data Steps (T : Table) (D : ℕ) : State → List Move → State → Type 0 where
  stop : {s : State} → Steps T D s [] s
  onward : {s s' : State} {ms : List Move} (m : Move) → Step T D s m → Steps T D (after T m) ms s' → Steps T D s (m ∷ ms) s'

snoc : {T : Table} {D : ℕ} {s s' : State} {ms : List Move} → Steps T D s ms s' → (m : Move) → Step T D s' m → Steps T D s (ms ++ (m ∷ [])) (after T m)
snoc stop m h = onward m h stop
snoc (onward k g f) m h = onward k g (snoc f m h)

in_order : {T : Table} {D : ℕ} {s : State} {ms : List Move} → Run T D ms s → Steps T D (first T) ms s
in_order (begin d) = stop
in_order (move m r h) = snoc (in_order r) m h

-- the check ------------------------------------------------------------------------------------------------------------------

-- from a run, the steps that pass lead on
lead_on : (T : Table) (D place : ℕ) (s : State) (ms : List Move) (f : List ℕ) (s' : State) (left : List ℕ) → ((m : Move) → Mem m ms → MoveIn T m)
    → (before : List Move) → Run T D before s → steps_taken T D place s ms f ≡ good s' left → Run T D (before ++ ms) s'
unfolding steps_taken
lead_on T D place s [] f s' left i before r h = let e : s ≡ s' = cc in rw (append-nil before, ← e) r
lead_on T D place s (m ∷ ms) f s' left i before r h =
    tested _ _ _ _ _ h λ t1 h1.
    tested _ _ _ _ _ h1 λ t2 h2.
    tested _ _ _ _ _ h2 λ t3 h3.
    let k : MoveIn T m = i m (Memᴰ.head refl) in
    let step : Step T D s m = record {
      number_in = k.number_in;
      leaves = (eqb_law s.location (edge T m.number).source).0 t1;
      sized = k.sized;
      guarded = (guarded_law D (later m.delay s.values) (edge T m.number).guards).0 t2;
      allowed = (allowed_law D (later m.delay s.values) m.values (edge T m.number).updates).0 t3;
    } in
    let g : Run T D ((before ++ (m ∷ [])) ++ ms) s' =
    lead_on T D (place + 1) (after T m) ms f s' left (λ x q. i x (Memᴰ.tail q)) (before ++ (m ∷ [])) (move m r step) h3 in
    rw append_assoc at g

pub steps_run : (T : Table) (D : ℕ) → 0 < D → (ms : List Move) (f : List ℕ) (s : State) (left : List ℕ) → ((m : Move) → Mem m ms → MoveIn T m)
    → steps_taken T D 1 (first T) ms f ≡ good s left → Run T D ms s
steps_run T D d ms f s left i h = lead_on T D 1 (first T) ms f s left i [] (begin d) h

pass : (T : Table) (D place : ℕ) (f : List ℕ) {s s' : State} {ms : List Move} → Steps T D s ms s' → steps_taken T D place s ms f ≡ good s' f
unfolding steps_taken
pass T D place f stop = refl
pass T D place f (onward {s = s} m h g) =
    goes _ _ tt f (passes 10 place _ f ((eqb_law s.location (edge T m.number).source).1 h.leaves))
    ∙ goes _ _ tt f (passes 11 place _ f ((guarded_law D (later m.delay s.values) (edge T m.number).guards).1 h.guarded))
    ∙ goes _ _ tt f (passes 12 place _ f ((allowed_law D (later m.delay s.values) m.values (edge T m.number).updates).1 h.allowed))
    ∙ pass T D (place + 1) f g

pub run_steps : (T : Table) (D : ℕ) (ms : List Move) (f : List ℕ) (s : State) → Run T D ms s → steps_taken T D 1 (first T) ms f ≡ good s f
run_steps T D ms f s r = pass T D 1 f (in_order r)

-- each step of a run is one of the table's
pub moves_in : {T : Table} {D : ℕ} {ms : List Move} {s : State} → Run T D ms s → (m : Move) → Mem m ms → MoveIn T m
moves_in r = all (in_order r)
  where
    all : {T : Table} {D : ℕ} {s s' : State} {ms : List Move} → Steps T D s ms s' → (m : Move) → Mem m ms → MoveIn T m
    all stop = λ m k. absurd (Memᴰ.not-nil k)
    all {T} (onward x h f) = cons_all (MoveIn T) (record { number_in = h.number_in; sized = h.sized }) (all f)
