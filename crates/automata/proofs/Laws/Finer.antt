-- A run counted in 1/D is a run counted in 1/(k * D), every delay and value k times as many counts. Assumes nothing.
use Prim.Native.Nat.{ℕ, ◌+◌, ◌*◌, ◌<◌}
use native.Mathlib.Nat.{mul-add, mul_left_comm, mul-pos}
use mathlib.Core.Path.{◌≡◌, ap, ◌∙◌}
use mathlib.Core.Bool.{true}
use mathlib.Core.List.{List, [], ◌∷◌, map, map-append}
use lib.ListN.{get_or}
use Rattle.automata.specs.Comparison.{answer, holds}
use Rattle.automata.specs.Clocks.{at}
use Rattle.automata.specs.Point.{later, scaled}
use Rattle.automata.specs.Edge.{Guard, Guarded, Action, keep, constant, clock, Update, idle, AllowedBy, Allowed}
use Rattle.automata.specs.Automaton.{Table, clocks, edge}
use Rattle.automata.specs.Run.{State, Move, Step, Run, begin, move, scaled_state, scaled_move}
use Rattle.automata.proofs.Laws.Order.{compare_times}
use Rattle.automata.proofs.Laws.Lists.{at_scaled, length_scaled, scaled_later, scaled_zeros}

pub holds_times : (k cmp x y : ℕ) → 0 < k → holds cmp x y ≡ true → holds cmp (k * x) (k * y) ≡ true
unfolding holds
holds_times k cmp x y p h = ap (answer cmp) (compare_times k x y p) ∙ h

-- guards, updates, steps, runs ------------------------------------------------------------------------------------------------

module _ (k : ℕ) (positive : 0 < k) where
  pub guarded_scaled : (D : ℕ) (v : List ℕ) (gs : List Guard) → Guarded D v gs → Guarded (k * D) (scaled k v) gs
  guarded_scaled D v [] h = tt
  guarded_scaled D v (g ∷ gs) h = (
    rw (at_scaled k v g.clock, mul_left_comm g.constant k D) (holds_times k g.comparison (at v g.clock) (g.constant * D) positive h.0),
    guarded_scaled D v gs h.1,
  )

  allowed_by : (D : ℕ) (v : List ℕ) (z x cmp : ℕ) (a : Action) → AllowedBy D v z x cmp a → AllowedBy (k * D) (scaled k v) z (k * x) cmp a
  allowed_by D v z x cmp keep h = rw (at_scaled k v z, h)
  allowed_by D v z x cmp (constant n) h = rw (mul_left_comm n k D) (holds_times k cmp x (n * D) positive h)
  allowed_by D v z x cmp (clock y up down) h =
      rw (at_scaled k v y, mul_left_comm up k D, mul_left_comm down k D, ← mul-add k x (down * D), ← mul-add k (at v y) (up * D))
      (holds_times k cmp (x + down * D) (at v y + up * D) positive h)

  pub allowed_scaled : (D : ℕ) (v v' : List ℕ) (us : List Update) → Allowed D v v' us → Allowed (k * D) (scaled k v) (scaled k v') us
  allowed_scaled D v v' us h z q =
      rw (at_scaled k v' z) (allowed_by D v z (at v' z) (get_or us z idle).comparison (get_or us z idle).action (h z (rw length_scaled at q)))

  pub step_scaled : {T : Table} {D : ℕ} {s : State} {m : Move} → Step T D s m → Step T (k * D) (scaled_state k s) (scaled_move k m)
  step_scaled {T} {D} {s} {m} st = record {
    number_in = st.number_in;
    leaves = st.leaves;
    sized = length_scaled k m.values ∙ st.sized;
    guarded = rw (← scaled_later k m.delay s.values) (guarded_scaled D (later m.delay s.values) (edge T m.number).guards st.guarded);
    allowed = rw (← scaled_later k m.delay s.values) (allowed_scaled D (later m.delay s.values) m.values (edge T m.number).updates st.allowed);
  }

  pub run_scaled : {T : Table} {D : ℕ} {ms : List Move} {s : State} → Run T D ms s → Run T (k * D) (map (scaled_move k) ms) (scaled_state k s)
  run_scaled {T} {D} (begin d) = rw (scaled_zeros k (clocks T)) (begin (mul-pos positive d))
  run_scaled {T} {D} (move {ms = ms} {s = s} m run st) = rw (map-append (scaled_move k) ms (m ∷ [])) (move (scaled_move k m) (run_scaled run) (step_scaled st))
