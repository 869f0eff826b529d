-- The run check's loop: what is known at each turn, and each way out. Assumes nothing.
use Prim.Native.Nat.{ℕ, zero, suc, ◌+◌, ◌*◌, ◌-◌, ◌≤◌, ◌<◌}
use native.Mathlib.Omega.{arith}
use mathlib.Core.Bool.{Bool, true, false, ◌&&◌}
use mathlib.Core.List.{List, [], ◌∷◌}
use mathlib.Core.Logic.{◌↔◌}
use mathlib.Core.Path.{◌≡◌, refl, sym, ap, ◌∙◌}
use lib.ListN.{length, take, drop, replicate, drop_of_length-le}
use lib.Seq.{drop-cons}
use borrow.Author.Tests.{le-leb, lt-ltb, le-ltb}
use lib.Dec.{leb}
use Rattle.automata.proofs.Laws.Tests.{fails, and_law, leb_law}
use Rattle.automata.specs.Automaton.{Table, clocks}
use Rattle.automata.specs.Clocks.{at}
use Rattle.automata.specs.Run.{State, first, Reached}
use Rattle.table_files.proofs.Laws.Admission.{admission_admitted, admission_read}
use Rattle.table_files.proofs.Laws.Reading.{goes, passes, between_law}
use Rattle.table_files.specs.Admission.{table_of, admitted}
use Rattle.table_files.specs.Answer.{Answer, accepted, refused}
use Rattle.table_files.specs.Bytes.{RN, ST, two, AreBytes}
use Rattle.table_files.specs.Meaning.{Passes}
use Rattle.table_files.specs.Reading.{Read, good, bad, carry, next_record, require, end, between}
use Rattle.table_files.specs.Records.{record_at}
use Rattle.tables.specs.Values.{Describes}
use Rattle.table_records.specs.declared.head.Head.{Head}
use Rattle.table_records.specs.Refusal.{number_of}
use Rattle.table_records.specs.declared.refusal.Fault.{Fault}
use Rattle.table_records.specs.declared.refusal.Refusal.{Refusal}
use Rattle.std.specs.Prelude.{Result, Ok, IfOk}
use Rattle.calls.specs.Meaning.{RunListOf}
use Rattle.run_lists.specs.Run.{concluded, steps_from, run_from, counted}
use Rattle.calls.specs.RunFile.{step_record, run_answer}
use Rattle.run_lists.specs.Step.{move_of, state_of, one_more}
use Rattle.run_lists.specs.declared.step.State as state_code
use Rattle.run_lists.proofs.Laws.OnePass.{stops, run_fused}
use Rattle.calls.proofs.Laws.RecordReads.{record_missing, record_there, record_length}
use Rattle.calls.proofs.Laws.Runs.{run_law, run_reached}

-- a test that fails
unmet : (number place : ℕ) (t : Bool) (file : List ℕ) → t ≡ false → require number place t file ≡ bad number place
unfolding require
unmet number place t file e = rw e

-- the answer that a refusal is
pub refused_at : {f : Fault} {place : ℕ} {e : Refusal} {a : Answer} → e ≡ record { fault = f; place = place } → refused (number_of f) place ≡ a → refused (number_of e.fault) e.place ≡ a
refused_at k h = rw k h

-- a step's record ------------------------------------------------------------------------------------------------------------

module _ (T : Table) (n : ℕ) (sized : n ≡ clocks T) (place at : ℕ) (list b : List ℕ) (is : b ≡ record_at list at (8 + 4 * n) ST) where
  step_missing : length b ≡ 0 → step_record T place (drop at list) ≡ bad 7 place
  unfolding step_record
  step_missing h = stops _ _ (rw (← sized) (record_missing list ST at (8 + 4 * n) 7 place (omega arith) refl (rw is at h)))

  module _ (some : length b ≡ 0 → ⊥) where
    pub step_length : length b ≡ 8 + 4 * n
    step_length = rw is (record_length list ST at (8 + 4 * n) 7 place (omega arith) refl (rw is at some))

    bytes_read : next_record 7 place ST (8 + 4 * clocks T) (drop at list) ≡ good b (drop (at + (8 + 4 * n)) list)
    bytes_read = rw (← sized, is) (record_there list ST at (8 + 4 * n) 7 place (omega arith) refl (rw is at some)).2

    step_out : length T.edges ≤ two b 2 → step_record T place (drop at list) ≡ bad 8 place
    unfolding step_record
    step_out h = goes _ _ b _ bytes_read ∙ stops _ _ (unmet 8 place _ _ (le-ltb (two b 2) (length T.edges) h))

    step_good : two b 2 < length T.edges → step_record T place (drop at list) ≡ good (move_of n b) (drop (at + (8 + 4 * n)) list)
    unfolding step_record
    step_good h =
        goes _ _ b _ bytes_read
        ∙ goes _ _ tt _ (passes 8 place _ _ (lt-ltb (two b 2) (length T.edges) h))
        ∙ ap (λ (k : ℕ). good (move_of k b) (drop (at + (8 + 4 * n)) list)) (sym sized)

-- the loop -------------------------------------------------------------------------------------------------------------------

-- after i steps, with the bytes from place at on left: what is due from here on is what was due at first
pub record Underway (T : Table) (D steps n L : ℕ) (list : List ℕ) (s : Result state_code.State Refusal) (at i : ℕ) : Type 0 where
  pub few : i ≤ steps
  pub near : at ≤ 6 + 24 * i
  pub inside : IfOk s (λ t. t.location < L)
  pub rest : steps_from T D steps 1 steps (good (first T) []) (drop 6 list) ≡ steps_from T D steps (i + 1) (steps - i) (state_of n s) (drop at list)

zeros_taken : (n k : ℕ) → n ≤ k → take {A = ℕ} n (replicate k 0) ≡ replicate n 0
zeros_taken zero k h = refl
zeros_taken (suc n) zero h = absurd (omega arith)
zeros_taken (suc n) (suc k) h = ap (λ (l : List ℕ). 0 ∷ l) (zeros_taken n k (omega arith))

module _ (T : Table) (D steps i : ℕ) (r : Read State) (f : List ℕ) where
  -- one turn
  turn : i < steps
      → steps_from T D steps (i + 1) (steps - i) r f ≡ carry (step_record T (i + 1) f) (λ m. steps_from T D steps (i + 1 + 1) (steps - (i + 1)) (one_more T D (i + 1) r m))
  unfolding steps_from
  turn l = let e : steps - i ≡ suc (steps - (i + 1)) = omega arith in rw e

  -- no turn is left
  no_turn : steps ≤ i → steps_from T D steps (i + 1) (steps - i) r f ≡ carry (end 9 (1 + steps) f) (λ _ _. concluded T steps r)
  unfolding steps_from
  no_turn l = let e : steps - i ≡ 0 = omega arith in rw e

more_bytes : (number place at : ℕ) (list : List ℕ) → at < length list → end number place (drop at list) ≡ bad number place
unfolding end
more_bytes number place at list h = rw (drop-cons list at 0 h)

no_bytes_left : (number place at : ℕ) (list : List ℕ) → length list ≤ at → end number place (drop at list) ≡ good tt []
unfolding end
no_bytes_left number place at list h = rw (drop_of_length-le list h)

module _ (table : List ℕ) (h : Head) (d : Describes table h) (D steps : ℕ) (list : List ℕ) where
  -- the whole of what is due
  abbrev pub due : Answer
  due = counted (steps_from (table_of table) D steps 1 steps (good (first (table_of table)) []) (drop 6 list))

  pub begins : Underway (table_of table) D steps h.clocks.count h.locations list (Ok (record { location = h.initial; values = replicate 4 0 })) 6 0
  begins = record {
    few = omega arith;
    near = omega arith;
    inside = let (k, p) = d.passes in omega (arith, d.initial, d.locations, (admission_admitted table k p).initial_in);
    rest =
        let v : take {A = ℕ} h.clocks.count (replicate 4 0) ≡ replicate (clocks (table_of table)) 0 = zeros_taken h.clocks.count 4 d.few.few ∙ ap (λ (k : ℕ). replicate k 0) d.count in
        let z : steps - 0 ≡ steps = omega arith in
        λ j. steps_from (table_of table) D steps 1 (sym z j) (good (record { location = sym d.initial j; values = sym v j }) []) (drop 6 list);
  }

  module _ (s : Result state_code.State Refusal) (at i : ℕ) (U : Underway (table_of table) D steps h.clocks.count h.locations list s at i) where
    module _ (l : i < steps) (b : List ℕ) (is : b ≡ record_at list at (8 + 4 * h.clocks.count) ST) where
      pub ends_missing : length b ≡ 0 → refused 7 (i + 1) ≡ due
      ends_missing g = sym (ap counted (U.rest ∙ turn (table_of table) D steps i (state_of h.clocks.count s) (drop at list) l ∙ stops _ _ (step_missing (table_of table) h.clocks.count d.count (i + 1) at list b is g)))

      module _ (some : length b ≡ 0 → ⊥) where
        pub ends_out : h.edges ≤ two b 2 → refused 8 (i + 1) ≡ due
        ends_out g = sym (ap counted (U.rest ∙ turn (table_of table) D steps i (state_of h.clocks.count s) (drop at list) l ∙ stops _ _ (step_out (table_of table) h.clocks.count d.count (i + 1) at list b is some (omega (arith, d.edges)))))

        pub goes_round : two b 2 < h.edges → (s' : Result state_code.State Refusal)
            → state_of h.clocks.count s' ≡ one_more (table_of table) D (i + 1) (state_of h.clocks.count s) (move_of h.clocks.count b)
            → IfOk s' (λ t. t.location < h.locations) → Underway (table_of table) D steps h.clocks.count h.locations list s' (at + (8 + 4 * h.clocks.count)) (i + 1)
        goes_round g s' e k = record {
          few = omega arith;
          near = omega (arith, U.near, d.few.few);
          inside = k;
          rest =
              U.rest
              ∙ turn (table_of table) D steps i (state_of h.clocks.count s) (drop at list) l
              ∙ goes _ _ _ _ (step_good (table_of table) h.clocks.count d.count (i + 1) at list b is some (omega (arith, d.edges)))
              ∙ ap (λ (r : Read State). steps_from (table_of table) D steps (i + 1 + 1) (steps - (i + 1)) r (drop (at + (8 + 4 * h.clocks.count)) list)) (sym e);
        }

    module _ (l : steps ≤ i) where
      pub ends_long : at < length list → refused 9 (1 + steps) ≡ due
      ends_long g = sym (ap counted (U.rest ∙ no_turn (table_of table) D steps i (state_of h.clocks.count s) (drop at list) l ∙ stops _ _ (more_bytes 9 (1 + steps) at list g)))

      pub concludes : length list ≤ at → counted (concluded (table_of table) steps (state_of h.clocks.count s)) ≡ due
      concludes g = sym (ap counted (U.rest ∙ no_turn (table_of table) D steps i (state_of h.clocks.count s) (drop at list) l ∙ goes _ _ tt [] (no_bytes_left 9 (1 + steps) at list g)))

-- the header -----------------------------------------------------------------------------------------------------------------

module _ (T : Table) (list b : List ℕ) (is : b ≡ record_at list 0 6 RN) where
  pub header_missing : length b ≡ 0 → refused 7 0 ≡ counted (run_from T list)
  unfolding run_from
  header_missing h = sym (ap counted (stops _ _ (record_missing list RN 0 6 7 0 (omega arith) refl (rw is at h))))

  module _ (some : length b ≡ 0 → ⊥) where
    pub header_length : length b ≡ 6
    header_length = rw is (record_length list RN 0 6 7 0 (omega arith) refl (rw is at some))

    header_read : next_record 7 0 RN 6 list ≡ good b (drop 6 list)
    header_read = rw is (record_there list RN 0 6 7 0 (omega arith) refl (rw is at some)).2

    -- the scale's test, then the steps'
    fields_out : (t u : Bool) → between 1 10000 (two b 2) ≡ t → leb (two b 4) 2048 ≡ u → t && u ≡ false → refused 8 0 ≡ counted (run_from T list)
    unfolding run_from
    fields_out false u e f h = sym (ap counted (goes _ _ b _ header_read ∙ stops _ _ (unmet 8 0 _ _ e)))
    fields_out true false e f h = sym (ap counted (goes _ _ b _ header_read ∙ goes _ _ tt _ (passes 8 0 _ _ e) ∙ stops _ _ (unmet 8 0 _ _ f)))
    fields_out true true e f h = cc

    pub header_out : (1 ≤ two b 2 → two b 2 ≤ 10000 → two b 4 ≤ 2048 → ⊥) → refused 8 0 ≡ counted (run_from T list)
    header_out h =
        fields_out _ _ refl refl
        (fails _ (and_law _ _ (between_law 1 10000 (two b 2)) (leb_law (two b 4) 2048)) (λ ((l, m), n). h l m n))

    pub header_on : 1 ≤ two b 2 → two b 2 ≤ 10000 → two b 4 ≤ 2048 → counted (steps_from T (two b 2) (two b 4) 1 (two b 4) (good (first T) []) (drop 6 list)) ≡ counted (run_from T list)
    unfolding run_from
    header_on low high few =
        sym (ap counted (goes _ _ b _ header_read
        ∙ goes _ _ tt _ (passes 8 0 _ _ ((between_law 1 10000 (two b 2)).1 (low, high)))
        ∙ goes _ _ tt _ (passes 8 0 _ _ (le-leb (two b 4) 2048 few))))

-- the table ------------------------------------------------------------------------------------------------------------------

pub table_refused : (table list : List ℕ) {number place : ℕ} → admitted table ≡ bad number place → refused number place ≡ run_answer table list
unfolding run_answer carry
table_refused table list e = rw e

-- an admitted table's answer is that of the one pass
pub opened_answer : (table list : List ℕ) → Passes table → run_answer table list ≡ counted (run_from (table_of table) list)
unfolding run_answer carry
opened_answer table list (k, p) = let (rest, e, _) = admission_read table k p in rw e (run_fused (table_of table) list)

-- the answer, and what acceptance means
pub run_promises : (table list : List ℕ) (a : Answer) → a ≡ run_answer table list → AreBytes list
    → (a ≡ run_answer table list) × (((k : ℕ) → (a ≡ accepted k) ↔ (Passes table × RunListOf (table_of table) list k)) × ((k : ℕ) → a ≡ accepted k → Reached (table_of table)))
run_promises table list a e p = (
  e,
  (
    λ k. (λ h. (run_law table list k p).0 (sym e ∙ h), λ h. e ∙ (run_law table list k p).1 h),
    λ k h. run_reached table list k (sym e ∙ h),
  ),
)
