-- One pass over the run list gives the answer of the definitions, which read all steps first. Assumes nothing.
use Prim.Native.Nat.{ℕ, zero, suc, ◌+◌}
use mathlib.Core.Bool.{Bool, true, false}
use mathlib.Core.List.{List, [], ◌∷◌}
use mathlib.Core.Path.{◌≡◌, refl, sym, ap, ◌∙◌}
use lib.Dec.{eqb}
use lib.ListN.{length}
use Rattle.automata.specs.Automaton.{Table, edge, final}
use Rattle.automata.specs.Point.{later}
use Rattle.automata.specs.Run.{State, Move, first, after}
use Rattle.table_files.proofs.Laws.Reading.{parts, goes, not_good, each_record}
use Rattle.table_files.specs.Bytes.{two}
use Rattle.table_files.specs.Reading.{Read, good, bad, Reader, carry, done, require, end, records, answered}
use Rattle.run_lists.specs.Run.{concluded, steps_from, run_from, counted}
use Rattle.calls.specs.RunFile.{step_record, RunList, run_file, guardedb, allowedb, steps_taken, run_checked}
use Rattle.run_lists.specs.Step.{step_by, one_more}

module _ {A B : Type 0} where
  pub stops : (r : Read A) (next : A → Reader B) {number p : ℕ} → r ≡ bad number p → carry r next ≡ bad number p
  unfolding carry
  stops r next e = rw e

  -- a reading is refused in its first part or in what follows
  fails_at : {X : Type 0} (r : Read A) (next : A → Reader B) {number p : ℕ} → carry r next ≡ bad number p
      → (r ≡ bad number p → X) → ((a : A) (rest : List ℕ) → r ≡ good a rest → next a rest ≡ bad number p → X) → X
  unfolding carry
  fails_at (good a rest) next h x y = y a rest refl h
  fails_at (bad n q) next h x y = x (let e : n ≡ _ = cc in let f : q ≡ _ = cc in λ i. bad (e i) (f i))

-- steps after a state, or after a refusal
abbrev taken : Table → ℕ → ℕ → Read State → List Move → Read State
taken T D place r ms = carry r (λ s. steps_taken T D place s ms)

module _ (T : Table) (D : ℕ) where
  -- the first of the steps, then the others
  taken_cons : (place : ℕ) (s : State) (m : Move) (ms : List Move) (f : List ℕ)
      → steps_taken T D place s (m ∷ ms) f ≡ carry (step_by (edge T m.number) D place s m f) (λ s'. steps_taken T D (place + 1) s' ms)
  unfolding steps_taken step_by carry require
  taken_cons place s m ms f =
      go (eqb s.location (edge T m.number).source) (guardedb D (later m.delay s.values) (edge T m.number).guards)
      (allowedb D (later m.delay s.values) m.values (edge T m.number).updates)
    where
      next : Unit {0} → List ℕ → Read State
      next u f = steps_taken T D (place + 1) (after T m) ms f

      go : (a b c : Bool)
          → carry (require 10 place a f) (λ _ f. carry (require 11 place b f) (λ _ f. carry (require 12 place c f) next))
          ≡ carry (carry (require 10 place a f) (λ _ f. carry (require 11 place b f) (λ _ f. carry (require 12 place c f) (λ _ f. good (after T m) f)))) (λ s'. steps_taken T D (place + 1) s' ms)
      go true true true = refl
      go true true false = refl
      go true false c = refl
      go false b c = refl

  taken_more : (place : ℕ) (r : Read State) (m : Move) (ms : List Move) → taken T D place r (m ∷ ms) ≡ taken T D (place + 1) (one_more T D place r m) ms
  unfolding carry
  taken_more place (good s f) m ms = taken_cons place s m ms f
  taken_more place (bad number p) m ms = refl

  taken_none : (place : ℕ) (r : Read State) → taken T D place r [] ≡ r
  unfolding carry steps_taken
  taken_none place (good s f) = refl
  taken_none place (bad number p) = refl

  module _ (steps : ℕ) where
    -- where all records are read, what is left is the bytes after them and the steps' outcome
    all_read : (k place : ℕ) (r : Read State) (file : List ℕ) (ms : List Move) (rest : List ℕ) → records (step_record T) place k file ≡ good ms rest
        → steps_from T D steps place k r file ≡ steps_from T D steps place zero (taken T D place r ms) rest
    unfolding records steps_from
    all_read zero place r file ms rest h =
        let e : [] ≡ ms = cc in
        let q : file ≡ rest = cc in
        rw (← e, q, taken_none place r)
    all_read (suc k) place r file ms rest h =
        parts _ _ h λ m f1 e1 h1.
        parts _ _ h1 λ more f2 e2 h2.
        let e : m ∷ more ≡ ms = cc in
        let q : f2 ≡ rest = cc in
        goes _ _ m f1 e1
        ∙ all_read k (place + 1) (one_more T D place r m) f1 more f2 e2
        ∙ (λ i. steps_from T D steps place zero (sym (taken_more place r m more) i) (q i))
        ∙ ap (λ (l : List Move). steps_from T D steps place zero (taken T D place r l) rest) e

    -- where a record is refused, so is the list
    one_refused : (k place : ℕ) (r : Read State) (file : List ℕ) (number p : ℕ) → records (step_record T) place k file ≡ bad number p
        → steps_from T D steps place k r file ≡ bad number p
    unfolding records steps_from
    one_refused zero place r file number p h = not_good (sym h)
    one_refused (suc k) place r file number p h =
        fails_at _ _ h (λ e. stops _ _ e) λ m f1 e1 h1.
        fails_at _ _ h1 (λ e. goes _ _ m f1 e1 ∙ one_refused k (place + 1) (one_more T D place r m) f1 number p e) λ more f2 e2 h2.
        not_good (sym h2)

-- the whole ------------------------------------------------------------------------------------------------------------------

module _ {A B C : Type 0} where
  regrouped : (r : Read A) (f : A → Reader B) (g : B → Reader C) → carry (carry r f) g ≡ carry r (λ a rest. carry (f a rest) g)
  unfolding carry
  regrouped (good a rest) f g = refl
  regrouped (bad number p) f g = refl

  -- two ways on from one reading have the same answer
  same_answer : (p : B → ℕ) (q : C → ℕ) (r : Read A) (f : A → Reader B) (g : A → Reader C)
      → ((a : A) (rest : List ℕ) → r ≡ good a rest → answered p (f a rest) ≡ answered q (g a rest)) → answered p (carry r f) ≡ answered q (carry r g)
  unfolding carry
  same_answer p q (good a rest) f g k = k a rest refl
  same_answer p q (bad number place) f g k = refl

abbrev count_of : RunList → ℕ
count_of r = length r.moves

abbrev itself_count : ℕ → ℕ
itself_count k = k

-- the steps' outcome, with the bytes all read
outcome : (T : Table) (D : ℕ) (ms : List Move)
    → answered count_of (carry (steps_taken T D 1 (first T) ms []) (λ s f. carry (require 13 (length ms) (final T s.location) f) (λ _. done (record { scale = D; moves = ms }))))
    ≡ counted (concluded T (length ms) (taken T D 1 (good (first T) []) ms))
unfolding concluded
outcome T D ms =
    same_answer count_of itself_count _ _ _ (λ s f e. same_answer count_of itself_count _ _ _ (λ u f' e'. refl))
    ∙ ap (λ (r : Read State). counted (concluded T (length ms) r)) (sym (goes _ _ (first T) [] refl))

ends_empty : (number place : ℕ) (file : List ℕ) {u : Unit {0}} {left : List ℕ} → end number place file ≡ good u left → left ≡ []
unfolding end
ends_empty number place [] e = cc
ends_empty number place (x ∷ rest) e = not_good e

module _ (T : Table) (D steps : ℕ) where
  -- the definitions' order: the bytes after the steps; then the steps; then the last location
  abbrev ended_list : List Move → Reader RunList
  ended_list ms f = carry (end 9 (1 + steps) f) (λ _. done (record { scale = D; moves = ms }))

  abbrev judged : RunList → Reader RunList
  judged r f = carry (steps_taken T r.scale 1 (first T) r.moves f) (λ s f. carry (require 13 (length r.moves) (final T s.location) f) (λ _. done r))

  after_header : (f : List ℕ) → answered count_of (carry (carry (records (step_record T) 1 steps f) ended_list) judged) ≡ counted (steps_from T D steps 1 steps (good (first T) []) f)
  unfolding steps_from
  after_header f = go (records (step_record T) 1 steps f) refl
    where
      go : (x : Read (List Move)) → records (step_record T) 1 steps f ≡ x → answered count_of (carry (carry x ended_list) judged) ≡ counted (steps_from T D steps 1 steps (good (first T) []) f)
      go (good ms rest) e =
          let many : length ms ≡ steps = (each_record (step_record T) (λ (_ : Move). Unit {0}) (λ _ _ _ _ _. tt) 1 steps f ms rest e).0 in
          let r : RunList = record { scale = D; moves = ms } in
          ap (λ (y : Read RunList). answered count_of (carry y judged)) (goes _ ended_list ms rest refl)
          ∙ ap (answered count_of) (regrouped (end 9 (1 + steps) rest) _ judged)
          ∙ same_answer count_of itself_count (end 9 (1 + steps) rest) _ (λ _ _. concluded T steps (taken T D 1 (good (first T) []) ms)) (λ u l q.
          ap (answered count_of) (goes _ judged r l refl)
          ∙ rw (ends_empty 9 (1 + steps) rest q, ← many) (outcome T D ms))
          ∙ sym (ap counted (all_read T D steps steps 1 (good (first T) []) f ms rest e))
      go (bad number p) e =
          ap (answered count_of) (stops _ judged (stops _ ended_list refl)) ∙ sym (ap counted (one_refused T D steps steps 1 (good (first T) []) f number p e))

pub run_fused : (T : Table) (file : List ℕ) → answered (λ (r : RunList). length r.moves) (run_checked T file) ≡ counted (run_from T file)
unfolding run_checked run_file run_from
run_fused T file =
    ap (answered count_of) (regrouped _ _ _)
    ∙ same_answer count_of itself_count _ _ _ (λ b f e. ap (answered count_of) (regrouped _ _ _)
    ∙ same_answer count_of itself_count _ _ _ (λ u f e. ap (answered count_of) (regrouped _ _ _)
    ∙ same_answer count_of itself_count _ _ _ (λ u f e. after_header T (two b 2) (two b 4) f)))
