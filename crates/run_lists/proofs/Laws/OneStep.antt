-- One step as the code takes it: the loops over guards and updates give the definitions' tests. Assumes nothing.
use Prim.Native.Nat.{ℕ, zero, suc, ◌+◌, ◌*◌, ◌≤◌, ◌<◌}
use native.Mathlib.Nat.{mul-le-mul}
use native.Mathlib.Omega.{arith}
use mathlib.Core.Bool.{Bool, true, false}
use mathlib.Core.List.{List, [], ◌∷◌}
use mathlib.Core.Path.{◌≡◌, refl, sym, ap, ◌∙◌}
use lib.Dec.{eqb}
use lib.ListN.{length, take, get_or, length-map, get_or-map}
use lib.Seq.{get_or-take, length-take-le}
use borrow.Author.Tests.{eq-eqb, ne_eqb}
use Rattle.automata.proofs.Laws.Lists.{at_later, length_later}
use Rattle.automata.proofs.Laws.Tests.{says, allb_law, same_test}
use Rattle.automata.proofs.Laws.Checks.{every_law}
use Rattle.automata.proofs.Laws.Members.{get_or_in, in_get_or}
use Rattle.regions.proofs.Laws.Placing.{allb_same}
use Rattle.automata.specs.Automaton.{edge, Admitted}
use Rattle.automata.specs.Checks.{every}
use Rattle.automata.specs.Clocks.{at, allb}
use Rattle.automata.specs.Comparison.{holds}
use Rattle.automata.specs.Edge.{Edge, Bounded, BoundedBy, Action, keep, constant, clock, idle, ActionIn}
use Rattle.automata.specs.Point.{later}
use Rattle.automata.specs.Run.{State, Move}
use Rattle.regions.specs.Values.{guard_of, action_of, update_of, edge_of}
use Rattle.regions.specs.declared.edge.Action as action_code
use Rattle.regions.specs.declared.edge.Edge as edge_code
use Rattle.regions.specs.declared.edge.Guard as guard_code
use Rattle.regions.specs.declared.edge.Update as update_code
use Rattle.table_files.proofs.Laws.Admission.{admission_admitted}
use Rattle.table_files.proofs.Laws.Reading.{itself}
use Rattle.table_files.specs.Admission.{table_of}
use Rattle.table_files.specs.Reading.{good, bad, carry, require}
use Rattle.tables.specs.Values.{Describes}
use Rattle.table_records.specs.declared.head.Head.{Head}
use Rattle.calls.specs.RunFile.{guardedb, allowed_byb, allowedb}
use Rattle.run_lists.specs.Step.{Names, guard_passes, step_by}

-- two numbers of two bytes have a product of four
pub product_small : (a b : ℕ) → a < 65536 → b < 65536 → a * b < 4294967296
product_small a b h k =
    let l : a ≤ 65535 = omega arith in
    let m : b ≤ 65535 = omega arith in
    let p : a * b ≤ 65535 * 65535 = mul-le-mul l m in
    omega arith

-- a clock's value after the delay
waited_at : (n delay : ℕ) (values : List ℕ) (z : ℕ) → z < n → n ≤ length values → at (later delay (take n values)) z ≡ at values z + delay
waited_at n delay values z h k =
    at_later delay (take n values) z (rw (length-take-le n values k) h) ∙ ap (λ (x : ℕ). x + delay) (get_or-take n values z 0 h)

-- an element does not hang on what would stand past the end
same_at : {A : Type 0} (xs : List A) (z : ℕ) (d d' : A) → z < length xs → get_or xs z d ≡ get_or xs z d'
same_at [] z d d' h = absurd (omega arith)
same_at (x ∷ xs) zero d d' h = refl
same_at (x ∷ xs) (suc z) d d' h = same_at xs z d d' (omega arith)

-- the guards and updates of an edge of the code
module _ (n : ℕ) (e : edge_code.Edge) where
  guard_read : (i : ℕ) (d : guard_code.Guard) → i < e.guard_count → get_or (edge_of n e).guards i (guard_of d) ≡ guard_of (get_or e.guards i d)
  guard_read i d h =
      get_or-map guard_of (take e.guard_count e.guards) i d ∙ ap guard_of (get_or-take e.guard_count e.guards i d h)

  update_read : (z : ℕ) (d : update_code.Update) → z < n → z < length e.updates → get_or (edge_of n e).updates z idle ≡ update_of (get_or e.updates z d)
  update_read z d h l =
      let k : update_code.Update = record { action = action_code.TheVariants.Keep; comparison = 0 } in
      get_or-map update_of (take n e.updates) z k ∙ ap update_of (get_or-take n e.updates z k h ∙ same_at e.updates z k d l)

-- guards ---------------------------------------------------------------------------------------------------------------------

-- of a list, by number
every_at : {A : Type 0} (p : A → Bool) (xs : List A) (d : A) → allb (length xs) (λ (i : ℕ). p (get_or xs i d)) ≡ every p xs
every_at p xs d =
    same_test (allb (length xs) (λ (i : ℕ). p (get_or xs i d))) (every p xs) (allb_law (length xs) _ (λ i. itself (p (get_or xs i d))))
    (says _ (every_law p (λ a. itself (p a)) xs) (
      λ h i l. h _ (get_or_in xs i d l),
      λ h a m. let (i, l, e) = in_get_or d m in rw e at (h i l),
    ))

module _ (D n delay : ℕ) (values : List ℕ) (e : edge_code.Edge) (few : n ≤ length values) (N : Names n e) (d : guard_code.Guard) where
  guard_answer : (i : ℕ) → i < e.guard_count
      → holds (get_or e.guards i d).comparison (at values (get_or e.guards i d).clock + delay) ((get_or e.guards i d).constant * D)
      ≡ guard_passes D (later delay (take n values)) (get_or (edge_of n e).guards i (guard_of d))
  guard_answer i h =
      sym (rw (guard_read n e i d h)
      (ap (λ (x : ℕ). holds (get_or e.guards i d).comparison x ((get_or e.guards i d).constant * D)) (waited_at n delay values (get_or e.guards i d).clock (N.guards i h d) few)))

  guards_many : e.guard_count ≡ length (edge_of n e).guards
  guards_many = sym (length-map (take e.guard_count e.guards) guard_of ∙ length-take-le e.guard_count e.guards (omega (arith, N.few, N.guards_length)))

  -- what the code asks of each guard is what the definitions ask
  pub guards_each : allb e.guard_count (λ (i : ℕ). holds (get_or e.guards i d).comparison (at values (get_or e.guards i d).clock + delay) ((get_or e.guards i d).constant * D))
      ≡ guardedb D (later delay (take n values)) (edge_of n e).guards
  guards_each =
      allb_same e.guard_count _ _ guard_answer
      ∙ (λ i. allb (guards_many i) (λ (j : ℕ). guard_passes D (later delay (take n values)) (get_or (edge_of n e).guards j (guard_of d))))
      ∙ every_at (guard_passes D (later delay (take n values))) (edge_of n e).guards (guard_of d)

-- updates --------------------------------------------------------------------------------------------------------------------

module _ (D delay : ℕ) (values : List ℕ) (z x cmp : ℕ) where
  pub keep_answer : z < length values → eqb x (at values z + delay) ≡ allowed_byb D (later delay values) z x cmp keep
  keep_answer h = rw (at_later delay values z h)

  pub clock_answer : (y up down : ℕ) → y < length values
      → holds cmp (x + down * D) (at values y + delay + up * D) ≡ allowed_byb D (later delay values) z x cmp (clock y up down)
  clock_answer y up down h = rw (at_later delay values y h)

  narrowed : (n : ℕ) → z < n → n ≤ length values → (a : Action) → ActionIn n a
      → allowed_byb D (later delay values) z x cmp a ≡ allowed_byb D (later delay (take n values)) z x cmp a
  narrowed n h k keep i = rw (at_later delay values z (omega arith), waited_at n delay values z h k)
  narrowed n h k (constant q) i = refl
  narrowed n h k (clock y up down) i = rw (at_later delay values y (omega arith), waited_at n delay values y i k)

-- a clock among fewer is one among more
pub action_in : (m n : ℕ) → m ≤ n → (a : Action) → ActionIn m a → ActionIn n a
action_in m n h keep i = tt
action_in m n h (constant k) i = tt
action_in m n h (clock y up down) i = omega arith

-- whether the update of clock z allows its new value
abbrev pub allowed_at : ℕ → ℕ → ℕ → List ℕ → List ℕ → edge_code.Edge → ℕ → Bool
allowed_at D n delay values news e z =
    allowed_byb D (later delay (take n values)) z (at (take n news) z) (get_or (edge_of n e).updates z idle).comparison
    (get_or (edge_of n e).updates z idle).action

module _ (D n delay : ℕ) (values news : List ℕ) (e : edge_code.Edge) (four : n ≤ 4) (few : n ≤ length values) (N : Names n e) where
  -- the answer of the code to clock z
  abbrev pub answer_at : ℕ → update_code.Update → Bool
  answer_at z d =
      allowed_byb D (later delay values) z (at news z) (get_or e.updates z d).comparison (action_of (get_or e.updates z d).action)

  allowed_of : (z : ℕ) (d : update_code.Update) → z < n → answer_at z d ≡ allowed_at D n delay values news e z
  allowed_of z d h =
      rw (update_read n e z d h (omega (arith, N.updates_length)), get_or-take n news z 0 h)
      (narrowed D delay values z (at news z) (get_or e.updates z d).comparison n h few (action_of (get_or e.updates z d).action) (N.updates z h d))

  whole : allowedb D (later delay (take n values)) (take n news) (edge_of n e).updates ≡ allb n (allowed_at D n delay values news e)
  whole = ap (λ (k : ℕ). allb k (allowed_at D n delay values news e)) (length_later delay (take n values) ∙ length-take-le n values few)

  -- what the code asks of each update is what the definitions ask
  pub updates_each : (d : update_code.Update) → allb n (λ (z : ℕ). answer_at z d) ≡ allowedb D (later delay (take n values)) (take n news) (edge_of n e).updates
  updates_each d = allb_same n _ _ (λ z h. allowed_of z d h) ∙ sym whole

-- the edge of an admitted table ----------------------------------------------------------------------------------------------

bounded_in : (c : List ℕ) (z : ℕ) (a : Action) → BoundedBy c z a → ActionIn (length c) a
bounded_in c z keep b = tt
bounded_in c z (constant k) b = tt
bounded_in c z (clock y up down) b = b.0

module _ (file : List ℕ) (h : Head) (d : Describes file h) (number : ℕ) (l : number < h.edges) (e : edge_code.Edge)
    (same : edge_of h.clocks.count e ≡ edge (table_of file) number) where
  admitted : Admitted (table_of file)
  admitted = let (k, p) = d.passes in admission_admitted file k p

  number_in : number < length (table_of file).edges
  number_in = omega (arith, d.edges)

  pub target_in : e.target < h.locations
  target_in = omega (arith, d.locations, ap (λ (x : Edge). x.target) same, admitted.target_in number number_in)

  pub names : e.guard_count ≤ 8 → length e.guards ≡ 8 → length e.updates ≡ 4 → Names h.clocks.count e
  names few gs us =
      let n : ℕ = h.clocks.count in
      let B : Bounded (table_of file).bounds (edge_of n e) = rw same (admitted.bounded number number_in) in
      let c : length (table_of file).bounds ≡ n = sym d.count in
      record {
        few = few;
        guards_length = gs;
        updates_length = us;
        guards = λ i k x.
            let many = length-map (take e.guard_count e.guards) guard_of ∙ length-take-le e.guard_count e.guards (omega arith) in
            rw (guard_read n e i x k, c) at (B.guards_in i (omega (arith, many)) (guard_of x)).0;
        updates = λ z k x.
            rw (c, update_read n e z x k (omega (arith, d.few.few))) at (bounded_in (table_of file).bounds z (get_or (edge_of n e).updates z idle).action (B.updates_in z (omega arith)));
      }

-- the tests in order ---------------------------------------------------------------------------------------------------------

module _ (e : Edge) (D place : ℕ) (s : State) (m : Move) where
  pub step_leaves_not : (s.location ≡ e.source → ⊥) → step_by e D place s m [] ≡ bad 10 place
  unfolding step_by carry require
  step_leaves_not h = rw (ne_eqb s.location e.source h)

  module _ (leaves : s.location ≡ e.source) where
    pub step_guards_fail : guardedb D (later m.delay s.values) e.guards ≡ false → step_by e D place s m [] ≡ bad 11 place
    unfolding step_by carry require
    step_guards_fail h = rw (eq-eqb s.location e.source leaves, h)

    module _ (guarded : guardedb D (later m.delay s.values) e.guards ≡ true) where
      pub step_updates_fail : allowedb D (later m.delay s.values) m.values e.updates ≡ false → step_by e D place s m [] ≡ bad 12 place
      unfolding step_by carry require
      step_updates_fail h = rw (eq-eqb s.location e.source leaves, guarded, h)

      pub step_taken : allowedb D (later m.delay s.values) m.values e.updates ≡ true → step_by e D place s m [] ≡ good (record { location = e.target; values = m.values }) []
      unfolding step_by carry require
      step_taken h = rw (eq-eqb s.location e.source leaves, guarded, h)
