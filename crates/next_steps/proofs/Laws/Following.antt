-- The plain steps from one row, one after the other. Assumes nothing.
use Prim.Native.Nat.{ℕ, zero, suc, ◌+◌, ◌≤◌, ◌<◌}
use native.Mathlib.Decide.{ℕ_discrete}
use native.Mathlib.Omega.{arith}
use mathlib.Core.Path.{◌≡◌, refl, sym, ap, subst, ◌∙◌}
use mathlib.Core.Bool.{Bool, true, false}
use mathlib.Core.Logic.{◌⊎◌, inl, inr}
use mathlib.Core.List.{List}
use lib.ListN.{length}
use Rattle.automata.specs.Row.{Row}
use Rattle.automata.specs.Automaton.{Table}
use Rattle.automata.specs.Closed.{Mem}
use Rattle.automata.specs.Successors.{wait_rows}
use Rattle.automata.proofs.Laws.Tests.{never}
use Rattle.regions.specs.Values.{bounds_of}
use Rattle.regions.specs.declared.clocks.Clocks.{Clocks}
use Rattle.regions.specs.declared.region.Region.{Region}
use Rattle.std.specs.Prelude.{Option, None, Some, is_some}
use Rattle.table_files.specs.Admission.{table_of}
use Rattle.table_records.specs.Edge.{after_edge}
use Rattle.table_records.specs.declared.head.Head.{Head}
use Rattle.table_records.proofs.Laws.Skips.{skip_one}
use Rattle.tables.specs.Values.{Describes}
use Rattle.tables.specs.Bounds.{edge_start}
use Rattle.new_rows.specs.New.{NewOf}
use Rattle.next_steps.specs.declared.stride.Stride as stride_code
use Rattle.next_steps.specs.Steps.{due, into_final, plain, Settled, Asks, Follows}
use Rattle.next_steps.proofs.Laws.Steps.{settled_more}
use Rattle.next_steps.proofs.Laws.Asking.{waits_are}

-- nothing is found
nothing : (o : Option Region) → is_some o ≡ false → o ≡ None
nothing None f = refl
nothing (Some v) f = never (sym f)

-- where the record of a step's edge begins
abbrev pub Begins : List ℕ → Head → ℕ → ℕ → Type 0
Begins table head step p = (j : ℕ) → step ≡ suc j → p ≡ edge_start head.clocks.count head.locations table j

-- a step above 0
pub step_above : (step : ℕ) → (step ≡ 0 → ⊥) → (j : ℕ) × (step ≡ suc j)
step_above zero h = absurd (h refl)
step_above (suc j) h = (j, refl)

module _ (table : List ℕ) (head : Head) where
  pub begins : (step p : ℕ) → (j : ℕ) × (step ≡ suc j) × (p ≡ edge_start head.clocks.count head.locations table j) → Begins table head step p
  begins step p (j, q, h) i z =
      let w : j ≡ i = omega arith in
      subst (λ (t : ℕ). p ≡ edge_start head.clocks.count head.locations table t) w h

  -- a step that is an edge: what is said of that edge is said of the step
  module _ (k p : ℕ) (h : 1 ≤ k) (l : k < head.edges + 1) (b : Begins table head k p) where
    pub step_edge : (j : ℕ) × (suc j ≡ k) × (j < head.edges) × (p ≡ edge_start head.clocks.count head.locations table j)
    step_edge = go k h l b
      where
        go : (k : ℕ) → 1 ≤ k → k < head.edges + 1 → Begins table head k p
            → (j : ℕ) × (suc j ≡ k) × (j < head.edges) × (p ≡ edge_start head.clocks.count head.locations table j)
        go zero h l b = absurd (omega arith)
        go (suc j) h l b = (j, refl, omega arith, b j refl)

    pub at_step : (P : ℕ → Type 0) → ((j : ℕ) → j < head.edges → p ≡ edge_start head.clocks.count head.locations table j → P (suc j)) → P k
    at_step P f = let (j, e, i, m) = step_edge in subst P e (f j i m)

  -- the next one
  pub step_next : (k p p' : ℕ) → 1 ≤ k → Begins table head k p → p' ≡ after_edge head.clocks.count table p → Begins table head (k + 1) p'
  step_next zero p p' h b e j q = absurd (omega arith)
  step_next (suc i) p p' h b e j q =
      let z : i + 1 ≡ j = omega arith in
      subst (λ (t : ℕ). p' ≡ edge_start head.clocks.count head.locations table t) z (skip_one _ i _ (b i refl) e)

-- plain steps from a row up to one of them, by which nothing new was found
pub record Along (T : Table) (rows : List Row) (r : Row) (step : ℕ) (entered : Bool) (k : ℕ) (seen : Bool) : Type 0 where
  pub above : 1 ≤ step
  pub on : step ≤ k
  pub few : k ≤ suc (length T.edges)
  pub settled : (m : ℕ) → step ≤ m → m < k → plain T m ≡ true → Settled T rows seen m r
  pub stays : entered ≡ true → seen ≡ true
  pub enters : seen ≡ true → (entered ≡ true) ⊎ ((m : ℕ) × (m ≤ length T.edges) × (s : Row) × Mem s (due T m r) × (into_final T m ≡ true))

module _ {T : Table} {rows : List Row} {n : ℕ} {r : Row} {step : ℕ} {entered : Bool} where
  module _ {k : ℕ} {seen : Bool} (A : Along T rows r step entered k seen) where
    module _ (in_range : k ≤ length T.edges) {next : Option Region} {seen' : Bool} (Q : Asks T rows n k r seen next seen') where
      enters_on : seen' ≡ true → (entered ≡ true) ⊎ ((m : ℕ) × (m ≤ length T.edges) × (s : Row) × Mem s (due T m r) × (into_final T m ≡ true))
      enters_on h = go (Q.enters h)
        where
          go : (seen ≡ true) ⊎ ((s : Row) × Mem s (due T k r) × (into_final T k ≡ true))
              → (entered ≡ true) ⊎ ((m : ℕ) × (m ≤ length T.edges) × (s : Row) × Mem s (due T m r) × (into_final T m ≡ true))
          go (inl z) = A.enters z
          go (inr (s, i, f)) = inr (k, in_range, s, i, f)

      still : (m : ℕ) → step ≤ m → m < k → plain T m ≡ true → Settled T rows seen' m r
      still m a b p = settled_more T rows rows seen seen' m r (λ x y. y) Q.stays (A.settled m a b p)

      pub along_on : is_some next ≡ false → Along T rows r step entered (k + 1) seen'
      along_on f = record {
        above = A.above;
        on = omega (arith, A.on);
        few = omega arith;
        settled = λ m a b p. go m a b p (ℕ_discrete m k);
        stays = λ z. Q.stays (A.stays z);
        enters = enters_on;
      }
        where
          go : (m : ℕ) → step ≤ m → m < k + 1 → plain T m ≡ true → Dec (m ≡ k) → Settled T rows seen' m r
          go m a b p (yes e) = subst (λ (t : ℕ). Settled T rows seen' t r) (sym e) (Q.settled (nothing next f) (subst (λ (t : ℕ). plain T t ≡ true) e p))
          go m a b p (no e) = still m a (omega arith) p

      pub along_new : is_some next ≡ true → (here : ℕ)
          → Follows T rows n step r entered (record { next = next; step = k; here = here; entered = seen'; «from» = None })
      along_new f here = record {
        on = A.on;
        settled = still;
        all = λ g. never (sym (ap is_some g) ∙ f);
        new = Q.new;
        none_from = refl;
        stays = λ y. Q.stays (A.stays y);
        enters = enters_on;
      }

-- waiting, and then the edges --------------------------------------------------------------------------------------------------------------------

module _ (table : List ℕ) (head : Head) (D : Describes table head) (k : Clocks) (same : k ≡ head.clocks) (rows : List Row) (r : Row) (entered : Bool) where
  abbrev T₁ : Table
  T₁ = table_of table

  abbrev n₁ : ℕ
  n₁ = k.count

  module _ (next : Option Region) (N : NewOf n₁ (wait_rows (bounds_of k) r) rows next) where
    pub waits_new : is_some next ≡ true → (here : ℕ)
        → Follows T₁ rows n₁ 0 r entered (record { next = next; step = 0; here = here; entered = entered; «from» = None })
    waits_new f here = record {
      on = omega arith;
      settled = λ m a b p. absurd (omega arith);
      all = λ g. never (sym (ap is_some g) ∙ f);
      new = λ v g.
          let (m, h) = subst (NewOf n₁ (wait_rows (bounds_of k) r) rows) g N in
          record { in_range = omega arith; is_due = rw (waits_are table head D k same r) m; is_new = h; outside = refl };
      none_from = refl;
      stays = λ y. y;
      enters = λ y. inl y;
    }

    pub waits_on : is_some next ≡ false → (q : stride_code.Stride) → Follows T₁ rows n₁ 1 r entered q → Follows T₁ rows n₁ 0 r entered q
    waits_on f q F = record {
      on = omega arith;
      settled = λ m a b p. go m b p;
      all = F.all;
      new = F.new;
      none_from = F.none_from;
      stays = F.stays;
      enters = F.enters;
    }
      where
        go : (m : ℕ) → m < q.step → plain T₁ m ≡ true → Settled T₁ rows q.entered m r
        go zero b p = inr (rw (waits_are table head D k same r) (subst (NewOf n₁ (wait_rows (bounds_of k) r) rows) (nothing next f) N))
        go (suc m) b p = F.settled (suc m) (omega arith) b p
