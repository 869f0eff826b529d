-- Rows are offered to the slots of their groups, as the code does it: row by row. Assumes nothing.
use Prim.Native.Nat.{ℕ, zero, suc, ◌+◌, ◌≤◌, ◌<◌}
use native.Mathlib.Decide.{ℕ_discrete}
use native.Mathlib.Omega.{arith}
use mathlib.Core.Path.{◌≡◌, refl, sym, ap, ◌∙◌}
use mathlib.Core.Bool.{Bool, true, false}
use mathlib.Core.Logic.{◌⊎◌, inl, inr}
use mathlib.Core.List.{List}
use lib.ListN.{length, set, replicate}
use lib.Seq.{get_or-set_same, get_or-set_other}
use Rattle.automata.specs.Clocks.{at}
use Rattle.automata.specs.Row.{Row, IsRow}
use Rattle.automata.specs.Edge.{Edge}
use Rattle.automata.specs.Successors.{guardsb}
use Rattle.automata.proofs.Laws.Tests.{never}
use Rattle.skylines.specs.declared.reach.Reach.{Reach}
use Rattle.skylines.specs.Reach.{ReachOf, withinb}
use Rattle.skylines.proofs.Laws.NoNext.{edge_blocked}
use Rattle.listed_rows.specs.Listed.{listed_row}
use Rattle.selection.specs.Chosen.{Leads, Sits, taken_at, Offered, AllHeld, HeldLead, Lodges, Groups}
use Rattle.selection.proofs.Laws.Choosing.{sits_own, further}

-- at first no slot holds a row
pub none_held : (e : Edge) (n : ℕ) (list : List ℕ) (lo hi m : ℕ) → AllHeld e n list lo hi (replicate m 0)
none_held e n list lo hi m k j l h = absurd (empty m k h)
  where
    empty : (m k : ℕ) → at (replicate m 0) k ≡ suc j → ⊥
    empty zero k h = omega (arith, h)
    empty (suc m) zero h = omega (arith, h)
    empty (suc m) (suc k) h = empty m k h

-- fewer rows are within more
pub held_wider : (e : Edge) (n : ℕ) (list : List ℕ) (lo hi lo' hi' : ℕ) (slots : List ℕ) → lo' ≤ lo → hi ≤ hi' → AllHeld e n list lo hi slots → AllHeld e n list lo' hi' slots
held_wider e n list lo hi lo' hi' slots a b H k j l h =
    let o = H k j l h in
    record { from = omega (arith, o.from); to = omega (arith, o.to); located = o.located; guarded = o.guarded }

pub groups_wider : (c : List ℕ) (e : Edge) (n : ℕ) (list : List ℕ) (lo hi lo' hi' : ℕ) (ts ts' : List Bool) (slots slots' : List ℕ) → lo' ≤ lo → hi ≤ hi'
    → Groups c e n list lo hi ts ts' slots slots' → AllHeld e n list lo' hi' slots'
groups_wider c e n list lo hi lo' hi' ts ts' slots slots' a b G = held_wider e n list lo hi lo' hi' slots' a b G.held

module _ (c : List ℕ) (e : Edge) (n : ℕ) (list : List ℕ) (lo hi : ℕ) where
  -- a row is offered ----------------------------------------------------------------------------------------------------------------------

  module _ (i : ℕ) (already : Bool) (slots : List ℕ) (H : AllHeld e n list lo hi slots) where
    -- it is taken already
    pub lodges_taken : already ≡ true → Lodges c e n list lo hi i already slots slots true
    lodges_taken t = record { held = H; lead = λ p h. h; covers = λ p h s. inl t }

    -- the edge cannot be taken from it
    pub lodges_blocked : guardsb (listed_row n list i) e.guards ≡ false → Lodges c e n list lo hi i already slots slots true
    lodges_blocked g = record { held = H; lead = λ p h. h; covers = λ p h s. inr (sym (edge_blocked c e (listed_row n list i) p g)) }

    -- its slot holds another that it has nothing to do with
    pub lodges_none : Lodges c e n list lo hi i already slots slots false
    lodges_none = record { held = H; lead = λ p h. h; covers = λ p h s. never s }

    module _ (sized : length c ≡ n) (few : n ≤ 4) (are_rows : (j : ℕ) → j < hi → IsRow c (listed_row n list j)) (from : lo ≤ i) (to : i < hi)
        (located : (listed_row n list i).location ≡ e.source) (guarded : guardsb (listed_row n list i) e.guards ≡ true) (own : Reach)
        (reach : ReachOf c e (listed_row n list i) i own) (k : ℕ) (l : k < 1024) where
      own_sits : Sits c e n list lo hi own
      own_sits = sits_own c e n list lo hi i own from to located guarded reach

      own_offered : Offered e n list lo hi i
      own_offered = record { from = from; to = to; located = located; guarded = guarded }

      -- it is put into its slot, where it stands for what that held
      pub lodges_put : length slots ≡ 1024 → ((p : Row → Bool) → Leads c e n list p i → (m : ℕ) → at slots k ≡ suc m → Leads c e n list p m)
          → Lodges c e n list lo hi i already slots (set slots k (i + 1)) true
      lodges_put long stands =
          record {
            held = λ m j g q. held m j g q (ℕ_discrete m k);
            lead = λ p g m j a q. lead p g m j a q (ℕ_discrete m k);
            covers = λ p g s. inr (g k i l here);
          }
        where
          here : at (set slots k (i + 1)) k ≡ suc i
          here = get_or-set_same slots k (i + 1) 0 (omega arith) ∙ (omega arith)

          elsewhere : (m : ℕ) → (m ≡ k → ⊥) → at (set slots k (i + 1)) m ≡ at slots m
          elsewhere m z = get_or-set_other slots k m (i + 1) 0 z

          held : (m j : ℕ) → m < 1024 → at (set slots k (i + 1)) m ≡ suc j → Dec (m ≡ k) → Offered e n list lo hi j
          held m j g q (yes z) = let r : j ≡ i = omega (arith, q, ap (at (set slots k (i + 1))) z, here) in rw r own_offered
          held m j g q (no z) = H m j g (sym (elsewhere m z) ∙ q)

          lead : (p : Row → Bool) → HeldLead c e n list p (set slots k (i + 1)) → (m j : ℕ) → m < 1024 → at slots m ≡ suc j → Dec (m ≡ k) → Leads c e n list p j
          lead p g m j a q (yes z) = stands p (g k i l here) j (ap (at slots) (sym z) ∙ q)
          lead p g m j a q (no z) = g m j a (elsewhere m z ∙ q)

      -- its slot is free
      pub lodges_free : length slots ≡ 1024 → at slots k ≡ 0 → Lodges c e n list lo hi i already slots (set slots k (i + 1)) true
      lodges_free long z = lodges_put long (λ p g m q. absurd (omega (arith, q, z)))

      -- its slot holds row j
      module _ (j : ℕ) (h : at slots k ≡ suc j) (other : Reach) (there : ReachOf c e (listed_row n list j) j other) where
        other_sits : Sits c e n list lo hi other
        other_sits = let o = H k j l h in sits_own c e n list lo hi j other o.from o.to o.located o.guarded there

        -- from which the edge leads as far
        pub lodges_covered : withinb n own other ≡ true → Lodges c e n list lo hi i already slots slots true
        lodges_covered w =
            record {
              held = H;
              lead = λ p g. g;
              covers = λ p g s. inr (rw reach.number at (further c e n list lo hi sized few are_rows p own other own_sits other_sits w (rw there.number (g k j l h))));
            }

        -- from which it leads no further: row i takes its place
        pub lodges_instead : withinb n other own ≡ true → length slots ≡ 1024 → Lodges c e n list lo hi i already slots (set slots k (i + 1)) true
        lodges_instead w long = lodges_put long (λ p g m q. back p g m q)
          where
            back : (p : Row → Bool) → Leads c e n list p i → (m : ℕ) → at slots k ≡ suc m → Leads c e n list p m
            back p g m q =
                let r : m ≡ j = omega (arith, q, h) in
                rw (r, ← there.number) (further c e n list lo hi sized few are_rows p other own other_sits own_sits w (rw reach.number g))

  -- it was not taken already
  pub lodges_new : (i : ℕ) (already : Bool) (slots slots' : List ℕ) (taken : Bool) → Lodges c e n list lo hi i false slots slots' taken → Lodges c e n list lo hi i already slots slots' taken
  lodges_new i already slots slots' taken L = record { held = L.held; lead = L.lead; covers = λ p h s. go p (L.covers p h s) }
    where
      go : (p : Row → Bool) → (false ≡ true) ⊎ Leads c e n list p i → (already ≡ true) ⊎ Leads c e n list p i
      go p (inl x) = never x
      go p (inr x) = inr x

  -- rows are offered one after the other ------------------------------------------------------------------------------------------------

  module _ (ts : List Bool) (start : List ℕ) where
    -- those before row i have been offered
    pub record Grouping (i : ℕ) (ts' : List Bool) (slots : List ℕ) : Type 0 where
      pub from : lo ≤ i
      pub within : i ≤ hi
      pub held : AllHeld e n list lo hi slots
      pub still : (p : Row → Bool) → HeldLead c e n list p slots → HeldLead c e n list p start
      pub rest : (j : ℕ) → i ≤ j → taken_at ts' j ≡ taken_at ts j
      pub lead : (p : Row → Bool) → HeldLead c e n list p slots → (j : ℕ) → lo ≤ j → j < i → taken_at ts' j ≡ true → (taken_at ts j ≡ true) ⊎ Leads c e n list p j

    pub grouping_begins : lo ≤ hi → AllHeld e n list lo hi start → Grouping lo ts start
    grouping_begins h H =
        record { from = omega arith; within = h; held = H; still = λ p h. h; rest = λ j l. refl; lead = λ p h j a b. absurd (omega arith) }

    module _ (i : ℕ) (ts' : List Bool) (slots : List ℕ) (G : Grouping i ts' slots) where
      pub grouping_on : i < hi → i < length ts' → (slots' : List ℕ) (taken : Bool) → Lodges c e n list lo hi i (taken_at ts' i) slots slots' taken
          → Grouping (i + 1) (set ts' i taken) slots'
      grouping_on l long slots' taken L =
          record {
            from = omega (arith, G.from);
            within = omega arith;
            held = L.held;
            still = λ p h. G.still p (L.lead p h);
            rest = λ j k. other j (λ z. omega arith) ∙ G.rest j (omega arith);
            lead = λ p h j a b t. leads p h j a b t (ℕ_discrete j i);
          }
        where
          here : taken_at (set ts' i taken) i ≡ taken
          here = get_or-set_same ts' i taken false long

          other : (j : ℕ) → (j ≡ i → ⊥) → taken_at (set ts' i taken) j ≡ taken_at ts' j
          other j h = get_or-set_other ts' i j taken false h

          leads : (p : Row → Bool) → HeldLead c e n list p slots' → (j : ℕ) → lo ≤ j → j < i + 1 → taken_at (set ts' i taken) j ≡ true → Dec (j ≡ i)
              → (taken_at ts j ≡ true) ⊎ Leads c e n list p j
          leads p h j a b t (no z) = G.lead p (L.lead p h) j a (omega arith) (sym (other j z) ∙ t)
          leads p h j a b t (yes z) = go (L.covers p h (sym here ∙ ap (taken_at (set ts' i taken)) (sym z) ∙ t))
            where
              go : (taken_at ts' i ≡ true) ⊎ Leads c e n list p i → (taken_at ts j ≡ true) ⊎ Leads c e n list p j
              go (inl k) = inl (ap (taken_at ts) z ∙ sym (G.rest i (omega arith)) ∙ k)
              go (inr k) = inr (rw z k)

      pub grouping_ends : hi ≤ i → Groups c e n list lo hi ts ts' start slots
      grouping_ends h = record { held = G.held; still = G.still; lead = λ p k j a b t. G.lead p k j a (omega arith) t }

  -- rows are offered a second time -----------------------------------------------------------------------------------------------------------

  -- those that found another in their slot may find one now that they lead no further from
  pub groups_twice : (ts ts' ts'' : List Bool) (slots slots' slots'' : List ℕ) → Groups c e n list lo hi ts ts' slots slots' → Groups c e n list lo hi ts' ts'' slots' slots''
      → Groups c e n list lo hi ts ts'' slots slots''
  groups_twice ts ts' ts'' slots slots' slots'' A B =
      record { held = B.held; still = λ p h. A.still p (B.still p h); lead = λ p h j a b t. go p h j a b (B.lead p h j a b t) }
    where
      go : (p : Row → Bool) → HeldLead c e n list p slots'' → (j : ℕ) → lo ≤ j → j < hi → (taken_at ts' j ≡ true) ⊎ Leads c e n list p j → (taken_at ts j ≡ true) ⊎ Leads c e n list p j
      go p h j a b (inl t) = A.lead p (B.still p h) j a b t
      go p h j a b (inr t) = inr t
