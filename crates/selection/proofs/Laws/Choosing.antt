-- Which rows an edge is walked from, as the code chooses them: row by row, and then as many as there was room for. Assumes nothing.
use Prim.Native.Nat.{ℕ, zero, suc, ◌+◌, ◌≤◌, ◌<◌, min}
use native.Mathlib.Decide.{ℕ_discrete}
use native.Mathlib.Omega.{arith}
use mathlib.Core.Path.{◌≡◌, refl, sym, ap, ◌∙◌}
use mathlib.Core.Bool.{Bool, true, false, cond}
use mathlib.Core.Logic.{◌⊎◌, inl, inr}
use mathlib.Core.List.{List}
use lib.ListN.{length, set, replicate}
use lib.Seq.{get_or-set_same, get_or-set_other}
use Rattle.automata.specs.Row.{Row, IsRow}
use Rattle.automata.specs.Edge.{Edge}
use Rattle.automata.specs.Successors.{guardsb}
use Rattle.automata.proofs.Laws.Tests.{never}
use Rattle.skylines.specs.declared.reach.Reach.{Reach}
use Rattle.skylines.specs.Reach.{ReachOf, withinb}
use Rattle.skylines.specs.Skyline.{member, Seats}
use Rattle.skylines.proofs.Laws.NoFurther.{none_further}
use Rattle.listed_rows.specs.Listed.{listed_row}
use Rattle.selection.specs.Chosen.{Leads, Sits, AllSit, AllLead, Offers, taken_at, Chooses}
use Rattle.skylines.proofs.Laws.NoNext.{edge_blocked}

-- at first none is taken
pub none_taken : (m j : ℕ) → taken_at (replicate m false) j ≡ false
none_taken zero j = refl
none_taken (suc m) zero = refl
none_taken (suc m) (suc j) = none_taken m j

module _ (c : List ℕ) (e : Edge) (n : ℕ) (list : List ℕ) where
  -- reaches that sit ----------------------------------------------------------------------------------------------------------------------

  -- fewer rows are within more
  pub sit_wider : (lo hi lo' hi' : ℕ) (m : Reach) → lo' ≤ lo → hi ≤ hi' → Sits c e n list lo hi m → Sits c e n list lo' hi' m
  sit_wider lo hi lo' hi' m p q s = record { from = omega (arith, s.from); to = omega (arith, s.to); located = s.located; guarded = s.guarded; reach = s.reach }

  -- the reach of a row that the edge can be taken from
  pub sits_own : (lo hi i : ℕ) (own : Reach) → lo ≤ i → i < hi → (listed_row n list i).location ≡ e.source → guardsb (listed_row n list i) e.guards ≡ true
      → ReachOf c e (listed_row n list i) i own → Sits c e n list lo hi own
  sits_own lo hi i own from to located guarded reach =
      record {
        from = omega (arith, reach.number);
        to = omega (arith, reach.number);
        located = ap (λ (j : ℕ). (listed_row n list j).location) reach.number ∙ located;
        guarded = ap (λ (j : ℕ). guardsb (listed_row n list j) e.guards) reach.number ∙ guarded;
        reach = rw (← reach.number) at reach;
      }

  module _ (lo hi : ℕ) (sized : length c ≡ n) (few : n ≤ 4) (are_rows : (j : ℕ) → j < hi → IsRow c (listed_row n list j)) where
    -- what passes from the row of a reach passes from that of a reach within it
    pub further : (p : Row → Bool) (a b : Reach) → Sits c e n list lo hi a → Sits c e n list lo hi b → withinb n a b ≡ true → Leads c e n list p b.row → Leads c e n list p a.row
    further p a b A B h =
        none_further c e (listed_row n list a.row) (listed_row n list b.row) (omega arith) (are_rows a.row A.to) (are_rows b.row B.to) a.row b.row a b A.reach B.reach
        (rw sized h) (A.located ∙ sym B.located) (A.guarded ∙ sym B.guarded) p

    -- a row is offered --------------------------------------------------------------------------------------------------------------------

    module _ (i : ℕ) (already : Bool) (ms : List Reach) (size : ℕ) (sit : AllSit c e n list lo hi ms size) (room : size ≤ 64) where
      -- it is taken already
      pub offers_taken : already ≡ true → Offers c e n list lo hi i already ms size ms size true
      offers_taken t = record { room = room; sit = sit; lead = λ p h. h; covers = λ p h s. inl t; first = λ z. refl }

      -- the edge cannot be taken from it
      pub offers_blocked : guardsb (listed_row n list i) e.guards ≡ false → Offers c e n list lo hi i already ms size ms size true
      offers_blocked g =
          record { room = room; sit = sit; lead = λ p h. h; covers = λ p h s. inr (sym (edge_blocked c e (listed_row n list i) p g)); first = λ z. refl }

      -- it is seated, or there is no room
      module _ (own : Reach) (ms' : List Reach) (size' : ℕ) (seated : Bool) (S : Seats n own ms size ms' size' seated) (from : lo ≤ i) (to : i < hi)
          (located : (listed_row n list i).location ≡ e.source) (guarded : guardsb (listed_row n list i) e.guards ≡ true) (reach : ReachOf c e (listed_row n list i) i own) where
        own_sits : Sits c e n list lo hi own
        own_sits = sits_own lo hi i own from to located guarded reach

        sits : AllSit c e n list lo hi ms' size'
        sits k l = go (S.none_new k l)
          where
            go : (member ms' k ≡ own) ⊎ ((j : ℕ) × (j < size) × (member ms' k ≡ member ms j)) → Sits c e n list lo hi (member ms' k)
            go (inl q) = rw q own_sits
            go (inr (j, h, q)) = rw q (sit j h)

        pub offers_seat : Offers c e n list lo hi i already ms size ms' size' seated
        offers_seat =
            record {
              room = S.room;
              sit = sits;
              lead = λ p h j l. (let (k, m, w) = S.none_lost j l in further p (member ms j) (member ms' k) (sit j l) (sits k m) w (h k m));
              covers = λ p h t. (let (k, m, w) = S.covers t in inr (rw reach.number at (further p own (member ms' k) own_sits (sits k m) w (h k m))));
              first = S.first;
            }

  -- rows are offered one after the other ------------------------------------------------------------------------------------------------

  module _ (lo hi : ℕ) (ts : List Bool) where
    -- those before row i have been offered, and the first that had to be left out is known
    pub record Choosing (i : ℕ) (ts' : List Bool) (ms : List Reach) (size left : ℕ) : Type 0 where
      pub from : lo ≤ i
      pub within : i ≤ hi
      pub room : size ≤ 64
      pub sit : AllSit c e n list lo hi ms size
      pub none_yet : i ≡ lo → size ≡ 0
      pub later : lo < hi → lo < left
      pub left_within : left ≤ hi
      pub taken : (j : ℕ) → lo ≤ j → j < left → j < i → taken_at ts' j ≡ true
      pub rest : (j : ℕ) → i ≤ j → taken_at ts' j ≡ taken_at ts j
      pub lead : (p : Row → Bool) → AllLead c e n list p ms size → (j : ℕ) → lo ≤ j → j < i → taken_at ts' j ≡ true → (taken_at ts j ≡ true) ⊎ Leads c e n list p j

    pub choosing_begins : (ms : List Reach) → lo ≤ hi → Choosing lo ts ms 0 hi
    choosing_begins ms h =
        record {
          from = omega arith;
          within = h;
          room = omega arith;
          sit = λ k l. absurd (omega arith);
          none_yet = λ q. refl;
          later = λ l. l;
          left_within = omega arith;
          taken = λ j a b l. absurd (omega arith);
          rest = λ j l. refl;
          lead = λ p h j a b. absurd (omega arith);
        }

    module _ (i : ℕ) (ts' : List Bool) (ms : List Reach) (size left : ℕ) (C : Choosing i ts' ms size left) where
      pub choosing_on : i < hi → i < length ts' → (ms' : List Reach) (size' : ℕ) (seated : Bool) → Offers c e n list lo hi i (taken_at ts' i) ms size ms' size' seated
          → (left' : ℕ) → left' ≡ cond seated left (min left i) → Choosing (i + 1) (set ts' i seated) ms' size' left'
      choosing_on l long ms' size' seated O left' q =
          record {
            from = omega (arith, C.from);
            within = omega arith;
            room = O.room;
            sit = O.sit;
            none_yet = λ z. absurd (omega (arith, C.from));
            later = λ h. after seated refl q h;
            left_within = shorter seated q;
            taken = λ j a b k. have j a b k (ℕ_discrete j i);
            rest = λ j k. other j (λ z. omega arith) ∙ C.rest j (omega arith);
            lead = λ p h j a b t. leads p h j a b t (ℕ_discrete j i);
          }
        where
          here : taken_at (set ts' i seated) i ≡ seated
          here = get_or-set_same ts' i seated false long

          other : (j : ℕ) → (j ≡ i → ⊥) → taken_at (set ts' i seated) j ≡ taken_at ts' j
          other j h = get_or-set_other ts' i j seated false h

          after : (b : Bool) → seated ≡ b → left' ≡ cond b left (min left i) → lo < hi → lo < left'
          after true s r h = omega (arith, r, C.later h)
          after false s r h = go (ℕ_discrete i lo)
            where
              go : Dec (i ≡ lo) → lo < left'
              go (yes z) = never (sym s ∙ O.first (C.none_yet z))
              go (no z) = omega (arith, r, C.later h, C.from)

          shorter : (b : Bool) → left' ≡ cond b left (min left i) → left' ≤ hi
          shorter true r = omega (arith, r, C.left_within)
          shorter false r = omega (arith, r, C.left_within)

          have : (j : ℕ) → lo ≤ j → j < left' → j < i + 1 → Dec (j ≡ i) → taken_at (set ts' i seated) j ≡ true
          have j a b k (yes z) = ap (taken_at (set ts' i seated)) z ∙ here ∙ was seated q
            where
              was : (b : Bool) → left' ≡ cond b left (min left i) → b ≡ true
              was true r = refl
              was false r = absurd (omega (arith, r))
          have j a b k (no z) = other j z ∙ C.taken j a (before seated q) (omega arith)
            where
              before : (b : Bool) → left' ≡ cond b left (min left i) → j < left
              before true r = omega (arith, r)
              before false r = omega (arith, r)

          leads : (p : Row → Bool) → AllLead c e n list p ms' size' → (j : ℕ) → lo ≤ j → j < i + 1 → taken_at (set ts' i seated) j ≡ true → Dec (j ≡ i)
              → (taken_at ts j ≡ true) ⊎ Leads c e n list p j
          leads p h j a b t (no z) = C.lead p (O.lead p h) j a (omega arith) (sym (other j z) ∙ t)
          leads p h j a b t (yes z) = go (O.covers p h (sym here ∙ ap (taken_at (set ts' i seated)) (sym z) ∙ t))
            where
              go : (taken_at ts' i ≡ true) ⊎ Leads c e n list p i → (taken_at ts j ≡ true) ⊎ Leads c e n list p j
              go (inl k) = inl (ap (taken_at ts) z ∙ sym (C.rest i (omega arith)) ∙ k)
              go (inr k) = inr (rw z k)

      pub choosing_ends : hi ≤ i → Chooses c e n list lo hi ts ts' ms size left
      choosing_ends h =
          record {
            sit = C.sit;
            room = C.room;
            later = C.later;
            within = C.left_within;
            taken = λ j a b. C.taken j a b (omega (arith, C.left_within));
            lead = λ p k j a b t. C.lead p k j a (omega arith) t;
          }
