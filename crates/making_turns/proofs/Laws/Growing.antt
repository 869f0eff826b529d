-- What holds of the rows in the buffer from turn to turn: more rows are settled, a row is added, the next row is followed, the next ones are walked, and in the
-- end they are the kept rows. Assumes nothing.
use Prim.Native.Nat.{ℕ, zero, suc, ◌≤◌, ◌<◌}
use native.Mathlib.Decide.{ℕ_discrete, dec_lt}
use native.Mathlib.Omega.{arith}
use mathlib.Core.Path.{◌≡◌, refl, sym, ◌∙◌}
use mathlib.Core.Bool.{Bool, true, false}
use mathlib.Core.Logic.{◌⊎◌, inl, inr}
use mathlib.Core.List.{List}
use lib.ListN.{length}
use Rattle.automata.specs.Row.{Row}
use Rattle.automata.specs.Automaton.{Table, final}
use Rattle.automata.specs.Closed.{Mem, first_row}
use Rattle.automata.specs.Next.{next_rows}
use Rattle.automata.specs.Kept.{kept, enters, Entered, at_once, later}
use Rattle.automata.proofs.Laws.Tests.{never, true_or_false}
use Rattle.regions.specs.declared.clocks.Clocks.{Clocks}
use Rattle.listed_rows.specs.Listed.{listed_row, listed_rows}
use Rattle.listed_rows.proofs.Laws.Listed.{listed_length, listed_in, in_listed}
use Rattle.kept_rows.specs.Births.{birth}
use Rattle.next_steps.specs.declared.stride.Stride as stride_code
use Rattle.next_steps.specs.Steps.{due, into_final, plain, Settled, Follows, Walks}
use Rattle.making_turns.specs.Work.{Followed, Walked, Grown}
use Rattle.automata.proofs.Laws.Kept.{kept_outside, kept_within, kept_is, enters_says}
use Rattle.next_steps.proofs.Laws.Steps.{all_listed, next_due, due_final, settled_more, due_entered}

module _ {T : Table} {k : Clocks} {before out : List ℕ} {count start top step : ℕ} {walking e : Bool} (G : Grown T k before out count start top step walking e) where
  abbrev rows : List Row
  rows = listed_rows k.count out count

  abbrev row : ℕ → Row
  row i = listed_row k.count out i

  abbrev born : ℕ → ℕ
  born i = birth k.count out i

  -- where no row is added, what changes is how far the rows are followed and walked
  grown_further : {start' top' step' : ℕ} {w' e' : Bool} → (e' ≡ true → Entered T)
      → start' ≤ top' → top' ≤ count → (w' ≡ true → start' < top') → (w' ≡ false → top' < count)
      → ((m i : ℕ) → m ≤ length T.edges → plain T m ≡ true → i < count → Followed top' step' w' m (born i) → Settled T rows e' m (row i))
      → ((m i : ℕ) → m ≤ length T.edges → plain T m ≡ false → i < count → Walked start' top' step' w' m (born i) → Settled T rows e' m (row i))
      → Grown T k before out count start' top' step' w' e'
  grown_further enters low high walks follows followed walked = record {
    listed = G.listed;
    ascends = G.ascends;
    births = G.births;
    born = G.born;
    kept = G.kept;
    begun = G.begun;
    enters = enters;
    same_length = G.same_length;
    rest = G.rest;
    low = low;
    high = high;
    walks = walks;
    follows = follows;
    followed = followed;
    walked = walked;
  }

  -- the row at the top is followed further ---------------------------------------------------------------------------------------------------

  module _ (v : walking ≡ false) (r : Row) (tied : (i : ℕ) → i < count → born i ≡ top → row i ≡ r) (q : stride_code.Stride) (F : Follows T rows k.count step r e q) where
    -- the row at the top is one of the kept rows
    pub top_listed : Mem r rows
    top_listed = let (i, h, b) = G.born top (G.follows v) in rw (tied i h b) at (listed_in k.count out count i h)

    pub grown_followed : Grown T k before out count start top q.step walking q.entered
    grown_followed =
        grown_further (λ h. entered (F.enters h)) G.low G.high G.walks G.follows
        go
        (λ m i h p l f. settled_more T rows rows e q.entered m (row i) (λ x y. y) F.stays (G.walked m i h p l (before_walked m i f)))
      where
        entered : (e ≡ true) ⊎ ((m : ℕ) × (m ≤ length T.edges) × (s : Row) × Mem s (due T m r) × (into_final T m ≡ true)) → Entered T
        entered (inl h) = G.enters h
        entered (inr (m, h, s, i, f)) = due_entered T m r s (G.kept r top_listed) h i f

        before_walked : (m i : ℕ) → Walked start top q.step walking m (born i) → Walked start top step walking m (born i)
        before_walked m i (inl h) = inl h
        before_walked m i (inr (h, _, _)) = never (sym v ∙ h)

        go : (m i : ℕ) → m ≤ length T.edges → plain T m ≡ true → i < count → Followed top q.step walking m (born i) → Settled T rows q.entered m (row i)
        go m i h p l (inl b) = settled_more T rows rows e q.entered m (row i) (λ x y. y) F.stays (G.followed m i h p l (inl b))
        go m i h p l (inr (b, w, s)) = at_step (dec_lt m step)
          where
            at_step : Dec (m < step) → Settled T rows q.entered m (row i)
            at_step (yes c) = settled_more T rows rows e q.entered m (row i) (λ x y. y) F.stays (G.followed m i h p l (inr (b, w, c)))
            at_step (no c) = rw (tied i l b) (F.settled m (omega arith) s p)

  -- the next row is followed, or the rows are walked ------------------------------------------------------------------------------------------

  module _ (v : walking ≡ false) (all : step ≡ suc (length T.edges)) where
    all_followed : (m i : ℕ) → m ≤ length T.edges → plain T m ≡ true → i < count → born i < suc top → Settled T rows e m (row i)
    all_followed m i h p l b = go (ℕ_discrete (born i) top)
      where
        go : Dec (born i ≡ top) → Settled T rows e m (row i)
        go (yes c) = G.followed m i h p l (inr (c, v, omega arith))
        go (no c) = G.followed m i h p l (inl (omega arith))

    pub grown_next : suc top < count → Grown T k before out count start (suc top) 0 walking e
    grown_next h =
        grown_further G.enters (omega (arith, G.low)) (omega arith) (λ w. never (sym v ∙ w)) (λ w. h)
        go
        (λ m i a p l f. G.walked m i a p l (back m i f))
      where
        go : (m i : ℕ) → m ≤ length T.edges → plain T m ≡ true → i < count → Followed (suc top) 0 walking m (born i) → Settled T rows e m (row i)
        go m i a p l (inl b) = all_followed m i a p l b
        go m i a p l (inr (b, w, s)) = absurd (omega arith)

        back : (m i : ℕ) → Walked start (suc top) 0 walking m (born i) → Walked start top step walking m (born i)
        back m i (inl b) = inl b
        back m i (inr (w, _, _)) = never (sym v ∙ w)

    pub grown_walks : suc top ≡ count → Grown T k before out count start (suc top) 1 true e
    grown_walks h =
        grown_further G.enters (omega (arith, G.low)) (omega arith) (λ w. omega (arith, G.low)) (λ w. never (sym w))
        go
        again
      where
        go : (m i : ℕ) → m ≤ length T.edges → plain T m ≡ true → i < count → Followed (suc top) 1 true m (born i) → Settled T rows e m (row i)
        go m i a p l (inl b) = all_followed m i a p l b
        go m i a p l (inr (b, w, s)) = never (sym w)

        again : (m i : ℕ) → m ≤ length T.edges → plain T m ≡ false → i < count → Walked start (suc top) 1 true m (born i) → Settled T rows e m (row i)
        again m i a p l (inl b) = G.walked m i a p l (inl b)
        again zero i a p l (inr (w, b, s)) = never (sym p)
        again (suc m) i a p l (inr (w, b, s)) = absurd (omega arith)

  -- the rows are walked further -----------------------------------------------------------------------------------------------------------------

  module _ (v : walking ≡ true) where
    pub grown_walked : (q : stride_code.Stride) → Walks T rows k.count step q → Grown T k before out count start top q.step walking e
    grown_walked q W =
        grown_further G.enters G.low G.high G.walks G.follows
        (λ m i a p l f. G.followed m i a p l (back m i f))
        go
      where
        back : (m i : ℕ) → Followed top q.step walking m (born i) → Followed top step walking m (born i)
        back m i (inl b) = inl b
        back m i (inr (_, w, _)) = never (sym w ∙ v)

        go : (m i : ℕ) → m ≤ length T.edges → plain T m ≡ false → i < count → Walked start top q.step walking m (born i) → Settled T rows e m (row i)
        go m i a p l (inl b) = G.walked m i a p l (inl b)
        go m i a p l (inr (w, b, s)) = at_step (dec_lt m step)
          where
            at_step : Dec (m < step) → Settled T rows e m (row i)
            at_step (yes c) = G.walked m i a p l (inr (w, b, c))
            at_step (no c) = inr (W.settled m (omega arith) s p (row i) (listed_in k.count out count i l))

    module _ (all : step ≡ suc (length T.edges)) where
      all_walked : (m i : ℕ) → m ≤ length T.edges → plain T m ≡ false → i < count → born i < top → Settled T rows e m (row i)
      all_walked m i a p l b = G.walked m i a p l (inr (v, b, omega arith))

      pub grown_on : top < count → Grown T k before out count top top 0 false e
      grown_on h =
          grown_further G.enters (omega arith) G.high (λ w. never w) (λ w. h)
          go
          again
        where
          go : (m i : ℕ) → m ≤ length T.edges → plain T m ≡ true → i < count → Followed top 0 false m (born i) → Settled T rows e m (row i)
          go m i a p l (inl b) = G.followed m i a p l (inl b)
          go m i a p l (inr (b, w, s)) = absurd (omega arith)

          again : (m i : ℕ) → m ≤ length T.edges → plain T m ≡ false → i < count → Walked top top 0 false m (born i) → Settled T rows e m (row i)
          again m i a p l (inl b) = all_walked m i a p l b
          again m i a p l (inr (w, _, _)) = never w

      -- the rows are the kept rows --------------------------------------------------------------------------------------------------------------

      module _ (whole : top ≡ count) where
        all_settled : (m i : ℕ) → m ≤ length T.edges → i < count → Settled T rows e m (row i)
        all_settled m i a l = go (true_or_false (plain T m))
          where
            go : (plain T m ≡ true) ⊎ (plain T m ≡ false) → Settled T rows e m (row i)
            go (inl p) = G.followed m i a p l (inl (omega (arith, G.births i l)))
            go (inr p) = all_walked m i a p l (omega (arith, G.births i l))

        settled_in : (m : ℕ) (r : Row) → m ≤ length T.edges → Mem r rows → Settled T rows e m r
        settled_in m r a i = let (j, l, p) = in_listed k.count out count r i in rw p at (all_settled m j a l)

        next_listed : (r s : Row) → Mem r rows → Mem s (next_rows T r) → final T s.location ≡ false → Mem s rows
        next_listed r s i j o = let (m, a, d) = next_due T r s j in go m d (settled_in m r a i)
          where
            go : (m : ℕ) → Mem s (due T m r) → Settled T rows e m r → Mem s rows
            go m d (inl (f, _)) = never (sym o ∙ due_final T m r s d f)
            go m d (inr h) = (all_listed rows (due T m r)).0 h s d

        pub grown_kept : kept T ≡ rows
        grown_kept = kept_is T rows G.ascends G.kept (kept_within T rows (λ _. G.begun) next_listed) (rw (listed_length k.count out count) G.listed.short)

        pub grown_enters : enters T rows ≡ e
        grown_enters = both (enters T rows) e (λ h. to ((enters_says T rows).0 h)) (λ h. (enters_says T rows).1 (back (G.enters h)))
          where
            entered_next : (r s : Row) → Mem r rows → Mem s (next_rows T r) → final T s.location ≡ true → e ≡ true
            entered_next r s i j f = let (m, a, d) = next_due T r s j in go m d (settled_in m r a i)
              where
                go : (m : ℕ) → Mem s (due T m r) → Settled T rows e m r → e ≡ true
                go m d (inl (_, h)) = h
                go m d (inr h) = never (sym (kept_outside T (G.kept s ((all_listed rows (due T m r)).0 h s d))) ∙ f)

            to : (final T T.initial ≡ true) ⊎ ((r : Row) × Mem r rows × ((s : Row) × Mem s (next_rows T r) × (final T s.location ≡ true))) → e ≡ true
            to (inl f) = never (sym (kept_outside T (G.kept (first_row T) G.begun)) ∙ f)
            to (inr (r, i, (s, j, f))) = entered_next r s i j f

            back : Entered T → (final T T.initial ≡ true) ⊎ ((r : Row) × Mem r rows × ((s : Row) × Mem s (next_rows T r) × (final T s.location ≡ true)))
            back (at_once f) = inl f
            back (later {r = r} {s = s} h j f) = inr (r, kept_within T rows (λ _. G.begun) next_listed r h, (s, j, f))

            both : (a b : Bool) → (a ≡ true → b ≡ true) → (b ≡ true → a ≡ true) → a ≡ b
            both true b f g = sym (f refl)
            both false true f g = g refl
            both false false f g = refl
