-- The rows on a way, taken intervals by intervals: where a walk has chosen all intervals, the rows with these are the first that are ahead. Assumes nothing.
use Prim.Native.Nat.{ℕ, ◌+◌, ◌-◌, ◌≤◌}
use native.Mathlib.Omega.{arith}
use mathlib.Core.Path.{◌≡◌, refl, sym, ap, subst, ◌∙◌}
use mathlib.Core.Bool.{Bool, true, false, cond, not}
use mathlib.Core.Logic.{◌⊎◌, inl, inr}
use mathlib.Core.List.Memᴰ
use mathlib.Core.List.{List, [], ◌∷◌, ◌++◌, append_assoc, append-nil}
use lib.ListN.{length, take, drop}
use lib.Dec.{eqb}
use Rattle.automata.specs.Row.{Row, Below}
use Rattle.automata.specs.Closed.{Mem}
use Rattle.automata.specs.Rows.{select}
use Rattle.automata.specs.Checks.{has}
use Rattle.regions.specs.Order.{numbers}
use Rattle.edge_walk.specs.Choice.{Candidate, Ready, numbers_of}
use Rattle.edge_walk.specs.Stand.{start, Begun, Later, Ahead, Standing, Advance}
use Rattle.edge_walk.specs.Intervals.{Chosen}
use Rattle.edge_walk.specs.Way.{rows_on}
use Rattle.edge_walk.specs.declared.search.Search.{Search}
use Rattle.edge_walk.specs.declared.stand.Stand.{Stand}
use Rattle.edge_walk.specs.declared.way.Way.{Way}
use Rattle.calls.specs.RegionFile.{rows_bytes}
use Rattle.ranked_ways.specs.Allowed.{rows_allowed, rows_chosen}
use Rattle.following.specs.Writing.{Holds}
use Rattle.automata.proofs.Laws.Tests.{Says, never, eqb_law, not_law, fails, true_or_false}
use Rattle.automata.proofs.Laws.Checks.{has_law}
use Rattle.automata.proofs.Laws.Members.{select_in, select_out, Sorted, sorted_append, sorted_select}
use Rattle.automata.proofs.Laws.Ordered.{not_both_below}
use Rattle.edge_walk.proofs.Laws.Numbers.{before_at, before_below, count_numbers}
use Rattle.edge_walk.proofs.Laws.Stand.{none_ahead}
use Rattle.edge_walk.proofs.Laws.Along.{way_sorted, starts, start_on, on_start}
use Rattle.edge_walk.proofs.Laws.Intervals.{chosen_start}
use Rattle.ranked_ways.proofs.Laws.Allowed.{allowed_sorted}
use Rattle.ranked_ways.proofs.Laws.Chosen.{four_intervals, sized, begun_in, in_begun, in_ahead}
use Rattle.following.proofs.Laws.Put.{Put, Wrote, put_none, put_holds, put_more, put_room, rows_length}

-- lists that ascend --------------------------------------------------------------------------------------------------------------

-- two of them with the same members are the same
sorted_same : (xs ys : List Row) → Sorted Below xs → Sorted Below ys → ((x : Row) → Mem x xs → Mem x ys) → ((x : Row) → Mem x ys → Mem x xs) → xs ≡ ys
sorted_same [] [] s t to from = refl
sorted_same [] (y ∷ ys) s t to from = absurd (Memᴰ.not-nil (from y (Memᴰ.head refl)))
sorted_same (x ∷ xs) [] s t to from = absurd (Memᴰ.not-nil (to x (Memᴰ.head refl)))
sorted_same (x ∷ xs) (y ∷ ys) s t to from =
    go (λ e. sorted_same xs ys s.1 t.1 (λ z m. one e z m (Memᴰ.cases_cons (to z (Memᴰ.tail m)))) (λ z m. two e z m (Memᴰ.cases_cons (from z (Memᴰ.tail m)))))
    (Memᴰ.cases_cons (to x (Memᴰ.head refl))) (Memᴰ.cases_cons (from y (Memᴰ.head refl)))
  where
    one : x ≡ y → (z : Row) → Mem z xs → (z ≡ y) ⊎ Mem z ys → Mem z ys
    one e z m (inr k) = k
    one e z m (inl d) = let b : Below x x = subst (λ (w : Row). Below x w) (d ∙ sym e) (s.0 z m) in absurd (not_both_below x x b b)

    two : x ≡ y → (z : Row) → Mem z ys → (z ≡ x) ⊎ Mem z xs → Mem z xs
    two e z m (inr k) = k
    two e z m (inl d) = let b : Below y y = subst (λ (w : Row). Below y w) (d ∙ e) (t.0 z m) in absurd (not_both_below y y b b)

    same : x ≡ y → xs ≡ ys → x ∷ xs ≡ y ∷ ys
    same e f = λ i. e i ∷ f i

    go : (x ≡ y → xs ≡ ys) → (x ≡ y) ⊎ Mem x ys → (y ≡ x) ⊎ Mem y xs → x ∷ xs ≡ y ∷ ys
    go rest (inl e) k = same e (rest e)
    go rest (inr m) (inl e) = same (sym e) (rest (sym e))
    go rest (inr m) (inr k) = absurd (not_both_below x y (s.0 y k) (t.0 x m))

-- where all intervals are chosen -------------------------------------------------------------------------------------------------

module _ (s : Search) (ready : Ready s) (bounds : length s.clocks.bounds ≡ 4) (a : Stand) (four : length a.part.intervals ≡ 4)
    (all : a.depth ≡ 1 + s.clocks.count) (fresh : a.least ≡ 0) where
  abbrev n : ℕ
  n = s.clocks.count

  -- all others that are ahead are above them
  others_above : (x y : Row) → Mem x (rows_allowed s a.part) → Ahead s a y → (Begun s a y → ⊥) → Below x y
  others_above x y m q none = go q.later
    where
      here : Candidate s x × (x.location ≡ a.part.location) × Begun s a x
      here = in_begun s ready bounds a four all fresh x m

      alike : length (numbers x) ≡ length (numbers y)
      alike = count_numbers n x (sized s ready bounds a four all fresh x here.0).0 (sized s ready bounds a four all fresh x here.0).1 ∙ sym (count_numbers n y (sized s ready bounds a four all fresh y q.held).0 (sized s ready bounds a four all fresh y q.held).1)

      go : Later (numbers_of s a.part) a.depth a.least (numbers y) → Below x y
      go (inl (h, _)) = absurd (none h)
      go (inr (j, l, h, b)) =
          before_below x y ((sized s ready bounds a four all fresh x here.0).0 ∙ sym (sized s ready bounds a four all fresh y q.held).0)
          (before_at (numbers x) (numbers y) j alike (omega (arith, count_numbers n x (sized s ready bounds a four all fresh x here.0).0 (sized s ready bounds a four all fresh x here.0).1))
          (λ i k. here.2 i (omega arith) ∙ sym (h i k)) (omega (arith, here.2 j l)))

  -- so they are the first of what is ahead
  module _ (rest : List Row) (sorted : Sorted Below rest) (to : (x : Row) → Mem x rest → Ahead s a x) (from : (x : Row) → Ahead s a x → Mem x rest) where
    abbrev taken : List Row
    taken = rows_allowed s a.part

    abbrev left : List Row
    left = select (λ (x : Row). not (has taken x)) rest

    not_taken : (x : Row) → Mem x left → Mem x rest × (Mem x taken → ⊥)
    not_taken x m =
        let (k, t) = select_out (λ (x : Row). not (has taken x)) rest m in
        (k, λ h. never (sym ((not_law (has taken x)).0 t) ∙ (has_law taken x).1 h))

    left_sorted : Sorted Below left
    left_sorted = sorted_select Below (λ (x : Row). not (has taken x)) rest sorted

    taken_first : rest ≡ taken ++ left
    taken_first =
        sorted_same rest (taken ++ left) sorted
        (sorted_append Below taken left (allowed_sorted s a.part) left_sorted (λ x y m k. others_above x y m (to y (not_taken y k).0) (λ h. (not_taken y k).1 (begun_in s ready bounds a four all fresh y (to y (not_taken y k).0).held h))))
        (λ x m. split x m (true_or_false (has taken x))) (λ x m. join x (Memᴰ.append_cases taken m))
      where
        split : (x : Row) → Mem x rest → (has taken x ≡ true) ⊎ (has taken x ≡ false) → Mem x (taken ++ left)
        split x m (inl t) = Memᴰ.append_left {s = taken} left ((has_law taken x).0 t)
        split x m (inr t) = Memᴰ.append_right taken (select_in (λ (x : Row). not (has taken x)) m ((not_law (has taken x)).1 t))

        join : (x : Row) → Mem x taken ⊎ Mem x left → Mem x rest
        join x (inl m) = from x (in_ahead s ready bounds a four all fresh x m)
        join x (inr m) = (not_taken x m).0

    -- the others are ahead of the next stand
    module _ (b : Stand) (step : Advance s (λ x. (a.depth ≡ 1 + n) × Begun s a x) a b) where
      left_to : (x : Row) → Mem x left → Ahead s b x
      left_to x m = go (step.none_missed x (to x (not_taken x m).0))
        where
          go : ((a.depth ≡ 1 + n) × Begun s a x) ⊎ Ahead s b x → Ahead s b x
          go (inr q) = q
          go (inl (_, h)) = absurd ((not_taken x m).1 (begun_in s ready bounds a four all fresh x (to x (not_taken x m).0).held h))

      left_from : (x : Row) → Ahead s b x → Mem x left
      left_from x q =
          select_in (λ (x : Row). not (has taken x)) (from x (step.none_again x q))
          ((not_law (has taken x)).1 (fails (has taken x) (has_law taken x) (λ h. step.left_behind x (all, (in_begun s ready bounds a four all fresh x h).2) q)))

-- the walk along a way -----------------------------------------------------------------------------------------------------------

-- the rows in front are written, and the rest is what is ahead
pub record Taken (rows : List Row) (s : Search) (a : Stand) (o buffer : List ℕ) (place : ℕ) : Type 0 where
  pub front : List Row
  pub rest : List Row
  pub whole : rows ≡ front ++ rest
  pub sorted : Sorted Below rest
  pub to : (x : Row) → Mem x rest → Ahead s a x
  pub from : (x : Row) → Ahead s a x → Mem x rest
  pub written : Put front o buffer place
  pub standing : Standing s a
  pub chosen : Chosen s a

-- the rows of the way that a walk goes along which began there
abbrev pub rows_from : Search → Stand → List Row
rows_from s a = rows_on (record { target = a.part.location; search = s })

module _ (w : Way) (a : Stand) (e : a ≡ start w.target) where
  pub from_way : rows_from w.search a ≡ rows_on w
  from_way = ap (rows_from w.search) e

  pub none_taken : Ready w.search → (o : List ℕ) → Taken (rows_from w.search a) w.search a o o 0
  none_taken ready o =
      subst (λ (b : Stand). Taken (rows_from w.search b) w.search b o o 0) (sym e) (record {
        front = [];
        rest = rows_on w;
        whole = refl;
        sorted = way_sorted w ready;
        to = on_start w ready;
        from = start_on w ready;
        written = put_none o;
        standing = starts w ready;
        chosen = chosen_start w.search w.target;
      })

module _ (rows : List Row) (s : Search) (ready : Ready s) (bounds : length s.clocks.bounds ≡ 4) (a : Stand) (o buffer : List ℕ) (place : ℕ)
    (T : Taken rows s a o buffer place) where
  -- at the end all of them are
  pub all_taken : a.depth ≡ 0 → Wrote rows o buffer place
  all_taken e =
      subst (λ (l : List Row). Wrote l o buffer place) (sym (T.whole ∙ ap (λ (l : List Row). T.front ++ l) (none T.rest T.to) ∙ append-nil T.front))
      (put_holds T.front o buffer place T.written)
    where
      none : (xs : List Row) → ((x : Row) → Mem x xs → Ahead s a x) → xs ≡ []
      none [] to = refl
      none (x ∷ xs) to = absurd (none_ahead s ready bounds a T.standing e x (to x (Memᴰ.head refl)))

  abbrev four : length a.part.intervals ≡ 4
  four = four_intervals s ready a T.standing

  -- what is written here is a front of what is left
  front_of : (left : List Row) × (T.rest ≡ rows_chosen s a ++ left) × Sorted Below left
      × ((b : Stand) → Advance s (λ x. (a.depth ≡ 1 + s.clocks.count) × Begun s a x) a b → ((x : Row) → Mem x left → Ahead s b x) × ((x : Row) → Ahead s b x → Mem x left))
  unfolding rows_chosen
  front_of = go (eqb a.depth (1 + s.clocks.count)) (eqb_law a.depth (1 + s.clocks.count))
    where
      still : (b : Stand) → (a.depth ≡ 1 + s.clocks.count → ⊥) → (x : Row) → ((a.depth ≡ 1 + s.clocks.count) × Begun s a x) ⊎ Ahead s b x → Ahead s b x
      still b f x (inr q) = q
      still b f x (inl (e, _)) = absurd (f e)

      go : (t : Bool) → Says t (a.depth ≡ 1 + s.clocks.count)
          → (left : List Row) × (T.rest ≡ cond t (rows_allowed s a.part) [] ++ left) × Sorted Below left
          × ((b : Stand) → Advance s (λ x. (a.depth ≡ 1 + s.clocks.count) × Begun s a x) a b → ((x : Row) → Mem x left → Ahead s b x) × ((x : Row) → Ahead s b x → Mem x left))
      go true says =
          let e : a.depth ≡ 1 + s.clocks.count = says.0 refl in
          let f : a.least ≡ 0 = T.chosen.fresh e in (
            select (λ (x : Row). not (has (rows_allowed s a.part) x)) T.rest,
            taken_first s ready bounds a four e f T.rest T.sorted T.to T.from,
            left_sorted s ready bounds a four e f T.rest T.sorted T.to T.from,
            λ b step. (
              left_to s ready bounds a four e f T.rest T.sorted T.to T.from b step,
              left_from s ready bounds a four e f T.rest T.sorted T.to T.from b step,
            ),
          )
      go false says =
          let f : a.depth ≡ 1 + s.clocks.count → ⊥ = λ e. never (says.1 e) in
          (T.rest, refl, T.sorted, λ b step. (λ x m. still b f x (step.none_missed x (T.to x m)), λ x q. T.from x (step.none_again x q)))

  further : rows ≡ (T.front ++ rows_chosen s a) ++ front_of.0
  further = T.whole ∙ ap (λ (l : List Row). T.front ++ l) front_of.1 ∙ sym (append_assoc T.front (rows_chosen s a) front_of.0)

  module _ (room : length (rows_bytes rows) ≤ length o) where
    fits_in : length (rows_bytes (T.front ++ rows_chosen s a)) ≤ length o
    fits_in = omega (arith, ap (λ (l : List Row). length (rows_bytes l)) further, rows_length (T.front ++ rows_chosen s a) front_of.0, room)

    pub room_taken : place + length (rows_bytes (rows_chosen s a)) ≤ length buffer
    room_taken = put_room T.front o buffer place T.written (rows_chosen s a) fits_in

    pub more_taken : (b : Stand) → Advance s (λ x. (a.depth ≡ 1 + s.clocks.count) × Begun s a x) a b → Chosen s b
        → (w : List ℕ) → Holds (rows_chosen s a) (take (length buffer - place) (drop place buffer)) w
        → Taken rows s b o (take place buffer ++ (w ++ drop (length buffer - place) (drop place buffer))) (place + length (rows_bytes (rows_chosen s a)))
    more_taken b step chosen w h = record {
      front = T.front ++ rows_chosen s a;
      rest = front_of.0;
      whole = further;
      sorted = front_of.2;
      to = (front_of.3 b step).0;
      from = (front_of.3 b step).1;
      written = put_more T.front o buffer place T.written (rows_chosen s a) fits_in w h;
      standing = step.standing;
      chosen = chosen;
    }
