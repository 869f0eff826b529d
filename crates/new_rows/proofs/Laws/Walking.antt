-- The walk over ascending rows from a floor on, up to the first that a list lacks. Assumes nothing.
use Prim.Native.Nat.{ℕ, suc, ◌≤◌, ◌<◌}
use native.Mathlib.Omega.{arith}
use mathlib.Core.Path.{◌≡◌, refl, sym, ap, subst, ◌∙◌}
use mathlib.Core.Bool.{Bool, true, false, cond}
use mathlib.Core.Logic.{◌⊎◌, inl, inr}
use mathlib.Core.Option.{Option, none, some, some-injective, none-ne-some}
use mathlib.Core.List.Memᴰ
use mathlib.Core.List.{List, [], ◌∷◌}
use lib.ListN.{length}
use Rattle.automata.specs.Row.{Row, IsRow, Below}
use Rattle.automata.specs.Rows.{select}
use Rattle.automata.specs.Closed.{Mem}
use Rattle.automata.specs.Checks.{has, belowb}
use Rattle.regions.specs.Values.{bounds_of, row_of, sought, found_of}
use Rattle.regions.specs.declared.clocks.Clocks.{Clocks}
use Rattle.regions.specs.declared.region.Region.{Region}
use Rattle.std.specs.declared.option.Option as option_code
use Rattle.std.specs.Prelude.{None, Some}
use Rattle.edge_walk.specs.Walk.{above, first_above}
use Rattle.edge_walk.specs.Choice.{First}
use Rattle.edge_walk.specs.Way.{rows_on}
use Rattle.edge_walk.specs.declared.way.Way.{Way}
use Rattle.new_rows.specs.New.{NewOf}
use Rattle.automata.proofs.Laws.Tests.{never, fails}
use Rattle.automata.proofs.Laws.Members.{Sorted, select_in, select_out}
use Rattle.automata.proofs.Laws.Ordered.{below_trans, below_itself}
use Rattle.automata.proofs.Laws.Checks.{every_law, belowb_law}
use Rattle.regions.proofs.Laws.Values.{found_sought}
use Rattle.edge_walk.proofs.Laws.First.{Among}
use Rattle.edge_walk.proofs.Laws.Along.{way_sorted, on_start}
use Rattle.edge_walk.proofs.Laws.Ready.{ready_of}

-- the first above a floor -----------------------------------------------------------------------------------------------------------

-- it is the least of the rows above the floor
first_of : (floor : Option Row) (rows : List Row) → Sorted Below rows → First (Among floor rows) (first_above floor rows)
unfolding first_above
first_of floor [] s = λ x q. Memᴰ.not-nil q.0
first_of floor (r ∷ rows) s = go (above floor r) refl (first_above floor rows) (first_of floor rows s.1)
  where
    go : (b : Bool) → above floor r ≡ b → (o : Option Row) → First (Among floor rows) o → First (Among floor (r ∷ rows)) (cond b (some r) o)
    go true e o f = ((Memᴰ.head refl, e), λ x q. one x (Memᴰ.cases_cons q.0))
      where
        one : (x : Row) → (x ≡ r) ⊎ Mem x rows → (x ≡ r) ⊎ Below r x
        one x (inl d) = inl d
        one x (inr m) = inr (s.0 x m)
    go false e none f = λ x q. out x q.1 (Memᴰ.cases_cons q.0)
      where
        out : (x : Row) → above floor x ≡ true → (x ≡ r) ⊎ Mem x rows → ⊥
        out x h (inl d) = never (sym e ∙ ap (above floor) (sym d) ∙ h)
        out x h (inr m) = f x (m, h)
    go false e (some y) f = ((Memᴰ.tail f.0.0, f.0.1), λ x q. out x q.1 (Memᴰ.cases_cons q.0))
      where
        out : (x : Row) → above floor x ≡ true → (x ≡ r) ⊎ Mem x rows → (x ≡ y) ⊎ Below y x
        out x h (inl d) = never (sym e ∙ ap (above floor) (sym d) ∙ h)
        out x h (inr m) = f.1 x (m, h)

-- what is above a row that is above the floor is above the floor
above_on : (floor : Option Row) (y x : Row) → above floor y ≡ true → Below y x → above floor x ≡ true
above_on none y x h b = refl
above_on (some f) y x h b = (belowb_law f x).1 (below_trans f y x ((belowb_law f y).0 h) b)

-- fewer pass a test that is harder to pass, if one fails it that passes the other
module _ {A : Type 0} (p q : A → Bool) (harder : (x : A) → q x ≡ true → p x ≡ true) where
  no_more : (xs : List A) → length (select q xs) ≤ length (select p xs)
  no_more [] = omega arith
  no_more (x ∷ xs) = go (p x) (q x) (harder x) (no_more xs)
    where
      go : (a b : Bool) → (b ≡ true → a ≡ true) → length (select q xs) ≤ length (select p xs)
          → length (cond b (x ∷ select q xs) (select q xs)) ≤ length (cond a (x ∷ select p xs) (select p xs))
      go true true h l = omega arith
      go true false h l = omega arith
      go false true h l = never (h refl)
      go false false h l = l

  fewer_pass : (y : A) → p y ≡ true → q y ≡ false → (xs : List A) → Mem y xs → length (select q xs) < length (select p xs)
  fewer_pass y t f [] m = absurd (Memᴰ.not-nil m)
  fewer_pass y t f (x ∷ xs) m = split (fewer_pass y t f xs) (Memᴰ.cases_cons m)
    where
      go : (a b : Bool) → (b ≡ true → a ≡ true) → length (select q xs) < length (select p xs)
          → length (cond b (x ∷ select q xs) (select q xs)) < length (cond a (x ∷ select p xs) (select p xs))
      go true true h l = omega arith
      go true false h l = omega arith
      go false true h l = never (h refl)
      go false false h l = l

      split : (Mem y xs → length (select q xs) < length (select p xs)) → (y ≡ x) ⊎ Mem y xs → length (select q (x ∷ xs)) < length (select p (x ∷ xs))
      split below (inl e) = rw (ap p (sym e) ∙ t, ap q (sym e) ∙ f) (let l = no_more xs in omega arith)
      split below (inr k) = go (p x) (q x) (harder x) (below k)

-- the walk --------------------------------------------------------------------------------------------------------------------------

-- at most how many rows are left to be met, with the one that is met: none where none is
unfoldable pub rows_left : List Row → Option Row → ℕ
rows_left all none = 0
rows_left all (some y) = suc (length (select (belowb y) all))

-- what is known of a walk from the floor on where a row is met: it is one of the rows above the floor, and the list has those before it; if there is none, it
-- has all of them
abbrev pub Walked : List Row → List Row → Option Row → Option Row → Type 0
Walked all rows floor none = (x : Row) → Among floor all x → has rows x ≡ true
Walked all rows floor (some y) = Among floor all y × ((x : Row) → Among floor all x → (has rows x ≡ true) ⊎ ((x ≡ y) ⊎ Below y x))

module _ (all rows : List Row) (floor : Option Row) where
  -- from the floor on
  pub walk_start : (o : Option Row) → First (Among floor all) o → Walked all rows floor o
  walk_start none f = λ x q. absurd (f x q)
  walk_start (some y) f = (f.0, λ x q. inr (f.1 x q))

  -- one after the other, past a row that is listed
  module _ (y : Row) (W : Walked all rows floor (some y)) (h : has rows y ≡ true) where
    pub walk_on : (o : Option Row) → First (Among (some y) all) o → Walked all rows floor o
    walk_on none f = λ x q. go x q (W.1 x q)
      where
        go : (x : Row) → Among floor all x → (has rows x ≡ true) ⊎ ((x ≡ y) ⊎ Below y x) → has rows x ≡ true
        go x q (inl k) = k
        go x q (inr (inl d)) = ap (has rows) d ∙ h
        go x q (inr (inr l)) = absurd (f x (q.0, (belowb_law y x).1 l))
    walk_on (some y') f = let (m, u) = f.0 in ((m, above_on floor y y' W.0.1 ((belowb_law y y').0 u)), λ x q. go x q (W.1 x q))
      where
        go : (x : Row) → Among floor all x → (has rows x ≡ true) ⊎ ((x ≡ y) ⊎ Below y x) → (has rows x ≡ true) ⊎ ((x ≡ y') ⊎ Below y' x)
        go x q (inl k) = inl k
        go x q (inr (inl d)) = inl (ap (has rows) d ∙ h)
        go x q (inr (inr l)) = inr (f.1 x (q.0, (belowb_law y x).1 l))

  -- its end at a row that is not listed
  pub walk_new : (n : ℕ) (v : Region) → Walked all rows floor (some (row_of n v)) → has rows (row_of n v) ≡ false → NewOf n (select (above floor) all) rows (Some v)
  walk_new n v W h = (select_in (above floor) W.0.0 W.0.1, h)

  -- past all of them
  pub walk_over : (n : ℕ) → Walked all rows floor none → NewOf n (select (above floor) all) rows None
  walk_over n W = (every_law (has rows) (λ x. (λ h. h, λ h. h)) (select (above floor) all)).1 (λ x m. W x (select_out (above floor) all m))

-- the rows above the next are fewer
pub walk_fewer : (all : List Row) (y : Row) (o : Option Row) → First (Among (some y) all) o → rows_left all o < rows_left all (some y)
unfolding rows_left
walk_fewer all y none f = omega arith
walk_fewer all y (some y') f =
    let (m, u) = f.0 in
    let l = fewer_pass (belowb y) (belowb y') (λ x v. (belowb_law y x).1 (below_trans y y' x ((belowb_law y y').0 u) ((belowb_law y' x).0 v)))
    y' u (fails (belowb y' y') (belowb_law y' y') (below_itself y')) all m in
    omega arith

-- along a way -------------------------------------------------------------------------------------------------------------------------

module _ (w : Way) (k : Clocks) (e : w.search.clocks ≡ k) (long : length (bounds_of k) ≡ k.count) where
  -- its rows are rows of its clocks
  pub way_sized : (x : Row) → Mem x (rows_on w) → (length x.intervals ≡ k.count) × (length x.ranks ≡ k.count)
  way_sized x m =
      let j = subst (λ (k : Clocks). IsRow (bounds_of k) x) e (on_start w (ready_of w.search) x m).held.is_row in
      (j.intervals_length ∙ long, j.ranks_length ∙ long)

  -- what the walk meets past a floor is the least of its rows above it
  pub met : (floor o : option_code.Option Region) → o ≡ sought (first_above (found_of w.search.clocks.count floor) (rows_on w))
      → First (Among (found_of k.count floor) (rows_on w)) (found_of k.count o)
  met floor o m = subst (First (Among f (rows_on w))) (sym same) least
    where
      f : Option Row
      f = found_of k.count floor

      least : First (Among f (rows_on w)) (first_above f (rows_on w))
      least = first_of f (rows_on w) (way_sorted w (ready_of w.search))

      among : (o : Option Row) → First (Among f (rows_on w)) o → (x : Row) → o ≡ some x → Mem x (rows_on w)
      among none l x q = absurd (none-ne-some x q)
      among (some y) l x q = subst (λ (z : Row). Mem z (rows_on w)) (some-injective y x q) l.0.0

      same : found_of k.count o ≡ first_above f (rows_on w)
      same =
          ap (found_of k.count) (m ∙ ap (λ (c : Clocks). sought (first_above (found_of c.count floor) (rows_on w))) e)
          ∙ found_sought k.count (first_above f (rows_on w)) (λ x q. way_sized x (among (first_above f (rows_on w)) least x q))
