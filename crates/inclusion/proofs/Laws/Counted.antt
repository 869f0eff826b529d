-- As many rows of an ascending list are on an edge's way as there are rows on it just if the list has all of them. Assumes nothing.
use Prim.Native.Nat.{ℕ, zero, suc, ◌+◌, ◌-◌, ◌≤◌, ◌<◌}
use native.Mathlib.Omega.{arith}
use mathlib.Core.Path.{◌≡◌, refl, sym, ap, ◌∙◌}
use mathlib.Core.Bool.{Bool, true, false, cond}
use mathlib.Core.Logic.{◌⊎◌, inl, inr}
use mathlib.Core.List.Memᴰ
use mathlib.Core.List.{List, [], ◌∷◌, map}
use lib.ListN.{length, get_or}
use lib.Dec.{eqb}
use Rattle.automata.specs.Clocks.{one_if}
use Rattle.automata.specs.Row.{Row, IsRow, Below}
use Rattle.automata.specs.Closed.{Mem, Ascends}
use Rattle.automata.specs.Rows.{from, select, rows_at}
use Rattle.automata.specs.Checks.{every, has}
use Rattle.automata.proofs.Laws.Tests.{never, fails, eqb_law}
use Rattle.automata.proofs.Laws.Members.{select_in, select_out, map_in, map_out, from_in, from_out, get_or_in, Sorted, sorted_select}
use Rattle.automata.proofs.Laws.Ordered.{below_trans, below_itself, sorted_at}
use Rattle.automata.proofs.Laws.Rankings.{all_of}
use Rattle.automata.proofs.Laws.Rows.{rows_at_in, rows_at_out, rows_at_sorted}
use Rattle.automata.proofs.Laws.Checks.{every_law, has_law}
use Rattle.regions.specs.Values.{bounds_of}
use Rattle.regions.specs.declared.clocks.Clocks.{Clocks}
use Rattle.edge_walk.specs.Choice.{allowsb}
use Rattle.edge_walk.specs.Way.{rows_on}
use Rattle.edge_walk.specs.declared.way.Way.{Way}
use Rattle.listed_rows.specs.Listed.{listed_row, listed_rows, Listed}
use Rattle.listed_rows.specs.Located.{Starts, Together}
use Rattle.inclusion.specs.Counted.{passing}
use Rattle.listed_rows.proofs.Laws.Listed.{listed_in, in_listed, listed_rise}
use Rattle.listed_rows.proofs.Laws.Located.{between}
use Rattle.std.specs.List.{filter, range_with_len}

-- sorted lists --------------------------------------------------------------------------------------------------------------------------

-- a sorted list whose elements another one has is no longer than that
sub_length : (ys xs : List Row) → Sorted Below ys → Sorted Below xs → ((a : Row) → Mem a xs → Mem a ys) → length xs ≤ length ys
sub_length ys [] sy sx m = omega arith
sub_length [] (x ∷ xs) sy sx m = absurd (Memᴰ.not-nil (m x (Memᴰ.head refl)))
sub_length (y ∷ ys) (x ∷ xs) sy sx m = go (Memᴰ.cases_cons (m x (Memᴰ.head refl))) (sub_length ys xs sy.1 sx.1) (sub_length ys (x ∷ xs) sy.1 sx)
  where
    -- what is above the first of the other is in its rest
    rest : (a : Row) → Below y a → (a ≡ y) ⊎ Mem a ys → Mem a ys
    rest a h (inl e) = absurd (below_itself y (rw e at h))
    rest a h (inr l) = l

    above : Mem x ys → (a : Row) → (a ≡ x) ⊎ Mem a xs → Mem a ys
    above l a (inl e) = rw e l
    above l a (inr q) = rest a (below_trans y x a (sy.0 x l) (sx.0 a q)) (Memᴰ.cases_cons (m a (Memᴰ.tail q)))

    go : (x ≡ y) ⊎ Mem x ys → (((a : Row) → Mem a xs → Mem a ys) → length xs ≤ length ys) → (((a : Row) → Mem a (x ∷ xs) → Mem a ys) → suc (length xs) ≤ length ys)
        → suc (length xs) ≤ suc (length ys)
    go (inl e) fewer all =
        let h : length xs ≤ length ys = fewer (λ a k. rest a (rw e at (sx.0 a k)) (Memᴰ.cases_cons (m a (Memᴰ.tail k)))) in
        omega arith
    go (inr l) fewer all = let h : suc (length xs) ≤ length ys = all (λ a k. above l a (Memᴰ.cases_cons k)) in omega arith

-- the rows that pass, as a list ------------------------------------------------------------------------------------------------------------

module _ (p : Row → Bool) (row : ℕ → Row) where
  passing_first : (m lo : ℕ) → passing p row lo (suc m) ≡ one_if (p (row lo)) + passing p row (lo + 1) m
  unfolding passing
  passing_first zero lo = let e : lo + 0 ≡ lo = omega arith in rw e (omega arith)
  passing_first (suc m) lo = let e : lo + suc m ≡ lo + 1 + m = omega arith in rw (passing_first m lo, e) (omega arith)

  kept_length : {A : Type 0} (b : Bool) (x : A) (xs : List A) → length (cond b (x ∷ xs) xs) ≡ one_if b + length xs
  kept_length true x xs = omega arith
  kept_length false x xs = omega arith

  passed_length : (m lo : ℕ) → length (select p (map row (from lo m))) ≡ passing p row lo m
  unfolding passing
  passed_length zero lo = refl
  passed_length (suc m) lo =
      kept_length (p (row lo)) (row lo) _
      ∙ ap (λ (k : ℕ). one_if (p (row lo)) + k) (passed_length m (lo + 1))
      ∙ sym (passing_first m lo)

  -- .. and as those of their numbers that `filter` leaves
  pub passed_numbers : (m lo : ℕ) → length (filter (λ i. p (row i)) (range_with_len lo m)) ≡ passing p row lo m
  unfolding passing
  passed_numbers zero lo = refl
  passed_numbers (suc m) lo =
      kept_length (p (row lo)) lo _
      ∙ ap (λ (k : ℕ). one_if (p (row lo)) + k) (passed_numbers m (lo + 1))
      ∙ sym (passing_first m lo)

-- a way's rows in a list -------------------------------------------------------------------------------------------------------------------

module _ (k : Clocks) (list : List ℕ) (count : ℕ) (L : Listed k list count) (a : Ascends (listed_rows k.count list count)) (p : Row → Bool) (target : ℕ)
    (start end : ℕ) (S : Starts k.count list count target start) (E : Together k.count list count start target end) where
  abbrev n : ℕ
  n = k.count

  abbrev row : ℕ → Row
  row = listed_row n list

  abbrev rows : List Row
  rows = listed_rows n list count

  -- the rows of the target that a test allows, as the moves of a way do
  abbrev way : List Row
  way = select p (rows_at (bounds_of k) target)

  -- those of the list
  abbrev met : List Row
  met = select p (map row (from start (end - start)))

  way_law : (x : Row) → Mem x way → ((x.location ≡ target) × IsRow (bounds_of k) x) × (p x ≡ true)
  way_law x m = let (h, t) = select_out p (rows_at (bounds_of k) target) m in (rows_at_out (bounds_of k) target x h, t)

  on_way : (x : Row) → x.location ≡ target → IsRow (bounds_of k) x → p x ≡ true → Mem x way
  on_way x l i t = select_in p {xs = rows_at (bounds_of k) target} (rows_at_in (bounds_of k) target x l i) t

  way_sorted : Sorted Below way
  way_sorted = sorted_select Below p (rows_at (bounds_of k) target) (rows_at_sorted (bounds_of k) target)

  met_law : (x : Row) → Mem x met → (i : ℕ) × (start ≤ i) × (i < end) × (row i ≡ x) × (p x ≡ true)
  met_law x m =
      let (h, t) = select_out p (map row (from start (end - start))) m in
      let (i, g, e) = map_out row (from start (end - start)) h in
      let (b, d) = from_out start (end - start) i g in
      (i, b, omega arith, sym e, t)

  in_met : (i : ℕ) → start ≤ i → i < end → p (row i) ≡ true → Mem (row i) met
  in_met i b d t = select_in p (map_in row (from_in start (end - start) i b (omega arith))) t

  met_sorted : Sorted Below met
  met_sorted = sorted_select Below p (map row (from start (end - start))) (go (end - start) start (omega (arith, E.from, E.within)))
    where
      go : (m lo : ℕ) → lo + m ≤ count → Sorted Below (map row (from lo m))
      go zero lo h = tt
      go (suc m) lo h = (λ y q. above y (map_out row (from (lo + 1) m) q), go m (lo + 1) (omega arith))
        where
          above : (y : Row) → (i : ℕ) × Mem i (from (lo + 1) m) × (y ≡ row i) → Below (row lo) y
          above y (i, q, e) = let (b, d) = from_out (lo + 1) m i q in rw e (listed_rise n list count a lo i (omega arith) (omega arith))

  met_on_way : (x : Row) → Mem x met → Mem x way
  met_on_way x m =
      let (i, b, d, e, t) = met_law x m in
      rw (← e) (on_way (row i) (E.all i b d) (L.are_rows i (omega (arith, E.within))) (rw (← e) at t))

  -- all of them are listed
  all_met : every (has rows) way ≡ true → length way ≤ length met
  all_met h = sub_length met way met_sorted way_sorted (λ x m. go x m (in_listed n list count x ((has_law rows x).0 ((every_law (has rows) (λ x. (λ e. e, λ e. e)) way).0 h x m))))
    where
      go : (x : Row) → Mem x way → (i : ℕ) × (i < count) × (row i ≡ x) → Mem x met
      go x m (i, l, e) =
          let ((d, _), t) = way_law x m in
          let (b, f) = between n list count target start end S E a i l (ap (λ (r : Row). r.location) e ∙ d) in
          rw (← e) (in_met i b f (rw (← e) at t))

  -- as many are listed as there are
  many_met : length met ≡ length way → every (has rows) way ≡ true
  many_met q = (every_law (has rows) (λ x. (λ e. e, λ e. e)) way).1 (λ x m. go x (all_of Below below_trans below_itself way way_sorted (λ (i : ℕ). get_or met i x) (rise x) (λ i h. met_on_way (get_or met i x) (get_or_in met i x (omega arith))) x m))
    where
      rise : (x : Row) (i j : ℕ) → i < j → j < length way → Below (get_or met i x) (get_or met j x)
      rise x i j h l = sorted_at met met_sorted x i j h (omega arith)

      go : (x : Row) → (i : ℕ) × (i < length way) × (get_or met i x ≡ x) → has rows x ≡ true
      go x (i, l, e) =
          let (j, b, d, f, t) = met_law (get_or met i x) (get_or_in met i x (omega arith)) in
          (has_law rows x).1 (rw (f ∙ e) at (listed_in n list count j (omega (arith, E.within))))

  pub all_counted : (found total : ℕ) → found ≡ passing p row start (end - start) → total ≡ length way → eqb found total ≡ every (has rows) way
  all_counted found total f t = go (every (has rows) way) refl
    where
      size : found ≡ length met
      size = f ∙ sym (passed_length p row (end - start) start)

      go : (b : Bool) → every (has rows) way ≡ b → eqb found total ≡ b
      go true h = (eqb_law found total).1 (omega (arith, size, t, all_met h, sub_length way met way_sorted met_sorted met_on_way))
      go false h = fails (eqb found total) (eqb_law found total) (λ e. never (sym h ∙ many_met (sym size ∙ e ∙ t)))

-- .. of a way that the code has
module _ (k : Clocks) (list : List ℕ) (count : ℕ) (L : Listed k list count) (a : Ascends (listed_rows k.count list count)) (w : Way) (same : w.search.clocks ≡ k)
    (start end : ℕ) (S : Starts k.count list count w.target start) (E : Together k.count list count start w.target end) where
  pub all_counted_on : (found total : ℕ) → found ≡ passing (allowsb w.search) (listed_row k.count list) start (end - start) → total ≡ length (rows_on w)
      → eqb found total ≡ every (has (listed_rows k.count list count)) (rows_on w)
  unfolding rows_on
  all_counted_on found total f t =
      let e : rows_on w ≡ select (allowsb w.search) (rows_at (bounds_of k) w.target) = λ i. select (allowsb w.search) (rows_at (bounds_of (same i)) w.target) in
      all_counted k list count L a (allowsb w.search) w.target start end S E found total f (t ∙ ap length e) ∙ sym (ap (every (has (listed_rows k.count list count))) e)
