-- The new intervals and the old ranks of a deterministic edge, as the code gathers them; and the region that it makes of them. Assumes nothing.
use Prim.Native.Nat.{ℕ, ◌+◌, ◌≤◌, ◌<◌, ◌%◌}
use native.Mathlib.Omega.{arith}
use mathlib.Core.Path.{◌≡◌, refl, sym, ap, ◌∙◌}
use mathlib.Core.Bool.{Bool, true, false, cond, ◌&&◌}
use mathlib.Core.Option.{Option, none, some}
use mathlib.Core.List.{List, [], ◌∷◌}
use lib.ListN.{length, get_or, take, set}
use lib.Dec.{eqb, ltb}
use borrow.Author.Tests.{lt-leb, le-leb}
use Rattle.automata.specs.Clocks.{at, each, allb}
use Rattle.automata.specs.Row.{Row, IsRow}
use Rattle.automata.specs.Edge.{Action, keep, constant, clock, Update, Edge, idle, Bounded}
use Rattle.automata.specs.Successors.{guardsb, held, edge_rows}
use Rattle.regions.specs.Move.{move_of}
use Rattle.regions.specs.Values.{bounds_of, row_of, region_of, padded, sought, update_of, edge_of}
use Rattle.regions.specs.Image.{deterministic, reachesb, moved_interval, moved_rank, edge_move, reaches_at, interval_at, rank_at, moved, dense, ranked, image}
use Rattle.regions.specs.declared.clocks.Clocks.{Clocks}
use Rattle.regions.specs.declared.region.Region.{Region}
use Rattle.std.specs.declared.option.Option as option_code
use Rattle.std.specs.declared.option.Option.TheVariants.{None, Some}
use Rattle.regions.specs.declared.edge.Edge as edge_code
use Rattle.regions.specs.declared.clock_move.Move.{Move}
use Rattle.automata.proofs.Laws.Tests.{never}
use Rattle.automata.proofs.Laws.Lists.{length_each, at_each}
use Rattle.automata.proofs.Laws.Ranks.{rank_le}
use Rattle.regions.proofs.Laws.Values.{length_bounds, allb_more, allb_fails, padded_next, at_padded, take_padded}
use Rattle.regions.proofs.Laws.Moves.{no_update, its_update}
use Rattle.regions.proofs.Laws.Dense.{length_dense}
use Rattle.regions.proofs.Laws.Image.{image_law}
use Rattle.regions.proofs.Laws.ImageTests.{dense_same}

-- what was moved ----------------------------------------------------------------------------------------------------------------------

module _ (c : List ℕ) (e : Edge) (r : Row) where
  record Moved (s : Row) : Type 0 where
    intervals : s.intervals ≡ each (length c) (interval_at c e r)
    ranks : s.ranks ≡ each (length c) (rank_at c e r)

  moved_out : (s : Row) → moved c e r ≡ some s → Moved s
  unfolding moved
  moved_out s q = go (allb (length c) (reaches_at c e r)) q
    where
      go : (b : Bool) → cond b (some (record { location = e.target; intervals = each (length c) (interval_at c e r); ranks = each (length c) (rank_at c e r) })) none ≡ some s → Moved s
      go true q =
          let p : record { location = e.target; intervals = each (length c) (interval_at c e r); ranks = each (length c) (rank_at c e r) } ≡ s = cc in
          record { intervals = ap (λ (x : Row). x.intervals) (sym p); ranks = ap (λ (x : Row). x.ranks) (sym p) }
      go false q = let z : ◌≡◌ {A = ℕ} 0 1 = cc in absurd (omega arith)

  -- a new part's old rank is one of the row's
  moved_rank_le : IsRow c r → (z : ℕ) → rank_at c e r z ≤ length c
  unfolding moved_rank
  moved_rank_le R z = go (ltb (interval_at c e r z) (edge_move c e r z).top && eqb (interval_at c e r z % 2) 1)
    where
      by : (u : Update) → (move_of c r z u).rank ≤ length c
      by u = act u.action
        where
          act : (a : Action) → (move_of c r z (record { action = a; comparison = u.comparison })).rank ≤ length c
          act keep = rank_le c r R z
          act (constant k) = omega arith
          act (clock y up down) = rank_le c r R y

      go : (b : Bool) → cond b (edge_move c e r z).rank 0 ≤ length c
      go true = by (get_or e.updates z idle)
      go false = omega arith

-- a region whose ranks were made dense is the row with dense ranks
ranked_row : (n : ℕ) (s : Row) (ks : List ℕ) → length s.intervals ≡ n → length s.ranks ≡ n → ks ≡ padded (dense (padded s.ranks) n)
    → row_of n (record { location = s.location; intervals = padded s.intervals; ranks = ks }) ≡ record { location = s.location; intervals = s.intervals; ranks = dense s.ranks n }
ranked_row n s ks a b q =
    let js : take n (padded s.intervals) ≡ s.intervals = take_padded n s.intervals a in
    let d : dense (padded s.ranks) n ≡ dense s.ranks n = dense_same (padded s.ranks) s.ranks n (at_padded s.ranks) in
    let rs : take n ks ≡ dense s.ranks n = rw (q, d) (take_padded n (dense s.ranks n) (length_dense s.ranks n)) in
    λ i. record { location = s.location; intervals = js i; ranks = rs i }

-- the code's values -------------------------------------------------------------------------------------------------------------------

module _ (k : Clocks) (v : Region) (e : edge_code.Edge) (few : k.count ≤ 4) (long : length k.bounds ≡ 4) (four : length e.updates ≡ 4) where
  abbrev C : List ℕ
  C = bounds_of k

  abbrev E : Edge
  E = edge_of k.count e

  abbrev r : Row
  r = row_of k.count v

  clocks : length C ≡ k.count
  clocks = length_bounds k few long

  module _ (z : ℕ) (l : z < k.count) (m : Move) (q : m ≡ move_of C r z (update_of (get_or e.updates z no_update))) where
    asked_is : m ≡ edge_move C E r z
    asked_is = q ∙ ap (move_of C r z) (sym (its_update k v e few four z l))

    -- a value below 0 decides
    pub below_zero : m.reference < m.shift → None ≡ sought (moved C E r)
    unfolding moved
    below_zero h =
        let b : reaches_at C E r z ≡ false = ap reachesb (sym asked_is) ∙ lt-leb m.shift m.reference h in
        rw (allb_fails (reaches_at C E r) (length C) z (omega (arith, clocks)) b)

    pub reached_next : allb z (reaches_at C E r) ≡ true → (m.reference < m.shift → ⊥) → allb (z + 1) (reaches_at C E r) ≡ true
    reached_next a h = allb_more (reaches_at C E r) z a (ap reachesb (sym asked_is) ∙ le-leb m.shift m.reference (omega arith))

    pub interval_next : (ys : List ℕ) (x : ℕ) → ys ≡ padded (each z (interval_at C E r)) → x ≡ moved_interval m → set ys z x ≡ padded (each (z + 1) (interval_at C E r))
    interval_next ys x p f = padded_next (interval_at C E r) z ys x (omega arith) p (f ∙ ap moved_interval asked_is)

    pub rank_next : (ys : List ℕ) (x : ℕ) → ys ≡ padded (each z (rank_at C E r)) → x ≡ moved_rank m → set ys z x ≡ padded (each (z + 1) (rank_at C E r))
    rank_next ys x p f = padded_next (rank_at C E r) z ys x (omega arith) p (f ∙ ap moved_rank asked_is)

  -- every clock has moved
  pub moved_is : (z : ℕ) → z ≤ k.count → (z < k.count → ⊥) → (js ks : List ℕ) → js ≡ padded (each z (interval_at C E r)) → ks ≡ padded (each z (rank_at C E r))
      → allb z (reaches_at C E r) ≡ true → Some (record { location = e.target; intervals = js; ranks = ks }) ≡ sought (moved C E r)
  unfolding moved
  moved_is z a b js ks p q h = let d : length C ≡ z = omega (arith, clocks) in rw (d, h, p, q)

  -- whether there is one, and which
  abbrev is_there : option_code.Option Region → Bool
  is_there None = false
  is_there (Some v) = true

  abbrev region_in : option_code.Option Region → Region → Region
  region_in None d = d
  region_in (Some v) d = v

  -- the old ranks are few
  pub ranks_few : IsRow C r → (v : Region) → Some v ≡ sought (moved C E r) → (z : ℕ) → z < k.count → at v.ranks z ≤ 4
  ranks_few R v f z l = go (moved C E r) refl
    where
      go : (o : Option Row) → moved C E r ≡ o → at v.ranks z ≤ 4
      go none h = never (sym (ap is_there (f ∙ ap sought h)))
      go (some w) h =
          let g : at v.ranks z ≡ at w.ranks z = ap (λ (x : option_code.Option Region). at (region_in x v).ranks z) (f ∙ ap sought h) ∙ at_padded w.ranks z in
          let i : at w.ranks z ≡ rank_at C E r z = ap (λ (ks : List ℕ). at ks z) (moved_out C E r w h).ranks ∙ at_each (length C) (rank_at C E r) z (omega (arith, clocks)) in
          omega (arith, moved_rank_le C E r R z, clocks)

  module _ (R : IsRow C r) (B : Bounded C E) (S : deterministic k.count E ≡ true) (at_source : r.location ≡ E.source) (guarded : guardsb r E.guards ≡ true) where
    is_image : edge_rows C E r ≡ held (ranked k.count (moved C E r))
    unfolding image
    is_image = rw clocks at (image_law C E r R B (rw clocks S) at_source guarded)

    -- no value, no row
    pub image_missing : None ≡ sought (moved C E r) → edge_rows C E r ≡ []
    image_missing f = go (moved C E r) refl
      where
        go : (o : Option Row) → moved C E r ≡ o → edge_rows C E r ≡ []
        go none h = is_image ∙ ap (λ (o : Option Row). held (ranked k.count o)) h
        go (some w) h = never (ap is_there (f ∙ ap sought h))

    -- dense ranks make the row
    pub image_found : (v : Region) → Some v ≡ sought (moved C E r) → (ks : List ℕ) → ks ≡ padded (dense v.ranks k.count)
        → edge_rows C E r ≡ held (some (row_of k.count (record { location = v.location; intervals = v.intervals; ranks = ks })))
    image_found v f ks q = go (moved C E r) refl
      where
        go : (o : Option Row) → moved C E r ≡ o → edge_rows C E r ≡ held (some (row_of k.count (record { location = v.location; intervals = v.intervals; ranks = ks })))
        go none h = never (sym (ap is_there (f ∙ ap sought h)))
        go (some w) h =
            let p : v ≡ region_of w = ap (λ (x : option_code.Option Region). region_in x v) (f ∙ ap sought h) in
            let i = moved_out C E r w h in
            let a : length w.intervals ≡ k.count = ap length i.intervals ∙ length_each (length C) (interval_at C E r) ∙ clocks in
            let b : length w.ranks ≡ k.count = ap length i.ranks ∙ length_each (length C) (rank_at C E r) ∙ clocks in
            let q' : ks ≡ padded (dense (padded w.ranks) k.count) = rw p at q in
            rw p (is_image ∙ ap (λ (o : Option Row). held (ranked k.count o)) h ∙ ap (λ (x : Row). x ∷ []) (sym (ranked_row k.count w ks a b q')))
