-- The rows with the same intervals that the moves allow: which they are, and when all of them are allowed. Assumes nothing.
use Prim.Native.Nat.{ℕ, ◌+◌, ◌%◌}
use native.Mathlib.Omega.{arith}
use mathlib.Core.Path.{◌≡◌, refl, sym, ap, subst, ◌∙◌}
use mathlib.Core.Bool.{true, false, not, ◌&&◌}
use mathlib.Core.Logic.{◌⊎◌, inl, inr}
use mathlib.Core.List.{List, map}
use lib.ListN.{take}
use lib.Dec.{eqb}
use borrow.Author.Tests.{le-leb}
use Rattle.automata.specs.Row.{Row, Before, Below}
use Rattle.automata.specs.Closed.{Mem}
use Rattle.automata.specs.Rows.{isrowb, rank_lists}
use Rattle.regions.specs.Move.{fits_at, permitsb}
use Rattle.regions.specs.Values.{bounds_of}
use Rattle.regions.specs.declared.clock_move.Move.{Move}
use Rattle.regions.specs.declared.region.Region.{Region}
use Rattle.rankings.specs.Ranking.{ranked_rows, rows_ranked}
use Rattle.edge_walk.specs.Choice.{allowsb, Candidate}
use Rattle.edge_walk.specs.declared.search.Search.{Search}
use Rattle.ranked_ways.specs.Allowed.{rows_allowed, partedb}
use Rattle.automata.proofs.Laws.Tests.{never, true_or_false, refutes, eqb_law, and_law, not_law}
use Rattle.automata.proofs.Laws.Members.{map_in, map_out, select_in, select_out, Sorted, sorted_select, sorted_map}
use Rattle.automata.proofs.Laws.Rows.{isrowb_law, rank_lists_in, rank_lists_sorted}
use Rattle.regions.proofs.Laws.Move.{freeb, by_partsb, fits_free, fits_fixed, permits_free, permits_fixed}

-- which they are ---------------------------------------------------------------------------------------------------------------

module _ (s : Search) (part : Region) where
  abbrev n : ℕ
  n = s.clocks.count

  abbrev c : List ℕ
  c = bounds_of s.clocks

  abbrev js : List ℕ
  js = take n part.intervals

  abbrev row : List ℕ → Row
  row ks = record { location = part.location; intervals = js; ranks = ks }

  pub allowed_out : (x : Row) → Mem x (rows_allowed s part) → Candidate s x × (x.location ≡ part.location) × (x.intervals ≡ js)
  unfolding ranked_rows
  allowed_out x m =
      let (k, t) = select_out (allowsb s) (rows_ranked s.clocks part) m in
      let (i, u) = select_out (isrowb c) (map row (rank_lists c js)) k in
      let (ks, _, e) = map_out row (rank_lists c js) i in
      (record { is_row = (isrowb_law c x).0 u; placed = t }, ap (λ (r : Row). r.location) e, ap (λ (r : Row). r.intervals) e)

  pub allowed_in : (x : Row) → Candidate s x → x.location ≡ part.location → x.intervals ≡ js → Mem x (rows_allowed s part)
  unfolding ranked_rows
  allowed_in x q d e = select_in (allowsb s) (select_in (isrowb c) there ((isrowb_law c x).1 q.is_row)) q.placed
    where
      there : Mem x (map row (rank_lists c js))
      there =
          subst (λ (us : List ℕ). Mem x (map (λ (ks : List ℕ). record { location = part.location; intervals = us; ranks = ks }) (rank_lists c us))) e
          (subst (λ (l : ℕ). Mem x (map (λ (ks : List ℕ). record { location = l; intervals = x.intervals; ranks = ks }) (rank_lists c x.intervals))) d
          (map_in (λ (ks : List ℕ). record { location = x.location; intervals = x.intervals; ranks = ks }) (rank_lists_in c x q.is_row)))

  pub allowed_sorted : Sorted Below (rows_allowed s part)
  unfolding ranked_rows
  allowed_sorted =
      sorted_select Below (allowsb s) (rows_ranked s.clocks part)
      (sorted_select Below (isrowb c) (map row (rank_lists c js))
      (sorted_map Before Below row (λ ks ks' b. inr (refl, inr (refl, b))) (rank_lists c js) (rank_lists_sorted c js)))

-- whether all of them are ------------------------------------------------------------------------------------------------------

-- where the order is not that of the parts, an interval that is permitted is allowed at every position
pub loose_fits : (m : Move) (j p : ℕ) → permitsb m j ≡ true → partedb m j ≡ false → fits_at m j p ≡ true
unfolding partedb
loose_fits m j p h f = go (true_or_false (freeb m j)) (true_or_false (by_partsb m j))
  where
    go : (freeb m j ≡ true) ⊎ (freeb m j ≡ false) → (by_partsb m j ≡ true) ⊎ (by_partsb m j ≡ false) → fits_at m j p ≡ true
    go (inl a) b = sym (fits_free m j p a) ∙ permits_free m j a ∙ h
    go (inr a) (inr b) = sym (fits_fixed m j p a b) ∙ permits_fixed m j a b ∙ h
    go (inr a) (inl b) =
        let (e, _) = (and_law (eqb (j + m.shift) m.reference) (eqb (j % 2) 1) (eqb_law (j + m.shift) m.reference) (eqb_law (j % 2) 1)).0 b in
        absurd (refutes (not (eqb j m.top) && by_partsb m j) (and_law _ _ (not_law (eqb j m.top)) (λ (t : by_partsb m j ≡ true). t, λ (t : by_partsb m j ≡ true). t)) f (below e (true_or_false (eqb j m.top)), b))
      where
        below : j + m.shift ≡ m.reference → (eqb j m.top ≡ true) ⊎ (eqb j m.top ≡ false) → eqb j m.top ≡ false
        below e (inr t) = t
        below e (inl t) = never (sym a ∙ rw (t, le-leb (j + m.shift) m.reference (omega arith)))
