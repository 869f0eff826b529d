-- Rows that differ in their ranks alone stand together in an ascending list, and as many as there are rankings are all of them. Assumes nothing.
use Prim.Native.Nat.{ℕ, zero, suc, ◌+◌, ◌-◌, ◌≤◌, ◌<◌}
use native.Mathlib.Decide.{ℕ_discrete}
use native.Mathlib.Omega.{arith}
use mathlib.Core.Path.{◌≡◌, sym, ap, ◌∙◌}
use mathlib.Core.Bool.{Bool, true, false, cond, ◌&&◌}
use mathlib.Core.Logic.{inl, inr}
use mathlib.Core.List.{List, [], ◌∷◌, ◌++◌}
use lib.ListN.{length}
use lib.Dec.{eqb, leb, ltb, leb-suc-suc, leb-suc-zero}
use borrow.Author.Tests.{le-leb}
use Rattle.automata.specs.Row.{Row, IsRow, Below}
use Rattle.automata.specs.Closed.{Ascends}
use Rattle.automata.specs.Rankings.{open_clocks, rankings}
use Rattle.automata.specs.Checks.{same}
use Rattle.regions.specs.Order.{numbers, shared}
use Rattle.regions.specs.Values.{bounds_of, row_of}
use Rattle.regions.specs.declared.clocks.Clocks.{Clocks}
use Rattle.regions.specs.declared.region.Region.{Region}
use Rattle.automata.proofs.Laws.Tests.{Says, eqb_law, and_law, refutes}
use Rattle.automata.proofs.Laws.Checks.{same_law, belowb_law, has_law}
use Rattle.automata.proofs.Laws.Rankings.{all_rankings}
use Rattle.listed_rows.specs.Listed.{listed_row, listed_rows, Listed, Splits}
use Rattle.listed_rows.specs.Ranked.{besideb, AllRanked}
use Rattle.listed_rows.proofs.Laws.Listed.{listed_in, listed_rise}
use Rattle.listed_rows.proofs.Laws.ListedNumbers.{intervals_long}
use Rattle.regions.proofs.Laws.Values.{length_first, at_take}
use Rattle.rankings.specs.Ranking.{rows_ranked, InRange}
use Rattle.rankings.proofs.Laws.Ranking.{ranked_count}

-- how many regions have the same intervals ----------------------------------------------------------------------------------------

-- at least one, and few
few_ways : (w k : ℕ) → w ≡ rankings k → (1 ≤ w) × (w ≤ 75)
unfolding rankings
few_ways w zero e = (omega arith, omega arith)
few_ways w (suc zero) e = (omega arith, omega arith)
few_ways w (suc (suc zero)) e = (omega arith, omega arith)
few_ways w (suc (suc (suc zero))) e = (omega arith, omega arith)
few_ways w (suc (suc (suc (suc k)))) e = (omega arith, omega arith)

module _ (k : Clocks) (list : List ℕ) (count : ℕ) (L : Listed k list count) (part : Region) (four : length part.intervals ≡ 4)
    (within : InRange k part) (ways : ℕ) (e : ways ≡ length (rows_ranked k part)) where
  pub ranked_ways : ways ≡ rankings (open_clocks (bounds_of k) (row_of k.count part).intervals k.count)
  ranked_ways =
      e
      ∙ ranked_count (bounds_of k) part.location (row_of k.count part).intervals (length_first k.count part.intervals L.few.few four ∙ sym L.sized)
      (λ z h. let l : z < k.count = omega (arith, L.sized) in rw (at_take k.count k.bounds z l, at_take k.count part.intervals z l) (within z l))
      (omega (arith, L.sized, L.few.few))
      ∙ ap (λ (n : ℕ). rankings (open_clocks (bounds_of k) (row_of k.count part).intervals n)) L.sized

  pub few_ranked : (1 ≤ ways) × (ways ≤ 75)
  few_ranked = few_ways ways (open_clocks (bounds_of k) (row_of k.count part).intervals k.count) ranked_ways

-- rows side by side ----------------------------------------------------------------------------------------------------------------------

-- lists share their first parts where these are the same
shared_first : (us vs xs ys : List ℕ) → length xs ≡ length ys → leb (length xs) (shared (xs ++ us) (ys ++ vs)) ≡ same xs ys
unfolding shared
shared_first us vs [] [] e = le-leb 0 (shared us vs) (omega arith)
shared_first us vs [] (y ∷ ys) e = absurd (omega arith)
shared_first us vs (x ∷ xs) [] e = absurd (omega arith)
shared_first us vs (x ∷ xs) (y ∷ ys) e = go (eqb x y) (shared_first us vs xs ys (omega arith))
  where
    go : (b : Bool) → leb (length xs) (shared (xs ++ us) (ys ++ vs)) ≡ same xs ys
        → leb (suc (length xs)) (cond b (suc (shared (xs ++ us) (ys ++ vs))) 0) ≡ b && same xs ys
    go true h = leb-suc-suc (length xs) (shared (xs ++ us) (ys ++ vs)) ∙ h
    go false h = leb-suc-zero (length xs)

module _ (r s : Row) where
  pub beside_law : Says (besideb r s) ((r.location ≡ s.location) × (r.intervals ≡ s.intervals))
  unfolding besideb
  beside_law = and_law _ _ (eqb_law r.location s.location) (same_law r.intervals s.intervals)

  pub shared_beside : (n : ℕ) → length r.intervals ≡ n → length s.intervals ≡ n → ltb n (shared (numbers r) (numbers s)) ≡ besideb r s
  unfolding besideb
  shared_beside n p q = rw (← p) (shared_first r.ranks s.ranks (r.location ∷ r.intervals) (s.location ∷ s.intervals) (omega arith))

-- a listed row and a region of n clocks
pub listed_beside : (n : ℕ) (list : List ℕ) (i : ℕ) (w : Region) → n ≤ 4 → length w.intervals ≡ 4
    → ltb n (shared (numbers (listed_row n list i)) (numbers (row_of n w))) ≡ besideb (listed_row n list i) (row_of n w)
listed_beside n list i w few four = shared_beside (listed_row n list i) (row_of n w) n (intervals_long n list i) (length_first n w.intervals few four)

-- a row between two that stand side by side stands beside them
between : (w r s : Row) → (Below r w → ⊥) → Below r s → s.location ≡ w.location → s.intervals ≡ w.intervals
    → (r.location ≡ w.location) × (r.intervals ≡ w.intervals)
between w r s n (inl a) e f = absurd (n (inl (rw (← e) a)))
between w r s n (inr (d, inl a)) e f = absurd (n (inr (d ∙ e, inl (rw (← f) a))))
between w r s n (inr (d, inr (g, _))) e f = (d ∙ e, g ∙ f)

-- in a list ------------------------------------------------------------------------------------------------------------------------------

module _ (k : Clocks) (list : List ℕ) (count : ℕ) (L : Listed k list count) (a : Ascends (listed_rows k.count list count)) (w : Row) (m : ℕ)
    (S : Splits (listed_row k.count list) count w m) where
  abbrev n : ℕ
  n = k.count

  abbrev c : List ℕ
  c = bounds_of k

  abbrev row : ℕ → Row
  row = listed_row n list

  module _ (ways end : ℕ) (d : ways ≡ rankings (open_clocks c w.intervals n)) (e : end ≡ m + ways) (room : end ≤ count) (last : besideb (row (end - 1)) w ≡ true) where
    beside : (i : ℕ) → i < ways → ((row (m + i)).location ≡ w.location) × ((row (m + i)).intervals ≡ w.intervals)
    beside i h = go (ℕ_discrete (m + i) (end - 1))
      where
        known : ((row (end - 1)).location ≡ w.location) × ((row (end - 1)).intervals ≡ w.intervals)
        known = (beside_law (row (end - 1)) w).0 last

        go : Dec (m + i ≡ end - 1) → ((row (m + i)).location ≡ w.location) × ((row (m + i)).intervals ≡ w.intervals)
        go (yes q) = rw q known
        go (no q) =
            between w (row (m + i)) (row (end - 1)) (refutes _ (belowb_law (row (m + i)) w) (S.others (m + i) (omega arith) (omega arith)))
            (listed_rise n list count a (m + i) (end - 1) (omega arith) (omega arith)) known.0 known.1

    pub all_ranked : AllRanked c (listed_rows n list count) w
    all_ranked x ix p q =
        let (i, h, f) = all_rankings c (omega (arith, L.sized, L.few.few)) w.location w.intervals (λ (i : ℕ). row (m + i)) rise are x ix p q in
        let l : i < ways = omega (arith, many) in
        (has_law (listed_rows n list count) x).1 (rw f at (listed_in n list count (m + i) (omega arith)))
      where
        many : rankings (open_clocks c w.intervals (length c)) ≡ ways
        many = ap (λ (k : ℕ). rankings (open_clocks c w.intervals k)) L.sized ∙ sym d

        rise : (i j : ℕ) → i < j → j < rankings (open_clocks c w.intervals (length c)) → Below (row (m + i)) (row (m + j))
        rise i j h l = listed_rise n list count a (m + i) (m + j) (omega arith) (omega (arith, many))

        are : (i : ℕ) → i < rankings (open_clocks c w.intervals (length c))
            → IsRow c (row (m + i)) × ((row (m + i)).location ≡ w.location) × ((row (m + i)).intervals ≡ w.intervals)
        are i h =
            let l : i < ways = omega (arith, many) in
            let (p, q) = beside i l in
            (L.are_rows (m + i) (omega arith), p, q)
