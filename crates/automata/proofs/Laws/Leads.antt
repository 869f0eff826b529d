-- The executable test `leadsb`, which places the new ranks greedily, is the law of edges. Assumes nothing.
use Prim.Native.Nat.{ℕ, zero, suc, ◌+◌, ◌*◌, ◌-◌, ◌≤◌, ◌<◌, ◌%◌}
use native.Mathlib.Omega.{arith}
use mathlib.Core.Path.{◌≡◌, refl, sym, ap, subst, ◌∙◌}
use mathlib.Core.Bool.{Bool, true, false, cond}
use mathlib.Core.List.{List}
use lib.ListN.{length}
use lib.Dec.{eqb}
use Rattle.automata.specs.Clocks.{at, greatest}
use Rattle.automata.specs.Row.{Row, IsRow}
use Rattle.automata.specs.Point.{Contains, scaled}
use Rattle.automata.specs.Edge.{Edge, Guarded, Allowed, Bounded, Leads}
use Rattle.automata.specs.Successors.{clock_fits, rank_fits, least, greedy, placedb, leadsb}
use Rattle.automata.proofs.Laws.Order.{Tri, is_lt, is_eq, is_gt, tri}
use Rattle.automata.proofs.Laws.Tests.{Says, never, eqb_law, leb_law, and_law, implies_law, says, allb_law}
use Rattle.automata.proofs.Laws.Lists.{at_greatest}
use Rattle.automata.proofs.Laws.Rows.{isrowb_law}
use Rattle.automata.proofs.Laws.Positions.{After}
use Rattle.automata.proofs.Laws.Edges.{Fitting, Placed, from_point, leads_placed, placed_leads}

-- what `least` finds ------------------------------------------------------------------------------------------------------------------------

pub record Least (t : ℕ → Bool) (n s l : ℕ) : Type 0 where
  pub from : s ≤ l
  pub passes : l < s + n → t l ≡ true
  pub first : (p : ℕ) → s ≤ p → p < s + n → t p ≡ true → l ≤ p

pub least_is : (t : ℕ → Bool) (n s : ℕ) → Least t n s (least t n s)
unfolding least
least_is t zero s = record { from = omega arith; passes = λ h. absurd (omega arith); first = λ p a b h. absurd (omega arith) }
least_is t (suc n) s = go (t s) refl (least_is t n (suc s))
  where
    go : (b : Bool) → t s ≡ b → Least t n (suc s) (least t n (suc s)) → Least t (suc n) s (cond (t s) s (least t n (suc s)))
    go true e ih = rw e (record { from = omega arith; passes = λ h. e; first = λ p a b h. a })
    go false e ih = rw e (record { from = omega (arith, ih.from); passes = λ h. ih.passes (omega arith); first = later })
      where
        later : (p : ℕ) → s ≤ p → p < s + suc n → t p ≡ true → least t n (suc s) ≤ p
        later p a b h = split (tri s p)
          where
            split : Tri s p → least t n (suc s) ≤ p
            split (is_lt k _) = ih.first p k (omega arith) h
            split (is_eq k _) = never (sym e ∙ ap t k ∙ h)
            split (is_gt k _) = absurd (omega arith)

-- greedy positions ----------------------------------------------------------------------------------------------------------------------

module _ (c : List ℕ) (e : Edge) (r r' : Row) where
  G : ℕ → ℕ
  G = greedy c e r r'

  rank_fits_law : (a p : ℕ) → Says (rank_fits c e r r' a p) ((z : ℕ) → z < length c → at r'.ranks z ≡ a → clock_fits c e r r' z p ≡ true)
  unfolding rank_fits
  rank_fits_law a p =
      allb_law (length c) _ (λ z. implies_law (eqb (at r'.ranks z) a) (clock_fits c e r r' z p) (eqb_law (at r'.ranks z) a) (λ h. h, λ h. h))

  step : (a : ℕ) → Least (rank_fits c e r r' (suc a)) (2 * greatest r.ranks + 1 - (G a + G a % 2)) (G a + G a % 2) (G (suc a))
  unfolding G greedy
  step a = least_is (rank_fits c e r r' (suc a)) (2 * greatest r.ranks + 1 - (G a + G a % 2)) (G a + G a % 2)

  -- a choice of positions lies at or above the greedy one
  above : (P : ℕ → ℕ) → Fitting c e r r' P → (a : ℕ) → a ≤ greatest r'.ranks → G a ≤ P a
  unfolding G greedy
  above P pl zero h = omega arith
  above P pl (suc a) h =
      let ih : G a ≤ P a = above P pl a (omega arith) in
      let o : After (P a) (P (suc a)) = pl.ordered a h in
      let b : P (suc a) ≤ 2 * greatest r.ranks = pl.bounded (suc a) h in
      (step a).first (P (suc a)) (omega arith) (omega arith)
      ((rank_fits_law (suc a) (P (suc a))).1 (λ z l q. subst (λ (n : ℕ). clock_fits c e r r' z (P n) ≡ true) q (pl.fitting z l)))

  -- the greedy positions go up
  rising : (a b : ℕ) → a ≤ b → G a ≤ G b
  rising a zero h = let q : a ≡ 0 = omega arith in let k : G a ≡ G 0 = ap G q in omega arith
  rising a (suc b) h = go (tri a (suc b)) (rising a b)
    where
      go : Tri a (suc b) → (a ≤ b → G a ≤ G b) → G a ≤ G (suc b)
      go (is_lt k _) ih = let x : G a ≤ G b = ih (omega arith) in omega (arith, (step b).from)
      go (is_eq k _) ih = let x : G a ≡ G (suc b) = ap G k in omega arith
      go (is_gt k _) ih = absurd (omega arith)

  placedb_law : Says (placedb c e r r') ((P : ℕ → ℕ) × Fitting c e r r' P)
  unfolding placedb greedy G
  placedb_law = says _ (and_law _ _ (rank_fits_law 0 0) (leb_law (G n) (2 * greatest r.ranks))) (λ t. (greedy c e r r', fitting t), λ t. fitted t.0 t.1)
    where
      n : ℕ
      n = greatest r'.ranks

      fitted : (P : ℕ → ℕ) → Fitting c e r r' P
          → ((z : ℕ) → z < length c → at r'.ranks z ≡ 0 → clock_fits c e r r' z 0 ≡ true) × (G n ≤ 2 * greatest r.ranks)
      fitted P pl = (
        λ z l q. subst (λ (n : ℕ). clock_fits c e r r' z n ≡ true) (ap P q ∙ pl.base) (pl.fitting z l),
        omega (arith, above P pl n (omega arith), pl.bounded n (omega arith)),
      )

      fitting : ((z : ℕ) → z < length c → at r'.ranks z ≡ 0 → clock_fits c e r r' z 0 ≡ true) × (G n ≤ 2 * greatest r.ranks) → Fitting c e r r' (greedy c e r r')
      fitting t = record { base = refl; ordered = λ a l. (step a).from; bounded = bounded; fitting = λ z l. at_rank (at r'.ranks z) z l refl }
        where
          bounded : (a : ℕ) → a ≤ n → G a ≤ 2 * greatest r.ranks
          bounded a l = omega (arith, rising a n l)

          at_rank : (a z : ℕ) → z < length c → at r'.ranks z ≡ a → clock_fits c e r r' z (G (at r'.ranks z)) ≡ true
          at_rank zero z l q = subst (λ (n : ℕ). clock_fits c e r r' z (G n) ≡ true) (sym q) (t.0 z l q)
          at_rank (suc a) z l q =
              let b : G (suc a) ≤ 2 * greatest r.ranks = bounded (suc a) (omega (arith, at_greatest r'.ranks z)) in
              let f : G a + G a % 2 ≤ G (suc a) = (step a).from in
              subst (λ (n : ℕ). clock_fits c e r r' z (G n) ≡ true) (sym q) ((rank_fits_law (suc a) (G (suc a))).0 ((step a).passes (omega arith)) z l q)

  leadsb_placed : Says (leadsb c e r r') (Placed c e r r')
  unfolding leadsb
  leadsb_placed =
      says _ (and_law _ _ (and_law _ _ (and_law _ _ (and_law _ _ (eqb_law r.location e.source) (eqb_law r'.location e.target))
      (λ h. h, λ h. h)) (isrowb_law c r')) placedb_law) (
        λ t. record { is_row = t.0.1; leaves = t.0.0.0.0; enters = t.0.0.0.1; guarded = t.0.0.1; places = t.1.0; placed = t.1.1 },
        λ p. ((((p.leaves, p.enters), p.guarded), p.is_row), (p.places, p.placed)),
      )

-- LEADS ---------------------------------------------------------------------------------------------------------------------------------

module _ (c : List ℕ) (e : Edge) (r r' : Row) (R : IsRow c r) (B : Bounded c e) where
  pub leads_law : Says (leadsb c e r r') (Leads c e r r')
  leads_law = says (leadsb c e r r') (leadsb_placed c e r r') (placed_leads c e r r' R B, leads_placed c e r r' R B)

  -- what leads from one point of the row leads from every point, in any unit k times finer
  pub from_any_point : Leads c e r r' → (D : ℕ) (v : List ℕ) → Contains c D v r → (k : ℕ) → 2 ≤ k → greatest r'.ranks < k
      → (v' : List ℕ) × Contains c (k * D) v' r' × Guarded (k * D) (scaled k v) e.guards × Allowed (k * D) (scaled k v) v' e.updates
  from_any_point l = from_point c e r r' R B (leads_placed c e r r' R B l)
