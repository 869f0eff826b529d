-- Positions for the new ranks, as the code finds them: rank by rank, for the first m clocks. Assumes nothing.
use Prim.Native.Nat.{ℕ, zero, suc, ◌+◌, ◌*◌, ◌-◌, ◌≤◌, ◌<◌, ◌%◌}
use native.Mathlib.Numerals.{add-one}
use native.Mathlib.Decide.{dec_le, ℕ_discrete}
use native.Mathlib.Omega.{arith}
use mathlib.Core.Path.{◌≡◌, refl, sym, ◌∙◌}
use mathlib.Core.Bool.{Bool, true, false, cond, ◌&&◌}
use mathlib.Core.List.{List, [], ◌∷◌}
use lib.ListN.{length, get_or, take, length-take}
use lib.Seq.{take_all}
use lib.Dec.{leb}
use borrow.Author.Tests.{eq-eqb}
use Rattle.automata.specs.Clocks.{at, allb, greatest}
use Rattle.automata.specs.Row.{Row}
use Rattle.automata.specs.Edge.{Edge, idle, Bounded}
use Rattle.automata.specs.Successors.{clock_fits, rank_fits, least, greedy, placedb}
use Rattle.regions.specs.Move.{move_of, fits_at, permitsb}
use Rattle.regions.specs.Placing.{still, clock_fits_at, rank_fits_at, greedy_at, placed_at}
use Rattle.regions.specs.declared.clock_move.Move.{Move}
use Rattle.automata.proofs.Laws.Tests.{Says, and_law, leb_law, allb_law}
use Rattle.automata.proofs.Laws.Lists.{at_greatest}
use Rattle.regions.proofs.Laws.Values.{at_take}
use Rattle.automata.proofs.Laws.Leads.{Least, least_is}
use Rattle.regions.proofs.Laws.Move.{fits_permits, move_fits}

-- one clock
module _ (ms : List Move) (js ks : List ℕ) (a p z : ℕ) where
  pub its_rank : at ks z ≡ a → fits_at (get_or ms z still) (at js z) p ≡ clock_fits_at ms js ks a p z
  its_rank e = rw (eq-eqb (at ks z) a e)

-- one rank more
module _ (t : ℕ → ℕ → Bool) (g : ℕ) where
  pub greedy_more : (a p : ℕ) → p ≡ greedy_at t g a → least (t (a + 1)) (2 * g + 1 - (p + p % 2)) (p + p % 2) ≡ greedy_at t g (a + 1)
  unfolding greedy_at
  greedy_more a p e = rw (add-one a, e)

-- no position lies further than two past the last
pub least_bound : (t : ℕ → Bool) (n s : ℕ) → least t n s ≤ s + n
unfolding least
least_bound t zero s = omega arith
least_bound t (suc n) s = go (t s) (least_bound t n (suc s))
  where
    go : (b : Bool) → least t n (suc s) ≤ suc s + n → cond b s (least t n (suc s)) ≤ s + suc n
    go true h = omega arith
    go false h = omega arith

pub greedy_bound : (t : ℕ → ℕ → Bool) (g a : ℕ) → greedy_at t g a ≤ 2 * g + 2
unfolding greedy_at
greedy_bound t g zero = omega arith
greedy_bound t g (suc a) =
    let p : ℕ = greedy_at t g a in
    let h : p ≤ 2 * g + 2 = greedy_bound t g a in
    omega (arith, least_bound (t (suc a)) (2 * g + 1 - (p + p % 2)) (p + p % 2))

-- all ranks
module _ (ms : List Move) (g m : ℕ) (js ks : List ℕ) where
  pub not_placed : rank_fits_at ms m js ks 0 0 ≡ false → false ≡ placed_at ms g m js ks
  unfolding placed_at
  not_placed e = rw e

  pub is_placed : (k p : ℕ) → rank_fits_at ms m js ks 0 0 ≡ true → k ≡ greatest (take m ks) → p ≡ greedy_at (rank_fits_at ms m js ks) g k
      → leb p (2 * g) ≡ placed_at ms g m js ks
  unfolding placed_at
  is_placed k p e f h = rw (e, h, f)

-- fewer clocks ------------------------------------------------------------------------------------------------------------------------

-- the tests of two lists of clocks that are alike
pub allb_same : (n : ℕ) (f h : ℕ → Bool) → ((z : ℕ) → z < n → f z ≡ h z) → allb n f ≡ allb n h
unfolding allb
allb_same zero f h e = refl
allb_same (suc n) f h e = rw (allb_same n f h (λ z l. e z (omega arith)), e n (omega arith))

greatest_le : (ks : List ℕ) (g : ℕ) → ((z : ℕ) → z < length ks → at ks z ≤ g) → greatest ks ≤ g
greatest_le [] g h = omega arith
greatest_le (k ∷ ks) g h = omega (arith, h 0 (omega arith), greatest_le ks g (λ z l. h (suc z) (omega arith)))

-- a test that more passes has lesser positions
greedy_less : (t t' : ℕ → ℕ → Bool) (g : ℕ) → ((a p : ℕ) → t a p ≡ true → t' a p ≡ true) → (a : ℕ) → greedy_at t' g a ≤ greedy_at t g a
unfolding greedy_at
greedy_less t t' g h zero = omega arith
greedy_less t t' g h (suc a) =
    go (greedy_at t g a) (greedy_at t' g a) (greedy_less t t' g h a)
  where
    go : (p p' : ℕ) → p' ≤ p → least (t' (suc a)) (2 * g + 1 - (p' + p' % 2)) (p' + p' % 2) ≤ least (t (suc a)) (2 * g + 1 - (p + p % 2)) (p + p % 2)
    go p p' l = split (dec_le (s + n) q)
      where
        s : ℕ
        s = p + p % 2

        n : ℕ
        n = 2 * g + 1 - s

        q : ℕ
        q = least (t (suc a)) n s

        is : Least (t (suc a)) n s q
        is = least_is (t (suc a)) n s

        split : Dec (s + n ≤ q) → least (t' (suc a)) (2 * g + 1 - (p' + p' % 2)) (p' + p' % 2) ≤ q
        split (yes k) = omega (arith, is.from, least_bound (t' (suc a)) (2 * g + 1 - (p' + p' % 2)) (p' + p' % 2))
        split (no k) =
            (least_is (t' (suc a)) (2 * g + 1 - (p' + p' % 2)) (p' + p' % 2)).first q (omega (arith, is.from)) (omega (arith, is.from))
            (h (suc a) q (is.passes (omega arith)))

greedy_rising : (t : ℕ → ℕ → Bool) (g a b : ℕ) → a ≤ b → greedy_at t g a ≤ greedy_at t g b
unfolding greedy_at
greedy_rising t g a zero h = let e : a ≡ 0 = omega arith in rw e (omega arith)
greedy_rising t g a (suc b) h = go (ℕ_discrete a (suc b)) (greedy_rising t g a b)
  where
    p : ℕ
    p = greedy_at t g b

    go : Dec (a ≡ suc b) → (a ≤ b → greedy_at t g a ≤ p) → greedy_at t g a ≤ greedy_at t g (suc b)
    go (yes e) below = rw e (omega arith)
    go (no e) below = omega (arith, below (omega arith), (least_is (t (suc b)) (2 * g + 1 - (p + p % 2)) (p + p % 2)).from)

-- what is placed is placed for its first m clocks
module _ (ms : List Move) (g n m : ℕ) (js ks js' ks' : List ℕ) (l : m ≤ n)
    (alike : (z : ℕ) → z < m → (at js z ≡ at js' z) × (at ks z ≡ at ks' z)) where
  rank_fits_less : (a p : ℕ) → rank_fits_at ms n js ks a p ≡ true → rank_fits_at ms m js' ks' a p ≡ true
  unfolding rank_fits_at
  rank_fits_less a p h =
      (allb_law m (clock_fits_at ms js' ks' a p) (λ z. (λ e. e, λ e. e))).1
      (λ z k. rw ((alike z k).0, (alike z k).1) at ((allb_law n (clock_fits_at ms js ks a p) (λ z. (λ e. e, λ e. e))).0 h z (omega arith)))

  ranks_less : greatest (take m ks') ≤ greatest (take n ks)
  ranks_less =
      greatest_le (take m ks') (greatest (take n ks))
      (λ z k. let h : z < m = omega (arith, length-take m ks') in
      omega (arith, at_take m ks' z h, at_take n ks z (omega arith), (alike z h).1, at_greatest (take n ks) z))

  pub placed_less : placed_at ms g n js ks ≡ true → placed_at ms g m js' ks' ≡ true
  unfolding placed_at
  placed_less h =
      let (fits, low) = (both (rank_fits_at ms n js ks 0 0) (greedy_at (rank_fits_at ms n js ks) g (greatest (take n ks)))).0 h in
      (both (rank_fits_at ms m js' ks' 0 0) (greedy_at (rank_fits_at ms m js' ks') g (greatest (take m ks')))).1 (
        rank_fits_less 0 0 fits,
        omega (
          arith,
          greedy_less (rank_fits_at ms n js ks) (rank_fits_at ms m js' ks') g rank_fits_less (greatest (take n ks)),
          greedy_rising (rank_fits_at ms m js' ks') g (greatest (take m ks')) (greatest (take n ks)) ranks_less,
          low,
        ),
      )
    where
      both : (b : Bool) (p : ℕ) → Says (b && leb p (2 * g)) ((b ≡ true) × (p ≤ 2 * g))
      both b p = and_law b (leb p (2 * g)) (λ e. e, λ e. e) (leb_law p (2 * g))

-- what is placed fits somewhere
module _ (ms : List Move) (g n : ℕ) (js ks : List ℕ) (h : placed_at ms g n js ks ≡ true) where
  abbrev t : ℕ → ℕ → Bool
  t = rank_fits_at ms n js ks

  whole : (t 0 0 ≡ true) × (greedy_at t g (greatest (take n ks)) ≤ 2 * g)
  unfolding placed_at
  whole = (and_law (t 0 0) (leb (greedy_at t g (greatest (take n ks))) (2 * g)) (λ e. e, λ e. e) (leb_law (greedy_at t g (greatest (take n ks))) (2 * g))).0 h

  its_position : (a : ℕ) → a ≤ greatest (take n ks) → t a (greedy_at t g a) ≡ true
  unfolding greedy_at
  its_position zero l = whole.0
  its_position (suc a) l =
      let p : ℕ = greedy_at t g a in
      let low : least (t (suc a)) (2 * g + 1 - (p + p % 2)) (p + p % 2) ≤ 2 * g
      = omega (arith, greedy_rising t g (suc a) (greatest (take n ks)) l, whole.1) in
      (least_is (t (suc a)) (2 * g + 1 - (p + p % 2)) (p + p % 2)).passes (omega arith)

  pub placed_permits : (z : ℕ) → z < n → permitsb (get_or ms z still) (at js z) ≡ true
  unfolding rank_fits_at
  placed_permits z l =
      let a : ℕ = at ks z in
      let low : a ≤ greatest (take n ks) = omega (arith, at_take n ks z l, at_greatest (take n ks) z) in
      let fits : clock_fits_at ms js ks a (greedy_at t g a) z ≡ true
      = (allb_law n (clock_fits_at ms js ks a (greedy_at t g a)) (λ z. (λ e. e, λ e. e))).0 (its_position a low) z l in
      fits_permits (get_or ms z still) (at js z) (greedy_at t g a) (its_rank ms js ks a (greedy_at t g a) z refl ∙ fits)

-- the moves of an edge ----------------------------------------------------------------------------------------------------------------

module _ (c : List ℕ) (e : Edge) (r x : Row) (B : Bounded c e) (long : length x.ranks ≡ length c) (ms : List Move)
    (moves : (z : ℕ) → z < length c → get_or ms z still ≡ move_of c r z (get_or e.updates z idle)) where
  clock_same : (z p : ℕ) → z < length c → clock_fits c e r x z p ≡ fits_at (get_or ms z still) (at x.intervals z) p
  unfolding clock_fits
  clock_same z p l = rw (moves z l) (sym (move_fits c r z (at x.intervals z) p (get_or e.updates z idle) (B.updates_in z l)))

  rank_same : (a p : ℕ) → rank_fits c e r x a p ≡ rank_fits_at ms (length c) x.intervals x.ranks a p
  unfolding rank_fits rank_fits_at
  rank_same a p = allb_same (length c) _ _ (λ z l. rw (clock_same z p l))

  greedy_same : (a : ℕ) → greedy c e r x a ≡ greedy_at (rank_fits_at ms (length c) x.intervals x.ranks) (greatest r.ranks) a
  unfolding greedy greedy_at
  greedy_same zero = refl
  greedy_same (suc a) =
      let t : rank_fits c e r x (suc a) ≡ rank_fits_at ms (length c) x.intervals x.ranks (suc a) = λ i p. rank_same (suc a) p i in
      rw (greedy_same a, t)

  -- the moves tell what the edge asks
  pub placed_same : placed_at ms (greatest r.ranks) (length c) x.intervals x.ranks ≡ placedb c e r x
  unfolding placed_at placedb
  placed_same = rw (take_all (length c) x.ranks (omega arith), rank_same 0 0, greedy_same (greatest x.ranks))
