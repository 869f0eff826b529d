-- The choices for one number of a row: which of them no candidate has. Assumes nothing.
use Prim.Native.Nat.{ℕ, suc, ◌+◌, ◌*◌, ◌-◌, ◌≤◌, ◌<◌, max}
use native.Mathlib.Decide.{dec_le}
use native.Mathlib.Omega.{arith}
use mathlib.Core.Path.{◌≡◌, refl, sym, ap, ◌∙◌}
use mathlib.Core.Bool.{Bool, true, false, not}
use mathlib.Core.Logic.{◌⊎◌, inl, inr}
use mathlib.Core.List.{List}
use lib.ListN.{length, get_or, take}
use lib.Dec.{ltb}
use lib.Seq.{ext_get_or}
use borrow.Author.Tests.{lt-ltb, le-leb}
use Rattle.automata.specs.Clocks.{at, allb}
use Rattle.automata.specs.Row.{Row, Open}
use Rattle.automata.specs.Rows.{openb}
use Rattle.automata.specs.Rankings.{usedb}
use Rattle.automata.specs.Successors.{least}
use Rattle.regions.specs.Values.{bounds_of, row_of}
use Rattle.regions.specs.Order.{numbers}
use Rattle.regions.specs.Move.{permitsb}
use Rattle.regions.specs.Placing.{still, rank_fits_at, greedy_at, placed_at}
use Rattle.edge_walk.specs.Choice.{Agree, Candidate, Ready, numbers_of, room, stuckb, PassesOver, Skips, Ends}
use Rattle.regions.specs.declared.clock_move.Move.{Move}
use Rattle.regions.specs.declared.region.Region.{Region}
use Rattle.edge_walk.specs.declared.search.Search.{Search}
use Rattle.automata.proofs.Laws.Tests.{Says, never, true_or_false, refutes, ltb_law, not_law, and_law, and_false}
use Rattle.automata.proofs.Laws.Clocks.{openb_law}
use Rattle.automata.proofs.Laws.Ranks.{rank_room_few, rank_room_le, rank_fresh}
use Rattle.regions.proofs.Laws.Values.{at_take, length_first}
use Rattle.automata.proofs.Laws.Leads.{Least, least_is}
use Rattle.regions.proofs.Laws.Placing.{placed_permits, placed_less}
use Rattle.edge_walk.proofs.Laws.Numbers.{interval_number, rank_number}

-- number i of a row of n clocks
module _ (n : ℕ) (x : Row) (long : length x.intervals ≡ n) (i : ℕ) where
  at_interval : 0 < i → i ≤ n → at (numbers x) i ≡ at x.intervals (i - 1)
  at_interval b h = let e : i ≡ suc (i - 1) = omega arith in ap (at (numbers x)) e ∙ interval_number n x long (i - 1) (omega arith)

  at_rank : n < i → at (numbers x) i ≡ at x.ranks (i - 1 - n)
  at_rank h = let e : i ≡ suc (n + (i - 1 - n)) = omega arith in ap (at (numbers x)) e ∙ rank_number n x long (i - 1 - n)

module _ (s : Search) (ready : Ready s) (four : length s.clocks.bounds ≡ 4) (part : Region) (four' : length part.intervals ≡ 4) (i : ℕ) where
  abbrev n : ℕ
  n = s.clocks.count

  abbrev c : List ℕ
  c = bounds_of s.clocks

  clocks_count : length c ≡ n
  clocks_count = length_first n s.clocks.bounds ready.few.few four

  its_length : (x : Row) → Candidate s x → length x.intervals ≡ n
  its_length x q = q.is_row.intervals_length ∙ clocks_count

  part_length : length (take n part.intervals) ≡ n
  part_length = length_first n part.intervals ready.few.few four'

  -- what is chosen is the part's
  module _ (x : Row) (q : Candidate s x) (a : Agree i (numbers x) (numbers_of s part)) (z : ℕ) (l : z < n) where
    same_interval : suc z < i → at x.intervals z ≡ at part.intervals z
    same_interval h =
        sym (interval_number n x (its_length x q) z l) ∙ a (suc z) h ∙ interval_number n (row_of n part) part_length z l ∙ at_take n part.intervals z l

    same_rank : suc (n + z) < i → at x.ranks z ≡ at part.ranks z
    same_rank h = sym (rank_number n x (its_length x q) z) ∙ a (suc (n + z)) h ∙ rank_number n (row_of n part) part_length z ∙ at_take n part.ranks z l

  -- positions for the ranks chosen so far ------------------------------------------------------------------------------------------------

  stuck_law : Says (stuckb s part i) ((n < i) × (placed_at s.moves.each s.moves.ranks (i - 1 - n) part.intervals part.ranks ≡ false))
  unfolding stuckb
  stuck_law = and_law _ _ (ltb_law n i) (not_law (placed_at s.moves.each s.moves.ranks (i - 1 - n) part.intervals part.ranks))

  pub stuck_none : i ≤ 1 + 2 * n → stuckb s part i ≡ true → (x : Row) → Candidate s x → Agree i (numbers x) (numbers_of s part) → ⊥
  stuck_none within e x q a =
      let (h, f) = stuck_law.0 e in
      let placed : placed_at s.moves.each s.moves.ranks (i - 1 - n) part.intervals part.ranks ≡ true
      = placed_less s.moves.each s.moves.ranks n (i - 1 - n) x.intervals x.ranks part.intervals part.ranks (omega arith)
      (λ z l. (same_interval x q a z (omega arith) (omega arith), same_rank x q a z (omega arith) (omega arith))) q.placed in
      never (sym f ∙ placed)

  pub not_stuck : stuckb s part i ≡ false → i ≡ 1 + 2 * n → placed_at s.moves.each s.moves.ranks n part.intervals part.ranks ≡ true
  not_stuck e f = go (true_or_false (placed_at s.moves.each s.moves.ranks n part.intervals part.ranks))
    where
      m : i - 1 - n ≡ n
      m = omega arith

      go : (placed_at s.moves.each s.moves.ranks n part.intervals part.ranks ≡ true) ⊎ (placed_at s.moves.each s.moves.ranks n part.intervals part.ranks ≡ false)
          → placed_at s.moves.each s.moves.ranks n part.intervals part.ranks ≡ true
      go (inl h) = h
      go (inr h) = absurd (refutes (stuckb s part i) stuck_law e (omega arith, rw m h))

  -- the choice of number i ---------------------------------------------------------------------------------------------------------------

  -- intervals
  module _ (begun : 0 < i) (h : i ≤ n) where
    abbrev m : Move
    m = get_or s.moves.each (i - 1) still

    in_range : (x : Row) → Candidate s x → at (numbers x) i ≤ m.top
    in_range x q =
        omega (
          arith,
          at_interval n x (its_length x q) i begun h,
          q.is_row.in_range (i - 1) (omega (arith, clocks_count)),
          at_take n s.clocks.bounds (i - 1) (omega arith),
          ready.tops (i - 1) (omega arith),
        )

    pub top_low : m.top ≤ 32767
    top_low = omega (arith, ready.tops (i - 1) (omega arith), ready.few.low (i - 1))

    pub interval_ends : Ends s part i m.top
    interval_ends = record { low = top_low; low_rank = λ l. absurd (omega arith); all = λ x q a. in_range x q }

    pub interval_skips : (k j : ℕ) → j ≡ least (permitsb m) (m.top + 1 - k) k → Skips s part i k j
    interval_skips k j e = record { on = omega (arith, is.from); over = over }
      where
        is : Least (permitsb m) (m.top + 1 - k) k j
        is = rw e (least_is (permitsb m) (m.top + 1 - k) k)

        over : (x : Row) → Candidate s x → Agree i (numbers x) (numbers_of s part) → k ≤ at (numbers x) i → j ≤ at (numbers x) i
        over x q a l =
            is.first (at (numbers x) i) l (omega (arith, in_range x q))
            (rw (at_interval n x (its_length x q) i begun h)
            (placed_permits s.moves.each s.moves.ranks n x.intervals x.ranks q.placed (i - 1) (omega arith)))

  -- ranks
  module _ (h : n < i) (within : i < 1 + 2 * n) where
    abbrev z : ℕ
    z = i - 1 - n

    abbrev inside : Bool
    inside = openb (at s.clocks.bounds z) (at part.intervals z)

    abbrev most : ℕ
    most = room s.clocks part z

    inside_law : (x : Row) → Candidate s x → Agree i (numbers x) (numbers_of s part) → Says inside (Open (at c z) (at x.intervals z))
    inside_law x q a =
        rw (same_interval x q a z (omega arith) (omega arith), at_take n s.clocks.bounds z (omega arith))
        (openb_law (at s.clocks.bounds z) (at part.intervals z))

    -- all intervals are chosen
    same_intervals : (x : Row) → Candidate s x → Agree i (numbers x) (numbers_of s part) → x.intervals ≡ take n part.intervals
    same_intervals x q a =
        ext_get_or 0 x.intervals (take n part.intervals) (its_length x q ∙ sym part_length)
        (λ w l. let k : w < n = omega (arith, its_length x q) in same_interval x q a w k (omega arith) ∙ sym (at_take n part.intervals w k))

    -- not open: rank 0
    pub rank_shut : inside ≡ false → Ends s part i 0
    rank_shut e = record { low = omega arith; low_rank = λ l. omega arith; all = all }
      where
        all : (x : Row) → Candidate s x → Agree i (numbers x) (numbers_of s part) → at (numbers x) i ≤ 0
        all x q a =
            let shut : at x.ranks z ≡ 0 = q.is_row.rank_shut z (omega (arith, clocks_count)) (refutes inside (inside_law x q a) e) in
            omega (arith, at_rank n x (its_length x q) i h)

    pub rank_ends : (k : ℕ) → inside ≡ true → k ≡ most → Ends s part i k
    rank_ends k e f = record { low = omega (arith, small); low_rank = λ l. small; all = λ x q a. omega (arith, at_rank n x (its_length x q) i h, limited x q a) }
      where
        small : k ≤ 4
        small = omega (arith, rank_room_few c (take n part.intervals) part.ranks z n, ready.few.few)

        limited : (x : Row) → Candidate s x → Agree i (numbers x) (numbers_of s part) → at x.ranks z ≤ most
        limited x q a =
            rw (same_intervals x q a, clocks_count) at (rank_room_le c x q.is_row part.ranks z (λ w l. same_rank x q a w (omega arith) (omega arith)) z)

    -- no rank that a clock before has, where one has the last there is room for
    fresh : (x : Row) → Candidate s x → Agree i (numbers x) (numbers_of s part) → inside ≡ true → usedb part.ranks z (room s.clocks part z) ≡ true
        → usedb part.ranks z (at x.ranks z) ≡ false
    fresh x q a e f =
        rank_fresh c x q.is_row part.ranks z (λ w l. same_rank x q a w (omega arith) (omega arith))
        ((openb_law (at c z) (at x.intervals z)).1 ((inside_law x q a).0 e)) (omega (arith, clocks_count))
        (rw (same_intervals x q a, clocks_count) f)

    pub rank_skips : (j k m : ℕ) → inside ≡ true → k ≡ max j 1 → PassesOver part.ranks z most k m → Skips s part i j m
    rank_skips j k m e f p = record { on = omega (arith, p.on); over = over }
      where
        over : (x : Row) → Candidate s x → Agree i (numbers x) (numbers_of s part) → j ≤ at (numbers x) i → m ≤ at (numbers x) i
        over x q a l = rw (at_rank n x (its_length x q) i h) (go (dec_le m (at x.ranks z)))
          where
            from : k ≤ at x.ranks z
            from = omega (arith, at_rank n x (its_length x q) i h, q.is_row.rank_open z (omega (arith, clocks_count)) ((inside_law x q a).0 e))

            go : Dec (m ≤ at x.ranks z) → m ≤ at x.ranks z
            go (yes d) = d
            go (no d) = never (sym (fresh x q a e (p.full (omega (arith, from)))) ∙ p.over (at x.ranks z) from (omega arith))

  -- either
  pub low_number : 0 < i → i < 1 + 2 * n → (x : Row) → Candidate s x → Agree i (numbers x) (numbers_of s part) → at (numbers x) i ≤ 32767
  low_number begun within x q a = go (dec_le i n)
    where
      go : Dec (i ≤ n) → at (numbers x) i ≤ 32767
      go (yes h) = omega (arith, in_range begun h x q, top_low begun h)
      go (no h) = by (true_or_false (inside (omega arith) within))
        where
          by : (inside (omega arith) within ≡ true) ⊎ (inside (omega arith) within ≡ false) → at (numbers x) i ≤ 32767
          by (inl t) = let e = rank_ends (omega arith) within _ t refl in omega (arith, e.all x q a, e.low)
          by (inr f) = omega (arith, (rank_shut (omega arith) within f).all x q a)

-- the code's tests
module _ (s : Search) (part : Region) (i : ℕ) where
  -- no rank is chosen yet
  pub not_yet : i ≤ s.clocks.count + 1 → false ≡ stuckb s part i
  unfolding stuckb placed_at rank_fits_at allb greedy_at
  not_yet h = let z : i - 1 - s.clocks.count ≡ 0 = omega arith in rw (z, le-leb 0 (2 * s.moves.ranks) (omega arith)) (sym (and_false (ltb s.clocks.count i)))

  pub stuck_is : (b : Bool) → s.clocks.count < i → b ≡ placed_at s.moves.each s.moves.ranks (i - 1 - s.clocks.count) part.intervals part.ranks
      → not b ≡ stuckb s part i
  unfolding stuckb
  stuck_is b h e = rw (lt-ltb s.clocks.count i h, ← e)
