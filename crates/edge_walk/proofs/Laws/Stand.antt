-- The steps of a walk: what is ahead before and after each of them, how many are left, and what is met. Assumes nothing.
use Prim.Native.Nat.{ℕ, zero, suc, ◌+◌, ◌*◌, ◌-◌, ◌≤◌, ◌<◌}
use native.Mathlib.Nat.{add-mul, one-mul, mul-le-mul_right}
use native.Mathlib.Decide.{ℕ_discrete}
use native.Mathlib.Omega.{arith}
use mathlib.Core.Path.{◌≡◌, refl, sym, ap, subst, ◌∙◌}
use mathlib.Core.Bool.{true, false}
use mathlib.Core.Logic.{◌⊎◌, inl, inr}
use mathlib.Core.Option.{some}
use mathlib.Core.List.{List}
use lib.ListN.{length, take, set, length-take, length-append, length-replicate}
use lib.Seq.{get_or-set_same, get_or-set_other, ext_get_or}
use Rattle.automata.specs.Clocks.{at}
use Rattle.automata.specs.Row.{Row, Below}
use Rattle.automata.specs.Rows.{isrowb}
use Rattle.regions.specs.Values.{bounds_of, row_of, padded, region_of}
use Rattle.regions.specs.Order.{numbers, put}
use Rattle.edge_walk.specs.Choice.{Agree, Candidate, First, Ready, numbers_of, stuckb, Skips, Ends}
use Rattle.edge_walk.specs.Stand.{back, Begun, Later, Ahead, Standing, tries, steps_behind, Advance}
use Rattle.regions.specs.declared.region.Region.{Region}
use Rattle.edge_walk.specs.declared.search.Search.{Search}
use Rattle.edge_walk.specs.declared.stand.Stand.{Stand}
use Rattle.automata.proofs.Laws.Tests.{never}
use Rattle.automata.proofs.Laws.Rows.{isrowb_law}
use Rattle.regions.proofs.Laws.Values.{at_take, length_first}
use Rattle.regions.proofs.Laws.Placing.{placed_less}
use Rattle.edge_walk.proofs.Laws.Numbers.{before_at, before_below, numbers_equal, count_numbers, put_numbers, put_plain}
use Rattle.edge_walk.proofs.Laws.Choice.{stuck_none, not_stuck, low_number}

-- numbers that agree with others, one of which is put ------------------------------------------------------------------------------------

module _ (ps : List ℕ) (i k : ℕ) (within : i < length ps) (xs : List ℕ) where
  here : at (set ps i k) i ≡ k
  here = get_or-set_same ps i k 0 within

  elsewhere : (j : ℕ) → j < i → at (set ps i k) j ≡ at ps j
  elsewhere j l = get_or-set_other ps i j k 0 (λ s. omega arith)

  agree_on : Agree i xs ps → at xs i ≡ k → Agree (i + 1) xs (set ps i k)
  agree_on a f j l = go (ℕ_discrete j i)
    where
      go : Dec (j ≡ i) → at xs j ≡ at (set ps i k) j
      go (yes s) = rw s (f ∙ sym here)
      go (no s) = a j (omega arith) ∙ sym (elsewhere j (omega arith))

  -- so many of them
  agree_put : (j : ℕ) → j ≤ i → Agree j xs ps → Agree j xs (set ps i k)
  agree_put j h a m l = a m l ∙ sym (elsewhere m (omega arith))

  agree_unput : (j : ℕ) → j ≤ i → Agree j xs (set ps i k) → Agree j xs ps
  agree_unput j h a m l = a m l ∙ elsewhere m (omega arith)

  -- what is ahead stays so with the least choice that is left
  later_on : Later ps i k xs → Later (set ps i k) (i + 1) 0 xs
  later_on (inl (a, h)) = go (ℕ_discrete (at xs i) k)
    where
      go : Dec (at xs i ≡ k) → Later (set ps i k) (i + 1) 0 xs
      go (yes e) = inl (agree_on a e, omega arith)
      go (no e) = inr (i, omega arith, agree_put i (omega arith) a, omega (arith, here))
  later_on (inr (j, l, a, h)) = inr (j, omega arith, agree_put j (omega arith) a, omega (arith, elsewhere j l))

  later_off : Later (set ps i k) (i + 1) 0 xs → Later ps i k xs
  later_off (inl (a, h)) = inl (agree_unput i (omega arith) (λ j l. a j (omega arith)), omega (arith, here, a i (omega arith)))
  later_off (inr (j, l, a, h)) = go (ℕ_discrete j i)
    where
      go : Dec (j ≡ i) → Later ps i k xs
      go (yes e) = inl (agree_unput i (omega arith) (rw e at a), omega (arith, here, rw e at h))
      go (no e) = inr (j, omega arith, agree_unput j (omega arith) a, omega (arith, elsewhere j (omega arith)))

-- what is ahead of a walk ----------------------------------------------------------------------------------------------------------------

module _ (ps xs : List ℕ) where
  later_begun : (i k : ℕ) → Agree i xs ps → Later ps i k xs → k ≤ at xs i
  later_begun i k a (inl (_, h)) = h
  later_begun i k a (inr (j, l, _, h)) = absurd (omega (arith, a j l))

  -- one number back
  pub later_back : (i j k : ℕ) → i ≡ j + 1 → Later ps i k xs → Agree i xs ps ⊎ Later ps j (at ps j + 1) xs
  later_back i j k e (inl (a, _)) = inl a
  later_back i j k e (inr (m, l, a, h)) = go (ℕ_discrete m j)
    where
      go : Dec (m ≡ j) → Agree i xs ps ⊎ Later ps j (at ps j + 1) xs
      go (yes q) = inr (inl (rw q at a, omega (arith, rw q at h)))
      go (no q) = inr (inr (m, omega arith, a, h))

  later_kept : (i j k : ℕ) → i ≡ j + 1 → Later ps j (at ps j + 1) xs → Later ps i k xs
  later_kept i j k e (inl (a, h)) = inr (j, omega arith, a, omega arith)
  later_kept i j k e (inr (m, l, a, h)) = inr (m, omega arith, a, h)

  -- what begins with the numbers chosen is not ahead one number back
  begun_behind : (i j : ℕ) → i ≡ j + 1 → Agree i xs ps → Later ps j (at ps j + 1) xs → ⊥
  begun_behind i j e a (inl (_, h)) = omega (arith, a j (omega arith))
  begun_behind i j e a (inr (m, l, _, h)) = omega (arith, a m (omega arith))

  -- other choices left
  later_skip : (i k m : ℕ) → (Agree i xs ps → k ≤ at xs i → m ≤ at xs i) → Later ps i k xs → Later ps i m xs
  later_skip i k m f (inl (a, h)) = inl (a, f a h)
  later_skip i k m f (inr l) = inr l

-- how many steps are left ----------------------------------------------------------------------------------------------------------------

tries_some : (m k : ℕ) → 1 ≤ tries m k
unfolding tries
tries_some zero k = omega arith
tries_some (suc m) k = omega arith

-- a choice takes one step more than those for the numbers after it
tries_less : (m k c : ℕ) → k ≤ c → c < 32768 → tries (suc m) (c + 1) + tries m 0 < tries (suc m) k
unfolding tries
tries_less m k c h l =
    let t : ℕ = 1 + tries m 0 in
    let a : ℕ = 32768 - (c + 1) in
    let p : (a + 1) * t ≤ (32768 - k) * t = mul-le-mul_right t (omega arith) in
    let q : (a + 1) * t ≡ a * t + t = rw (add-mul, one-mul) in
    omega arith

behind_one : (ps : List ℕ) (N i j : ℕ) → i ≡ j + 1 → steps_behind ps N i ≡ steps_behind ps N j + tries (N - j) (at ps j + 1)
unfolding steps_behind
behind_one ps N i j e = let f : i ≡ suc j = omega arith in rw f

behind_put : (ps : List ℕ) (N i k j : ℕ) → j ≤ i → steps_behind (set ps i k) N j ≡ steps_behind ps N j
unfolding steps_behind
behind_put ps N i k zero h = refl
behind_put ps N i k (suc j) h =
    let e : at (set ps i k) j ≡ at ps j = get_or-set_other ps i j k 0 (λ s. omega arith) in
    rw (e, behind_put ps N i k j (omega arith))

-- stands ---------------------------------------------------------------------------------------------------------------------------------

-- four numbers each
pub record Four (v : Region) : Type 0 where
  pub intervals : length v.intervals ≡ 4
  pub ranks : length v.ranks ≡ 4

padded_four : (n : ℕ) (xs : List ℕ) → n ≤ 4 → length (padded (take n xs)) ≡ 4
padded_four n xs h = rw (length-append, length-replicate, length-take) (omega arith)

plain_four : (n : ℕ) (v : Region) → n ≤ 4 → region_of (row_of n v) ≡ v → Four v
plain_four n v h e = record {
  intervals = sym (ap (λ (u : Region). length u.intervals) e) ∙ padded_four n v.intervals h;
  ranks = sym (ap (λ (u : Region). length u.ranks) e) ∙ padded_four n v.ranks h;
}

module _ (s : Search) (ready : Ready s) (four : length s.clocks.bounds ≡ 4) (a : Stand) (stand : Standing s a) where
  abbrev n : ℕ
  n = s.clocks.count

  abbrev ps : List ℕ
  ps = numbers_of s a.part

  fours : Four a.part
  fours = plain_four n a.part ready.few.few stand.plain

  long : length ps ≡ 1 + 2 * n
  long = count_numbers n (row_of n a.part) (length_first n a.part.intervals ready.few.few fours.intervals) (length_first n a.part.ranks ready.few.few fours.ranks)

  sized : (x : Row) → Candidate s x → (length x.intervals ≡ n) × (length x.ranks ≡ n)
  sized x q =
      let e = length_first n s.clocks.bounds ready.few.few four in
      (q.is_row.intervals_length ∙ e, q.is_row.ranks_length ∙ e)

  count : (x : Row) → Candidate s x → length (numbers x) ≡ 1 + 2 * n
  count x h = count_numbers n x (sized x h).0 (sized x h).1

  -- past the location there is nothing
  pub none_ahead : a.depth ≡ 0 → (x : Row) → Ahead s a x → ⊥
  none_ahead e x q = go (rw e at q.later)
    where
      go : Later ps 0 a.least (numbers x) → ⊥
      go (inl (_, h)) = omega (arith, q.located, stand.over e)
      go (inr (j, l, _, _)) = omega arith

  module _ (begun : 0 < a.depth) (Done : Row → Type 0) where
    -- a step back leaves what begins with the numbers chosen behind
    pub step_back : ((x : Row) → Ahead s a x → Begun s a x → Done x) → ((x : Row) → Done x → Begun s a x) → (b : Stand) → b ≡ back n a → Advance s Done a b
    step_back done alone b e = rw e (record {
      standing = record {
        plain = stand.plain;
        within = omega (arith, stand.within);
        over = λ z. rw z (omega arith);
        arrived = λ z. absurd (omega (arith, stand.within));
      };
      fewer = omega (arith, behind_one ps (1 + 2 * n) a.depth (a.depth - 1) (omega arith), tries_some (1 + 2 * n - a.depth) a.least);
      none_again = λ x q. record { held = q.held; located = q.located; later = later_kept ps (numbers x) a.depth (a.depth - 1) a.least (omega arith) q.later };
      left_behind = λ x d q. begun_behind ps (numbers x) a.depth (a.depth - 1) (omega arith) (alone x d) q.later;
      none_missed = λ x q. go x q (later_back ps (numbers x) a.depth (a.depth - 1) a.least (omega arith) q.later);
    })
      where
        go : (x : Row) → Ahead s a x → Begun s a x ⊎ Later ps (a.depth - 1) (at ps (a.depth - 1) + 1) (numbers x) → Done x ⊎ Ahead s (back n a) x
        go x q (inl h) = inl (done x q h)
        go x q (inr l) = inr (record { held = q.held; located = q.located; later = l })

    -- nothing is done, and no choice is left
    pub step_none : ((x : Row) → Done x → ⊥) → a.depth < 1 + 2 * n → 32767 < a.least → (b : Stand) → b ≡ back n a → Advance s Done a b
    step_none none within l =
        step_back
        (λ x q h. absurd (omega (
          arith,
          low_number s ready four a.part fours.intervals a.depth begun within x q.held h,
          later_begun ps (numbers x) a.depth a.least h q.later,
        ))) (λ x d. absurd (none x d))

    -- .. with the least choice c that is left
    module _ (none : (x : Row) → Done x → ⊥) (within : a.depth < 1 + 2 * n) (m c : ℕ) (ends : Ends s a.part a.depth m)
        (skips : Skips s a.part a.depth a.least c) where
      skipped : (x : Row) → Ahead s a x → Later ps a.depth c (numbers x)
      skipped x q = later_skip ps (numbers x) a.depth a.least c (λ h l. skips.over x q.held h l) q.later

      pub step_last : m < c → (b : Stand) → b ≡ back n a → Advance s Done a b
      step_last l =
          step_back
          (λ x q h. absurd (omega (arith, ends.all x q.held h, later_begun ps (numbers x) a.depth c h (skipped x q)))) (λ x d. absurd (none x d))

      -- the choice is taken
      module _ (l : c ≤ m) (further : Region) (e : further ≡ put n a.part a.depth c) where
        changed : numbers_of s further ≡ set ps a.depth c
        changed = rw e (put_numbers n a.part a.depth c ready.few.few fours.intervals fours.ranks begun within)

        same_location : further.location ≡ a.part.location
        same_location = ap (λ (xs : List ℕ). at xs 0) changed ∙ get_or-set_other ps a.depth 0 c 0 (λ z. omega arith)

        further_plain : region_of (row_of n further) ≡ further
        further_plain = rw e (put_plain n a.part a.depth c ready.few.few fours.intervals fours.ranks begun within stand.plain)

        low : c < 32768
        low = omega (arith, ends.low)

        left : tries (1 + 2 * n - a.depth) (c + 1) + tries (1 + 2 * n - (a.depth + 1)) 0 < tries (1 + 2 * n - a.depth) a.least
        left = let f : 1 + 2 * n - a.depth ≡ suc (1 + 2 * n - (a.depth + 1)) = omega arith in rw f (tries_less (1 + 2 * n - (a.depth + 1)) a.least c skips.on low)

        room : a.depth < length ps
        room = omega (arith, long)

        behind_further : steps_behind (set ps a.depth c) (1 + 2 * n) (a.depth + 1) ≡ steps_behind ps (1 + 2 * n) a.depth + tries (1 + 2 * n - a.depth) (c + 1)
        behind_further =
            behind_one (set ps a.depth c) (1 + 2 * n) (a.depth + 1) a.depth refl
            ∙ (λ i. behind_put ps (1 + 2 * n) a.depth c a.depth (omega arith) i + tries (1 + 2 * n - a.depth) (here ps a.depth c room ps i + 1))

        later_further : (x : Row) → Later ps a.depth c (numbers x) → Later (numbers_of s further) (a.depth + 1) 0 (numbers x)
        later_further x h = subst (λ (xs : List ℕ). Later xs (a.depth + 1) 0 (numbers x)) (sym changed) (later_on ps a.depth c room (numbers x) h)

        further_later : (x : Row) → Later (numbers_of s further) (a.depth + 1) 0 (numbers x) → Later ps a.depth c (numbers x)
        further_later x h = later_off ps a.depth c room (numbers x) (subst (λ (xs : List ℕ). Later xs (a.depth + 1) 0 (numbers x)) changed h)

        less : (x : Row) → Later ps a.depth c (numbers x) → Later ps a.depth a.least (numbers x)
        less x = later_skip ps (numbers x) a.depth c a.least (λ h k. omega (arith, skips.on))

        pub step_on : stuckb s further (a.depth + 1) ≡ false → Advance s Done a (record { part = further; depth = a.depth + 1; least = 0 })
        step_on f = record {
          standing = record {
            plain = further_plain;
            within = omega arith;
            over = λ z. absurd (omega arith);
            arrived = λ z. (refl, f);
          };
          fewer = rw changed (omega (arith, left, behind_further));
          none_again = λ x q. record { held = q.held; located = q.located ∙ same_location; later = less x (further_later x q.later) };
          left_behind = λ x d. absurd (none x d);
          none_missed = λ x q. inr (record { held = q.held; located = q.located ∙ sym same_location; later = later_further x (skipped x q) });
        }

        -- nothing can come of it
        pub step_past : stuckb s further (a.depth + 1) ≡ true → Advance s Done a (record { part = a.part; depth = a.depth; least = c + 1 })
        step_past f = record {
          standing = record {
            plain = stand.plain;
            within = stand.within;
            over = λ z. absurd (omega arith);
            arrived = λ z. absurd (omega arith);
          };
          fewer = omega (arith, left);
          none_again = λ x q. record { held = q.held; located = q.located; later = later_skip ps (numbers x) a.depth (c + 1) a.least (λ h k. omega (arith, skips.on)) q.later };
          left_behind = λ x d. absurd (none x d);
          none_missed = λ x q. inr (record { held = q.held; located = q.located; later = later_skip ps (numbers x) a.depth c (c + 1) (more x q) (skipped x q) });
        }
          where
            more : (x : Row) → Ahead s a x → Agree a.depth (numbers x) ps → c ≤ at (numbers x) a.depth → c + 1 ≤ at (numbers x) a.depth
            more x q h k = go (ℕ_discrete (at (numbers x) a.depth) c)
              where
                go : Dec (at (numbers x) a.depth ≡ c) → c + 1 ≤ at (numbers x) a.depth
                go (yes z) =
                    absurd (stuck_none s ready four further (plain_four n further ready.few.few further_plain).intervals (a.depth + 1) (omega arith) f x q.held
                    (subst (λ (xs : List ℕ). Agree (a.depth + 1) (numbers x) xs) (sym changed) (agree_on ps a.depth c room (numbers x) h z)))
                go (no z) = omega arith

  -- what is met ------------------------------------------------------------------------------------------------------------------------

  module _ (all : a.depth ≡ 1 + 2 * n) where
    -- the part alone begins with all of its numbers
    pub itself : (x : Row) → Candidate s x → Begun s a x → x ≡ row_of n a.part
    itself x q h =
        numbers_equal x (row_of n a.part) ((sized x q).0 ∙ sym (length_first n a.part.intervals ready.few.few fours.intervals))
        (ext_get_or 0 (numbers x) ps (count x q ∙ sym long) (λ j l. h j (omega (arith, count x q))))

    pub no_region : isrowb (bounds_of s.clocks) (row_of n a.part) ≡ false → (x : Row) → Ahead s a x → Begun s a x → ⊥
    no_region g x q h = never (sym g ∙ (isrowb_law (bounds_of s.clocks) (row_of n a.part)).1 (rw (itself x q.held h) at q.held.is_row))

    pub met : isrowb (bounds_of s.clocks) (row_of n a.part) ≡ true → Ahead s a (row_of n a.part)
    met g = record {
      held = record {
        is_row = (isrowb_law (bounds_of s.clocks) (row_of n a.part)).0 g;
        placed = placed_less s.moves.each s.moves.ranks n n a.part.intervals a.part.ranks (take n a.part.intervals) (take n a.part.ranks) (omega arith)
            (λ z l. (sym (at_take n a.part.intervals z l), sym (at_take n a.part.ranks z l)))
            (not_stuck s ready four a.part fours.intervals a.depth (stand.arrived all).1 all);
      };
      located = refl;
      later = inl (λ j l. refl, omega (arith, (stand.arrived all).0));
    }

    -- .. and it is the least that is ahead
    pub least_met : isrowb (bounds_of s.clocks) (row_of n a.part) ≡ true → First (Ahead s a) (some (row_of n a.part))
    least_met g = (met g, λ x q. go x q q.later)
      where
        go : (x : Row) → Ahead s a x → Later ps a.depth a.least (numbers x) → (x ≡ row_of n a.part) ⊎ Below (row_of n a.part) x
        go x q (inl (h, _)) = inl (itself x q.held h)
        go x q (inr (j, l, h, b)) =
            inr (before_below (row_of n a.part) x (length_first n a.part.intervals ready.few.few fours.intervals ∙ sym (sized x q.held).0)
            (before_at ps (numbers x) j (long ∙ sym (count x q.held)) (omega (arith, long)) (λ m k. sym (h m k)) b))

-- many steps -----------------------------------------------------------------------------------------------------------------------------

-- from a, where a walk began, it has come to b: what was ahead still is, or it is dealt with
pub record Reached (s : Search) (Dealt : Row → Type 0) (a b : Stand) : Type 0 where
  pub standing : Standing s b
  pub to : (x : Row) → Ahead s a x → Dealt x ⊎ Ahead s b x
  pub from : (x : Row) → Ahead s b x → Ahead s a x

pub sets_out : (s : Search) (Dealt : Row → Type 0) (a : Stand) → Standing s a → Reached s Dealt a a
sets_out s Dealt a stand = record { standing = stand; to = λ x q. inr q; from = λ x q. q }

pub goes_on : (s : Search) (Dealt Done : Row → Type 0) (a b c : Stand) → Reached s Dealt a b → Advance s Done b c → ((x : Row) → Ahead s b x → Done x → Dealt x)
    → Reached s Dealt a c
goes_on s Dealt Done a b c v step dealt = record { standing = step.standing; to = λ x q. go x (v.to x q); from = λ x q. v.from x (step.none_again x q) }
  where
    further : (x : Row) → Ahead s b x → Done x ⊎ Ahead s c x → Dealt x ⊎ Ahead s c x
    further x q (inl d) = inl (dealt x q d)
    further x q (inr r) = inr r

    go : (x : Row) → Dealt x ⊎ Ahead s b x → Dealt x ⊎ Ahead s c x
    go x (inl d) = inl d
    go x (inr q) = further x q (step.none_missed x q)
