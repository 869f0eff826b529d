-- The rows that a list made from a table keeps: an ascending list of just those that next rows lead to outside final locations, all of them if they are
-- at most 4,096. If no final location is entered they are a closed list, else some run ends in one. Assumes nothing.
use Prim.Native.Nat.{ℕ, zero, suc, ◌+◌, ◌≤◌, ◌<◌}
use native.Mathlib.Decide.{dec_le}
use native.Mathlib.Omega.{arith}
use mathlib.Core.Path.{◌≡◌, refl, sym, ◌∙◌}
use mathlib.Core.Bool.{Bool, true, false, cond}
use mathlib.Core.Logic.{◌⊎◌, inl, inr, ◌↔◌}
use mathlib.Core.List.Memᴰ
use mathlib.Core.List.{List, [], ◌∷◌}
use lib.ListN.{length}
use lib.Dec.{eqb}
use Rattle.automata.specs.Row.{Row}
use Rattle.automata.specs.Automaton.{Table, Admitted, final}
use Rattle.automata.specs.Run.{Reached}
use Rattle.automata.specs.Closed.{Mem, Ascends, first_row, RowOf, Closed}
use Rattle.automata.specs.Rows.{gather}
use Rattle.automata.specs.Next.{Next, next_rows}
use Rattle.automata.specs.Meeting.{Met, origin, further, Successive}
use Rattle.automata.specs.Kept.{insert, keep, grown, grown_by, kept, enters, Kept, begun, added, Entered, at_once, later}
use Rattle.automata.proofs.Laws.Tests.{Says, never, true_or_false, fails, refutes, eqb_law, or_law, says}
use Rattle.automata.proofs.Laws.Members.{gather_in, gather_out}
use Rattle.automata.proofs.Laws.Next.{next_rows_law}
use Rattle.automata.proofs.Laws.Checks.{any_law}
use Rattle.automata.proofs.Laws.Insert.{insert_ascends, insert_in, insert_out, ascending_unique, ascending_fewer, ascending_full}
use Rattle.automata.proofs.Laws.Sound.{met_listed, sound}
use Rattle.automata.proofs.Laws.Complete.{reach_met, reached_by}

module _ (T : Table) where
  -- some rows put among others -------------------------------------------------------------------------------------------------------------

  -- the location is not final
  abbrev Outside : Row → Type 0
  Outside r = final T r.location ≡ false

  -- one more row: not kept, or put in
  keep_cases : (P : List Row → Type 0) (r : Row) (more rows : List Row) → (final T r.location ≡ true → P (keep T more rows))
      → (Outside r → P (insert r (keep T more rows))) → P (keep T (r ∷ more) rows)
  unfolding keep
  keep_cases P r more rows out into = go (final T r.location) refl
    where
      go : (b : Bool) → final T r.location ≡ b → P (cond b (keep T more rows) (insert r (keep T more rows)))
      go true e = out e
      go false e = into e

  keep_ascends : (more rows : List Row) → Ascends rows → Ascends (keep T more rows)
  unfolding keep
  keep_ascends [] rows a = a
  keep_ascends (r ∷ more) rows a = let h = keep_ascends more rows a in keep_cases Ascends r more rows (λ f. h) (λ o. insert_ascends r (keep T more rows) h)

  keep_old : (more rows : List Row) (a : Row) → Mem a rows → Mem a (keep T more rows)
  unfolding keep
  keep_old [] rows a m = m
  keep_old (r ∷ more) rows a m =
      let h = keep_old more rows a m in
      keep_cases (λ (l : List Row). Mem a l) r more rows (λ f. h) (λ o. insert_in r (keep T more rows) a (inr h))

  keep_new : (more rows : List Row) (a : Row) → Mem a more → Outside a → Mem a (keep T more rows)
  unfolding keep
  keep_new [] rows a m o = absurd (Memᴰ.not-nil m)
  keep_new (r ∷ more) rows a m o = go (Memᴰ.cases_cons m) (λ k. keep_new more rows a k o)
    where
      go : (a ≡ r) ⊎ Mem a more → (Mem a more → Mem a (keep T more rows)) → Mem a (keep T (r ∷ more) rows)
      go (inl e) others = keep_cases (λ (l : List Row). Mem a l) r more rows (λ f. never (sym (rw e at o) ∙ f)) (λ q. insert_in r (keep T more rows) a (inl e))
      go (inr k) others = keep_cases (λ (l : List Row). Mem a l) r more rows (λ f. others k) (λ q. insert_in r (keep T more rows) a (inr (others k)))

  keep_out : (more rows : List Row) (a : Row) → Mem a (keep T more rows) → (Mem a more × Outside a) ⊎ Mem a rows
  unfolding keep
  keep_out [] rows a m = inr m
  keep_out (r ∷ more) rows a m =
      keep_cases (λ (l : List Row). Mem a l → (Mem a (r ∷ more) × Outside a) ⊎ Mem a rows) r more rows
      (λ f k. others (keep_out more rows a k)) (λ o k. pick o (keep_out more rows a) (insert_out r (keep T more rows) a k)) m
    where
      others : (Mem a more × Outside a) ⊎ Mem a rows → (Mem a (r ∷ more) × Outside a) ⊎ Mem a rows
      others (inl (k, o)) = inl (Memᴰ.tail k, o)
      others (inr k) = inr k

      pick : Outside r → (Mem a (keep T more rows) → (Mem a more × Outside a) ⊎ Mem a rows) → (a ≡ r) ⊎ Mem a (keep T more rows)
          → (Mem a (r ∷ more) × Outside a) ⊎ Mem a rows
      pick o further_on (inl e) = inl (Memᴰ.head e, rw e o)
      pick o further_on (inr k) = others (further_on k)

  -- their next rows, once ------------------------------------------------------------------------------------------------------------------

  grown_ascends : (rows : List Row) → Ascends rows → Ascends (grown T rows)
  unfolding grown
  grown_ascends rows a = keep_ascends (gather (next_rows T) rows) rows a

  grown_old : (rows : List Row) (a : Row) → Mem a rows → Mem a (grown T rows)
  unfolding grown
  grown_old rows a m = keep_old (gather (next_rows T) rows) rows a m

  grown_new : (rows : List Row) (r s : Row) → Mem r rows → Mem s (next_rows T r) → Outside s → Mem s (grown T rows)
  unfolding grown
  grown_new rows r s m k o = keep_new (gather (next_rows T) rows) rows s (gather_in (next_rows T) m k) o

  grown_out : (rows : List Row) (s : Row) → Mem s (grown T rows) → ((r : Row) × Mem r rows × Mem s (next_rows T r) × Outside s) ⊎ Mem s rows
  unfolding grown
  grown_out rows s m = go (keep_out (gather (next_rows T) rows) rows s m)
    where
      go : (Mem s (gather (next_rows T) rows) × Outside s) ⊎ Mem s rows → ((r : Row) × Mem r rows × Mem s (next_rows T r) × Outside s) ⊎ Mem s rows
      go (inl (k, o)) = let (r, h, l) = gather_out (next_rows T) rows k in inl (r, h, l, o)
      go (inr k) = inr k

  -- so many times --------------------------------------------------------------------------------------------------------------------------

  -- one more time: none is added, or others are
  grown_by_cases : (P : List Row → Type 0) (times : ℕ) (rows : List Row) → (length (grown T rows) ≡ length rows → P rows)
      → ((length (grown T rows) ≡ length rows → ⊥) → P (grown_by T times (grown T rows))) → P (grown_by T (suc times) rows)
  unfolding grown_by
  grown_by_cases P times rows none some = go (eqb (length (grown T rows)) (length rows)) (eqb_law (length (grown T rows)) (length rows))
    where
      go : (b : Bool) → Says b (length (grown T rows) ≡ length rows) → P (cond b rows (grown_by T times (grown T rows)))
      go true l = none (l.0 refl)
      go false l = some (refutes false l refl)

  -- what the next rows keep true stays true
  grown_by_keeps : (P : List Row → Type 0) → ((rows : List Row) → P rows → P (grown T rows)) → (times : ℕ) (rows : List Row) → P rows → P (grown_by T times rows)
  unfolding grown_by
  grown_by_keeps P step zero rows p = p
  grown_by_keeps P step (suc times) rows p = grown_by_cases P times rows (λ e. p) (λ e. grown_by_keeps P step times (grown T rows) (step rows p))

  -- the next rows of these that are outside final locations are among them
  abbrev Settled : List Row → Type 0
  Settled rows = (r s : Row) → Mem r rows → Mem s (next_rows T r) → Outside s → Mem s rows

  -- none was added, or at least one every time
  grown_by_ends : (times : ℕ) (rows : List Row) → Ascends rows → Settled (grown_by T times rows) ⊎ (length rows + times ≤ length (grown_by T times rows))
  unfolding grown_by
  grown_by_ends zero rows a = inr (omega arith)
  grown_by_ends (suc times) rows a =
      grown_by_cases (λ (l : List Row). Settled l ⊎ (length rows + suc times ≤ length l)) times rows
      (λ e. inl (settled e)) (λ e. go e (grown_by_ends times (grown T rows) (grown_ascends rows a)))
    where
      settled : length (grown T rows) ≡ length rows → Settled rows
      settled e r s m k o = ascending_full rows (grown T rows) a (grown_old rows) (omega arith) s (grown_new rows r s m k o)

      go : (length (grown T rows) ≡ length rows → ⊥)
          → Settled (grown_by T times (grown T rows)) ⊎ (length (grown T rows) + times ≤ length (grown_by T times (grown T rows)))
          → Settled (grown_by T times (grown T rows)) ⊎ (length rows + suc times ≤ length (grown_by T times (grown T rows)))
      go e (inl t) = inl t
      go e (inr h) = let more : length rows ≤ length (grown T rows) = ascending_fewer rows (grown T rows) a (grown_old rows) in inr (omega arith)

  -- the kept rows --------------------------------------------------------------------------------------------------------------------------

  -- the initial row, if it is outside final locations
  abbrev start : List Row
  start = keep T (first_row T ∷ []) []

  start_ascends : Ascends start
  start_ascends = keep_ascends (first_row T ∷ []) [] tt

  start_one : final T T.initial ≡ false → length start ≡ 1
  unfolding keep
  start_one o = rw o refl

  pub kept_ascends : Ascends (kept T)
  unfolding kept
  kept_ascends = grown_by_keeps Ascends grown_ascends _ start start_ascends

  pub kept_sound : (r : Row) → Mem r (kept T) → Kept T r
  unfolding kept
  kept_sound = grown_by_keeps (λ (rows : List Row). (r : Row) → Mem r rows → Kept T r) step _ start first
    where
      first : (r : Row) → Mem r start → Kept T r
      first r m = go (keep_out (first_row T ∷ []) [] r m)
        where
          initial : Outside r → (r ≡ first_row T) ⊎ Mem r [] → Kept T r
          initial o (inl e) = rw e (begun (rw e at o))
          initial o (inr k) = absurd (Memᴰ.not-nil k)

          go : (Mem r (first_row T ∷ []) × Outside r) ⊎ Mem r [] → Kept T r
          go (inl (k, o)) = initial o (Memᴰ.cases_cons k)
          go (inr k) = absurd (Memᴰ.not-nil k)

      step : (rows : List Row) → ((r : Row) → Mem r rows → Kept T r) → (r : Row) → Mem r (grown T rows) → Kept T r
      step rows are s m = go (grown_out rows s m)
        where
          go : ((r : Row) × Mem r rows × Mem s (next_rows T r) × Outside s) ⊎ Mem s rows → Kept T s
          go (inl (r, k, l, o)) = added (are r k) l o
          go (inr k) = are s k

  kept_starts : final T T.initial ≡ false → Mem (first_row T) (kept T)
  unfolding kept
  kept_starts o =
      grown_by_keeps (λ (rows : List Row). Mem (first_row T) rows) (λ rows m. grown_old rows (first_row T) m) _ start
      (keep_new (first_row T ∷ []) [] (first_row T) (Memᴰ.head refl) o)

  -- so many times were enough, since each but the last added a row to the first
  enough : (times : ℕ) → 4096 ≤ times → final T T.initial ≡ false → length (grown_by T times start) ≤ 4096 → Settled (grown_by T times start)
  enough times many o few = go (grown_by_ends times start start_ascends)
    where
      go : Settled (grown_by T times start) ⊎ (length start + times ≤ length (grown_by T times start)) → Settled (grown_by T times start)
      go (inl s) = s
      go (inr h) = let one = start_one o in absurd (omega arith)

  kept_settled : final T T.initial ≡ false → length (kept T) ≤ 4096 → Settled (kept T)
  unfolding kept
  kept_settled o few = enough _ (omega arith) o few

  -- where a row is kept, the initial location is not final, nor is its own
  kept_begun : {r : Row} → Kept T r → final T T.initial ≡ false
  kept_begun (begun o) = o
  kept_begun (added k m o) = kept_begun k

  pub kept_outside : {r : Row} → Kept T r → final T r.location ≡ false
  kept_outside (begun o) = o
  kept_outside (added k m o) = o

  -- a list that has the initial row and the next rows of its rows, but for those in final locations, has every kept row
  pub kept_within : (rows : List Row) → (final T T.initial ≡ false → Mem (first_row T) rows) → Settled rows → (r : Row) → Kept T r → Mem r rows
  kept_within rows starts settled r (begun o) = starts o
  kept_within rows starts settled s (added {r = r} k m o) = settled r s (kept_within rows starts settled r k) m o

  pub kept_complete : length (kept T) ≤ 4096 → (r : Row) → Kept T r → Mem r (kept T)
  kept_complete few r k = kept_within (kept T) kept_starts (kept_settled (kept_begun k) few) r k

  -- any ascending list of just the kept rows is theirs, if it has at most 4,096
  pub kept_is : (rows : List Row) → Ascends rows → ((r : Row) → Mem r rows → Kept T r) → ((r : Row) → Kept T r → Mem r rows) → length rows ≤ 4096 → kept T ≡ rows
  kept_is rows a are all few =
      let fewer = ascending_fewer (kept T) rows kept_ascends (λ r m. all r (kept_sound r m)) in
      ascending_unique (kept T) rows kept_ascends a (λ r m. all r (kept_sound r m)) (λ r m. kept_complete (omega arith) r (are r m))

  -- any ascending list of kept rows has no more of them, or they are more than 4,096
  pub kept_most : (rows : List Row) → Ascends rows → ((r : Row) → Mem r rows → Kept T r) → (length rows ≤ length (kept T)) ⊎ (4096 < length (kept T))
  kept_most rows a are = go (dec_le (length (kept T)) 4096)
    where
      go : Dec (length (kept T) ≤ 4096) → (length rows ≤ length (kept T)) ⊎ (4096 < length (kept T))
      go (yes few) = inl (ascending_fewer rows (kept T) a (λ r m. kept_complete few r (are r m)))
      go (no many) = inr (omega arith)

  -- final locations that are entered -------------------------------------------------------------------------------------------------------

  -- one of some rows has a next row in a final location
  abbrev Leaves : List Row → Type 0
  Leaves rows = (r : Row) × Mem r rows × ((s : Row) × Mem s (next_rows T r) × (final T s.location ≡ true))

  pub enters_says : (rows : List Row) → (enters T rows ≡ true) ↔ ((final T T.initial ≡ true) ⊎ Leaves rows)
  unfolding enters
  enters_says rows = or_law _ _ (λ h. h, λ h. h) (any_law _ (λ r. any_law (λ (s : Row). final T s.location) (λ s. (λ h. h, λ h. h)) (next_rows T r)) rows)

  pub enters_law : length (kept T) ≤ 4096 → (enters T (kept T) ≡ true) ↔ Entered T
  enters_law few = says _ (enters_says (kept T)) (to, back)
    where
      to : (final T T.initial ≡ true) ⊎ Leaves (kept T) → Entered T
      to (inl e) = at_once e
      to (inr (r, m, (s, k, e))) = later (kept_sound r m) k e

      back : Entered T → (final T T.initial ≡ true) ⊎ Leaves (kept T)
      back (at_once e) = inl e
      back (later {r = r} {s = s} h k e) = inr (r, kept_complete few r h, (s, k, e))

  -- whoever notes just that knows what the test says
  pub enters_is : length (kept T) ≤ 4096 → (noted : Bool) → (noted ≡ true → Entered T) → (noted ≡ false → Entered T → ⊥) → enters T (kept T) ≡ noted
  enters_is few true it_is it_is_not = (enters_law few).1 (it_is refl)
  enters_is few false it_is it_is_not = fails _ (enters_law few) (it_is_not refl)

  -- none is entered where a list with all kept rows has no next row in one
  pub not_entered : (rows : List Row) → ((r : Row) → Kept T r → Mem r rows) → final T T.initial ≡ false
      → ((r s : Row) → Mem r rows → Mem s (next_rows T r) → Outside s) → Entered T → ⊥
  not_entered rows all o none (at_once e) = never (sym o ∙ e)
  not_entered rows all o none (later {r = r} {s = s} k m e) = never (sym (none r s (all r k) m) ∙ e)

  -- runs -----------------------------------------------------------------------------------------------------------------------------------

  pub kept_successive : {r : Row} → Kept T r → Successive T r
  kept_successive (begun o) = origin
  kept_successive (added k m o) = further (kept_successive k) m

  module _ (admitted : Admitted T) where
    -- a run comes to every kept row
    pub kept_met : {r : Row} → Kept T r → Met T r
    kept_met {r} k = reach_met T admitted r (kept_successive k)

    pub kept_row : {r : Row} → Kept T r → RowOf T r
    kept_row k = (kept_met k).row_of

    -- so every closed list has it, and at least as many rows
    pub kept_listed : (rows : List Row) → Closed T rows → {r : Row} → Kept T r → Mem r rows
    kept_listed rows closed {r} k = met_listed T rows closed r (kept_met k)

    pub kept_fewest : (rows : List Row) → Closed T rows → length (kept T) ≤ length rows
    kept_fewest rows closed = ascending_fewer (kept T) rows kept_ascends (λ r m. kept_listed rows closed (kept_sound r m))

    -- and a run ends in a final location that is entered
    pub entered_reached : Entered T → Reached T
    entered_reached (at_once e) = reached_by T admitted (first_row T) (reach_met T admitted (first_row T) origin) e
    entered_reached (later {s = s} k m e) = reached_by T admitted s (reach_met T admitted s (further (kept_successive k) m)) e

    module _ (few : length (kept T) ≤ 4096) where
      -- if none is entered, the kept rows are closed
      pub kept_closed : enters T (kept T) ≡ false → Closed T (kept T)
      kept_closed never_entered = record {
        ascends = kept_ascends;
        are_rows = λ r m. kept_row (kept_sound r m);
        starts = kept_complete few (first_row T) (begun (fails _ (λ e. e, λ e. e) (λ e. out (at_once e))));
        not_final = λ r m. kept_outside (kept_sound r m);
        waits = λ r r' m d. follow r r' m (inl d);
        leads = λ r r' i m h l. follow r r' m (inr (i, h, l));
      }
        where
          out : Entered T → ⊥
          out h = never (sym never_entered ∙ (enters_law few).1 h)

          follow : (r r' : Row) → Mem r (kept T) → Next T r r' → Mem r' (kept T)
          follow r r' m n =
              let k = kept_sound r m in
              let i = (next_rows_law T admitted r r' (kept_row k)).1 n in
              kept_complete few r' (added k i (fails _ (λ e. e, λ e. e) (λ e. out (later k i e))))

      -- so one is entered just where some run ends in one
      pub entered_law : (enters T (kept T) ≡ true) ↔ Reached T
      entered_law = (λ e. entered_reached ((enters_law few).0 e), λ g. go (true_or_false (enters T (kept T))) g)
        where
          go : (enters T (kept T) ≡ true) ⊎ (enters T (kept T) ≡ false) → Reached T → enters T (kept T) ≡ true
          go (inl e) g = e
          go (inr e) g = absurd (sound T (kept T) (kept_closed e) g)
