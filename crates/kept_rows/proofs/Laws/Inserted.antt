-- What a list in the making is after a row was put into its place. Assumes nothing.
use Prim.Native.Nat.{ℕ, zero, suc, ◌+◌, ◌*◌, ◌≤◌, ◌<◌}
use native.Mathlib.Numerals.{add-one}
use native.Mathlib.Decide.{ℕ_discrete}
use native.Mathlib.Omega.{arith}
use mathlib.Core.Path.{◌≡◌, sym, ◌∙◌}
use mathlib.Core.Bool.{false}
use mathlib.Core.Logic.{◌⊎◌, inl, inr, ◌↔◌}
use mathlib.Core.List.{List, map}
use lib.ListN.{length}
use Rattle.automata.specs.Row.{Row, IsRow, Below}
use Rattle.automata.specs.Closed.{Mem, Ascends}
use Rattle.automata.specs.Rows.{from}
use Rattle.automata.specs.Checks.{belowb, has}
use Rattle.automata.proofs.Laws.Insert.{below_total}
use Rattle.automata.proofs.Laws.Order.{Tri, is_lt, is_eq, is_gt, tri}
use Rattle.automata.proofs.Laws.Tests.{refutes}
use Rattle.automata.proofs.Laws.Checks.{belowb_law, has_law}
use Rattle.regions.specs.Values.{bounds_of}
use Rattle.regions.specs.declared.clocks.Clocks.{Clocks}
use Rattle.calls.specs.RegionFile.{row_width}
use Rattle.listed_rows.specs.Listed.{listed_row, listed_rows, Listed, Splits}
use Rattle.listed_rows.proofs.Laws.Listed.{listed_in, in_listed, listed_rise}
use Rattle.kept_rows.specs.Births.{birth}
use Rattle.kept_rows.specs.Inserted.{RowIs, SameRow, Inserted}

-- each below the next
ascends_from : (f : ℕ → Row) (a n : ℕ) → ((i : ℕ) → a ≤ i → suc i < a + n → Below (f i) (f (suc i))) → Ascends (map f (from a n))
ascends_from f a zero h = tt
ascends_from f a (suc zero) h = tt
ascends_from f a (suc (suc n)) h = (
  rw (add-one a) (h a (omega arith) (omega arith)),
  ascends_from f (a + 1) (suc n) (λ i l k. h i (omega arith) (omega arith)),
)

module _ (n : ℕ) (before : List ℕ) (count m : ℕ) (row : Row) (after : List ℕ) (I : Inserted n before count m row after) where
  -- where each row comes from ---------------------------------------------------------------------------------------------------------

  -- every row is the new one, born last, or one of the old ones
  pub inserted_births : (i : ℕ) → i < suc count → RowIs n after i row count ⊎ ((j : ℕ) × (j < count) × SameRow n after i before j)
  inserted_births i h = go i h (tri i m)
    where
      go : (i : ℕ) → i < suc count → Tri i m → RowIs n after i row count ⊎ ((j : ℕ) × (j < count) × SameRow n after i before j)
      go i h (is_lt l _) = inr (i, omega (arith, I.within), I.lower i l)
      go i h (is_eq e _) = inl (rw e I.here)
      go zero h (is_gt l _) = absurd (omega arith)
      go (suc j) h (is_gt l _) = inr (j, omega arith, I.upper j (omega arith) (omega arith))

  -- no old row is lost
  pub inserted_kept : (j : ℕ) → j < count → (i : ℕ) × (i < suc count) × SameRow n after i before j
  inserted_kept j h = go (tri j m)
    where
      go : Tri j m → (i : ℕ) × (i < suc count) × SameRow n after i before j
      go (is_lt l _) = (j, omega arith, I.lower j l)
      go (is_eq e _) = (suc j, omega arith, I.upper j (omega arith) h)
      go (is_gt l _) = (suc j, omega arith, I.upper j (omega arith) h)

  -- births stay below the count of rows
  pub inserted_low : ((j : ℕ) → j < count → birth n before j < count) → (i : ℕ) → i < suc count → birth n after i < suc count
  inserted_low low i h = go (inserted_births i h)
    where
      go : RowIs n after i row count ⊎ ((j : ℕ) × (j < count) × SameRow n after i before j) → birth n after i < suc count
      go (inl (_, b)) = omega arith
      go (inr (j, l, (_, b))) = omega (arith, b, low j l)

  -- every number below the count stays some row's birth
  pub inserted_born : ((b : ℕ) → b < count → (j : ℕ) × (j < count) × (birth n before j ≡ b)) → (b : ℕ) → b < suc count → (i : ℕ) × (i < suc count) × (birth n after i ≡ b)
  inserted_born born b h = go (ℕ_discrete b count)
    where
      go : Dec (b ≡ count) → (i : ℕ) × (i < suc count) × (birth n after i ≡ b)
      go (yes e) = (m, omega (arith, I.within), I.here.1 ∙ sym e)
      go (no e) =
          let (j, l, q) = born b (omega arith) in
          let (i, k, (_, s)) = inserted_kept j l in
          (i, k, s ∙ q)

  -- its rows --------------------------------------------------------------------------------------------------------------------------

  pub inserted_mem : (r : Row) → Mem r (listed_rows n after (suc count)) ↔ ((r ≡ row) ⊎ Mem r (listed_rows n before count))
  inserted_mem r = (old_or_new, here_too)
    where
      old_or_new : Mem r (listed_rows n after (suc count)) → (r ≡ row) ⊎ Mem r (listed_rows n before count)
      old_or_new k =
          let (i, l, e) = in_listed n after (suc count) r k in
          go i e (inserted_births i l)
        where
          go : (i : ℕ) → listed_row n after i ≡ r → RowIs n after i row count ⊎ ((j : ℕ) × (j < count) × SameRow n after i before j)
              → (r ≡ row) ⊎ Mem r (listed_rows n before count)
          go i e (inl (s, _)) = inl (sym e ∙ s)
          go i e (inr (j, l, (s, _))) = inr (rw (sym s ∙ e) at (listed_in n before count j l))

      here_too : (r ≡ row) ⊎ Mem r (listed_rows n before count) → Mem r (listed_rows n after (suc count))
      here_too (inl e) = rw (I.here.0 ∙ sym e) at (listed_in n after (suc count) m (omega (arith, I.within)))
      here_too (inr k) =
          let (j, l, e) = in_listed n before count r k in
          let (i, h, (s, _)) = inserted_kept j l in
          rw (s ∙ e) at (listed_in n after (suc count) i h)

  -- their order -----------------------------------------------------------------------------------------------------------------------

  pub inserted_ascends : Ascends (listed_rows n before count) → Splits (listed_row n before) count row m → has (listed_rows n before count) row ≡ false
      → Ascends (listed_rows n after (suc count))
  unfolding listed_rows
  inserted_ascends a S none = ascends_from (listed_row n after) 0 (suc count) (λ i _ h. next i (omega arith) (tri (suc i) m))
    where
      rise : (i j : ℕ) → i < j → j < count → Below (listed_row n before i) (listed_row n before j)
      rise = listed_rise n before count a

      -- the new row is below the one that stood in its place
      below_next : m < count → Below row (listed_row n before m)
      below_next h = go (below_total row (listed_row n before m))
        where
          go : Below row (listed_row n before m) ⊎ ((row ≡ listed_row n before m) ⊎ Below (listed_row n before m) row) → Below row (listed_row n before m)
          go (inl b) = b
          go (inr (inl e)) =
              absurd (refutes (has (listed_rows n before count) row) (has_law (listed_rows n before count) row) none (rw (sym e) at (listed_in n before count m h)))
          go (inr (inr b)) =
              absurd (refutes (belowb (listed_row n before m) row) (belowb_law (listed_row n before m) row) (S.others m (omega arith) h) b)

      next : (i : ℕ) → suc i < suc count → Tri (suc i) m → Below (listed_row n after i) (listed_row n after (suc i))
      next i h (is_lt l _) = rw ((I.lower i (omega arith)).0, (I.lower (suc i) l).0) (rise i (suc i) (omega arith) (omega (arith, I.within)))
      next i h (is_eq e _) = rw (e, I.here.0, (I.lower i (omega arith)).0) ((belowb_law (listed_row n before i) row).0 (S.below i (omega arith)))
      next i h (is_gt l _) = after_it i h l (ℕ_discrete i m)
        where
          after_it : (i : ℕ) → suc i < suc count → m < suc i → Dec (i ≡ m) → Below (listed_row n after i) (listed_row n after (suc i))
          after_it i h l (yes e) = rw (I.upper i (omega arith) (omega arith)).0 (rw (e, I.here.0) (below_next (omega arith)))
          after_it zero h l (no e) = absurd (omega arith)
          after_it (suc j) h l (no e) = rw ((I.upper j (omega arith) (omega arith)).0, (I.upper (suc j) (omega arith) (omega arith)).0) (rise j (suc j) (omega arith) (omega arith))

-- it still is a list of rows of these clocks
pub inserted_listed : (k : Clocks) (before : List ℕ) (count m : ℕ) (row : Row) (after : List ℕ) → Listed k before count → count < 4096
    → 4 + suc count * row_width k.count ≤ length before → IsRow (bounds_of k) row → Inserted k.count before count m row after → Listed k after (suc count)
inserted_listed k before count m row after L few room R I = record {
  few = L.few;
  sized = L.sized;
  low = L.low;
  short = omega arith;
  room = omega (arith, I.same_length);
  are_rows = λ i h. go i (inserted_births k.count before count m row after I i h);
}
  where
    go : (i : ℕ) → RowIs k.count after i row count ⊎ ((j : ℕ) × (j < count) × SameRow k.count after i before j) → IsRow (bounds_of k) (listed_row k.count after i)
    go i (inl (e, _)) = rw e R
    go i (inr (j, l, (e, _))) = rw e (L.are_rows j l)
