-- How work begins: the table is refused, or there is no room, or the initial location is final; else the initial row is the first that is kept. Assumes nothing.
use Prim.Native.Nat.{ℕ, ◌+◌, ◌≤◌, ◌<◌}
use native.Mathlib.Omega.{arith}
use mathlib.Core.Path.{◌≡◌, refl, sym, ap, subst, ◌∙◌}
use mathlib.Core.Bool.{Bool, true, false}
use mathlib.Core.Logic.{◌⊎◌, inl, inr}
use mathlib.Core.List.Memᴰ
use mathlib.Core.List.{List, [], ◌∷◌}
use lib.ListN.{length, replicate, get_or, set, length-set, length-replicate}
use lib.Seq.{get_or-set_same, get_or-take}
use Rattle.std.specs.Prelude.{Result, Ok, Err, is_err}
use Rattle.std.proofs.lemmas.Option.{none-some}
use Rattle.automata.specs.Clocks.{at}
use Rattle.automata.specs.Row.{Row, IsRow}
use Rattle.automata.specs.Automaton.{Table, final, Admitted}
use Rattle.automata.specs.Closed.{Mem, Ascends, first_row}
use Rattle.automata.specs.Checks.{has}
use Rattle.automata.specs.Kept.{kept, enters, Kept, begun, added}
use Rattle.automata.proofs.Laws.Tests.{never, fails}
use Rattle.automata.proofs.Laws.Checks.{has_law}
use Rattle.regions.specs.Values.{row_of, region_of, bounds_of}
use Rattle.regions.specs.declared.region.Region.{Region}
use Rattle.regions.proofs.Laws.Values.{row_region}
use Rattle.table_files.specs.Reading.{good, bad}
use Rattle.table_files.specs.Admission.{admitted, table_of}
use Rattle.table_files.specs.Meaning.{Limits}
use Rattle.table_files.proofs.Laws.Admission.{admission_read, admission_admitted, admission_limits}
use Rattle.table_records.specs.declared.head.Head.{Head}
use Rattle.table_records.specs.declared.refusal.Refusal.{Refusal}
use Rattle.tables.specs.Values.{Describes}
use Rattle.calls.specs.RegionFile.{row_width, list_bytes}
use Rattle.calls.specs.Making.{making}
use Rattle.listed_rows.specs.Listed.{listed_row, listed_rows, Listed, Splits}
use Rattle.listed_rows.proofs.Laws.Listed.{in_listed}
use Rattle.kept_rows.specs.Births.{birth}
use Rattle.kept_rows.specs.Inserted.{SameRow, Inserted}
use Rattle.kept_rows.proofs.Laws.Inserted.{inserted_births, inserted_low, inserted_born, inserted_mem, inserted_ascends, inserted_listed}
use Rattle.making_turns.specs.declared.work.Work as work_code
use Rattle.making_turns.specs.Work.{blank, Followed, Walked, Grown, Tied, Working, Begins, BeginsRows, starting}
use Rattle.making_turns.proofs.Laws.Ending.{refused_ends}
use Rattle.automata.proofs.Laws.Kept.{kept_row, kept_is, enters_says}
use Rattle.calls.proofs.Laws.Making.{Fits, list_bytes_length, make_short, make_overfull, make_entered}

-- what is refused before work begins --------------------------------------------------------------------------------------------------------

-- the buffer is cleared then
pub begins_cleared : (table before : List ℕ) (records : ℕ) (lent out : List ℕ) (ws : List Region) (o : Result (work_code.Work Head) Refusal) → is_err o ≡ true
    → BeginsRows table before records lent ws o → out ≡ replicate (length lent) 0 → Begins table before records out ws o
begins_cleared table before records lent out ws (Ok s) f b cleared = never f
begins_cleared table before records lent out ws (Err r) f (e, same) cleared = refused_ends r lent e same cleared

module _ {table : List ℕ} {head : Head} (D : Describes table head) where
  abbrev T : Table
  T = table_of table

  reads : (rest : List ℕ) × (admitted table ≡ good T rest)
  reads = let (k, p) = D.passes in let (rest, e, _) = admission_read table k p in (rest, e)

  admits : Admitted T
  admits = let (k, p) = D.passes in admission_admitted table k p

  module _ (before : List ℕ) (records : ℕ) where
    -- too few waiting records
    pub begins_short : records < 4096 → making table (length before) records ≡ bad 20 0
    begins_short h = let (rest, e) = reads in make_short table e (length before) records (inr (inr h))

    -- no room for the header
    pub begins_headless : length before < 4 → making table (length before) records ≡ bad 20 0
    begins_headless h = let (rest, e) = reads in make_overfull table e (length before) records [] tt (λ r i. absurd (Memᴰ.not-nil i)) (inr (omega arith))

    -- the initial location is final
    pub begins_final : 4 ≤ length before → 4096 ≤ records → final T T.initial ≡ true → making table (length before) records ≡ bad 21 0
    begins_final room enough f = let (rest, e) = reads in make_entered table e (length before) records fits (ap (enters T) none ∙ (enters_says T []).1 (inl f))
      where
        no_row : {r : Row} → Kept T r → ⊥
        no_row (begun o) = never (sym o ∙ f)
        no_row (added k m o) = no_row k

        none : kept T ≡ []
        none = kept_is T [] tt (λ r i. absurd (Memᴰ.not-nil i)) (λ r k. absurd (no_row k)) (omega arith)

        fits : Fits T (length before) records
        fits = ((rw none (omega arith), rw none room), enough)

    -- no room for the initial row
    pub begins_full : final T T.initial ≡ false → length before < 4 + row_width head.clocks.count → making table (length before) records ≡ bad 20 0
    begins_full o h = let (rest, e) = reads in make_overfull table e (length before) records (first_row T ∷ []) tt are (inr (rw bytes h))
      where
        are : (r : Row) → Mem r (first_row T ∷ []) → Kept T r
        are r i = rw (Memᴰ.eq_of_singleton i) (begun o)

        bytes : length (list_bytes (first_row T ∷ [])) ≡ 4 + row_width head.clocks.count
        bytes =
            let p = list_bytes_length T (first_row T ∷ []) (λ r i. kept_row T admits (are r i)) in
            subst (λ (w : ℕ). length (list_bytes (first_row T ∷ [])) ≡ 4 + row_width w) (sym D.count) (omega (arith, p))

-- the initial row -------------------------------------------------------------------------------------------------------------------------------

module _ (table : List ℕ) (head : Head) (D : Describes table head) (out : List ℕ) where
  abbrev T₁ : Table
  T₁ = table_of table

  abbrev n : ℕ
  n = head.clocks.count

  limits : Limits T₁
  limits = let (k, p) = D.passes in admission_limits table k p

  -- the initial row as a region
  pub first_region : (x : Region) → x ≡ region_of (first_row T₁) → row_of n x ≡ first_row T₁
  first_region x e =
      ap (row_of n) e
      ∙ row_region n (first_row T₁) (length-replicate (length T₁.bounds) 0 ∙ sym D.count) (length-replicate (length T₁.bounds) 0 ∙ sym D.count)

  pub initial_is : (b v : Bool) → b ≡ final T₁ head.initial → b ≡ v → final T₁ T₁.initial ≡ v
  initial_is b v e q = ap (final T₁) (sym D.initial) ∙ sym e ∙ q

  pub initial_in : head.initial < head.locations
  initial_in = let (k, p) = D.passes in omega (arith, D.initial, D.locations, (admission_admitted table k p).initial_in)

  pub first_is_row : (x : Region) → row_of n x ≡ first_row T₁ → final T₁ T₁.initial ≡ false → IsRow (bounds_of head.clocks) (row_of n x)
  first_is_row x p o = let (k, q) = D.passes in let K : Kept T₁ (row_of n x) = rw p (begun o) in rw D.bounds (kept_row T₁ (admission_admitted table k q) K).is_row

  -- a list of no rows
  pub none_listed : 4 ≤ length out → Listed head.clocks out 0
  none_listed room = record {
    few = D.few;
    sized = ap length D.bounds ∙ sym D.count;
    low = λ z h. omega (arith, limits.low_bounds z (omega (arith, D.count)), ap (λ (c : List ℕ). at c z) D.bounds, get_or-take head.clocks.count head.clocks.bounds z 0 h);
    short = omega arith;
    room = omega arith;
    are_rows = λ i h. absurd (omega arith);
  }

  module _ (room : 4 + row_width n ≤ length out) (x : Region) (p : row_of n x ≡ first_row T₁) (o : final T₁ T₁.initial ≡ false) (out' : List ℕ)
      (I : Inserted n out 0 0 (row_of n x) out') where
    first_kept : Kept T₁ (row_of n x)
    first_kept = rw p (begun o)

    none_there : (r : Row) → Mem r (listed_rows n out 0) → ⊥
    none_there r i = let (j, h, _) = in_listed n out 0 r i in omega arith

    none_has : has (listed_rows n out 0) (row_of n x) ≡ false
    none_has = fails (has (listed_rows n out 0) (row_of n x)) (has_law (listed_rows n out 0) (row_of n x)) (none_there (row_of n x))

    none_ascends : Ascends (listed_rows n out 0)
    unfolding listed_rows
    none_ascends = tt

    splits : Splits (listed_row n out) 0 (row_of n x) 0
    splits = record { within = omega arith; below = λ i h. absurd (omega arith); others = λ i h g. absurd (omega arith) }

    grown : Grown T₁ head.clocks out out' 1 0 0 0 false false
    grown = record {
      listed = inserted_listed head.clocks out 0 0 (row_of n x) out' (none_listed (omega arith)) (omega arith) (omega arith) (first_is_row x p o) I;
      ascends = inserted_ascends n out 0 0 (row_of n x) out' I none_ascends splits none_has;
      births = inserted_low n out 0 0 (row_of n x) out' I (λ j h. absurd (omega arith));
      born = inserted_born n out 0 0 (row_of n x) out' I (λ b h. absurd (omega arith));
      kept = λ r i. are r ((inserted_mem n out 0 0 (row_of n x) out' I r).0 i);
      begun = (inserted_mem n out 0 0 (row_of n x) out' I (first_row T₁)).1 (inl (sym p));
      enters = λ h. never h;
      same_length = I.same_length;
      rest = I.rest;
      low = omega arith;
      high = omega arith;
      walks = λ h. never h;
      follows = λ h. omega arith;
      followed = λ m i h q l f. absurd (not_followed m i f);
      walked = λ m i h q l f. absurd (not_walked m i f);
    }
      where
        are : (r : Row) → (r ≡ row_of n x) ⊎ Mem r (listed_rows n out 0) → Kept T₁ r
        are r (inl q) = rw q first_kept
        are r (inr i) = absurd (none_there r i)

        not_followed : (m i : ℕ) → Followed 0 0 false m (birth n out' i) → ⊥
        not_followed m i (inl h) = omega arith
        not_followed m i (inr (_, _, h)) = omega arith

        not_walked : (m i : ℕ) → Walked 0 0 0 false m (birth n out' i) → ⊥
        not_walked m i (inl h) = omega arith
        not_walked m i (inr (h, _, _)) = never h

    tied : (ws : List Region) → 0 < length ws → Tied n out' 1 (set ws 0 x)
    tied ws long i l = go (inserted_births n out 0 0 (row_of n x) out' I i l)
      where
        go : ((listed_row n out' i ≡ row_of n x) × (birth n out' i ≡ 0)) ⊎ ((j : ℕ) × (j < 0) × SameRow n out' i out j)
            → row_of n (get_or (set ws 0 x) (birth n out' i) blank) ≡ listed_row n out' i
        go (inl (q, b)) = rw (b, q) (ap (row_of n) (get_or-set_same ws 0 x blank long))
        go (inr (j, g, _)) = absurd (omega arith)

    pub begins : (records : ℕ) → 4096 ≤ records → (ws : List Region) → length ws ≡ records → Working table out records out' ws (starting head x)
    begins records enough ws sized = record {
      standing = record {
        describes = D;
        grown = grown;
        on = refl;
        step_in = omega arith;
        stands = λ j q. absurd (omega arith);
        edge_next = λ v. never v;
        walked_from = λ v f. absurd (none-some v f);
        sized = length-set ws 0 x ∙ sized;
        enough = enough;
        place_in = omega arith;
        again = get_or-set_same ws 0 x blank (omega arith);
        take_in = omega arith;
        takes = λ v. refl;
        tied = tied ws (omega arith);
      };
      sized = sized;
      place_in = omega arith;
      take_in = omega arith;
      same_length = I.same_length;
    }
