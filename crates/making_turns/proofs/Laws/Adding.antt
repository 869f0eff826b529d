-- A new row is added: what holds of the rows in the buffer, and of the waiting list, holds again. Assumes nothing.
use Prim.Native.Nat.{ℕ, suc, ◌+◌, ◌*◌, ◌≤◌, ◌<◌}
use native.Mathlib.Omega.{arith}
use mathlib.Core.Path.{◌≡◌, sym, ap, subst, ◌∙◌}
use mathlib.Core.Bool.{Bool, true, false}
use mathlib.Core.Logic.{◌⊎◌, inl, inr}
use mathlib.Core.List.{List}
use lib.ListN.{length, drop, get_or, set}
use lib.Seq.{drop-drop, get_or-set_same, get_or-set_other}
use Rattle.automata.specs.Row.{Row, IsRow}
use Rattle.automata.specs.Automaton.{Table, Admitted}
use Rattle.automata.specs.Closed.{Mem}
use Rattle.automata.specs.Kept.{Kept}
use Rattle.regions.specs.Values.{row_of, bounds_of}
use Rattle.regions.specs.declared.clocks.Clocks.{Clocks}
use Rattle.regions.specs.declared.region.Region.{Region}
use Rattle.calls.specs.RegionFile.{row_width}
use Rattle.listed_rows.specs.Listed.{listed_row, listed_rows, Splits}
use Rattle.kept_rows.specs.Births.{birth}
use Rattle.kept_rows.specs.Inserted.{SameRow, Inserted}
use Rattle.kept_rows.proofs.Laws.Inserted.{inserted_births, inserted_low, inserted_born, inserted_mem, inserted_ascends, inserted_listed}
use Rattle.next_steps.specs.Steps.{plain, Settled}
use Rattle.making_turns.specs.Work.{blank, Followed, Walked, Grown, Tied, Comes}
use Rattle.automata.proofs.Laws.Kept.{kept_row}
use Rattle.next_steps.proofs.Laws.Steps.{settled_more, new_kept}

module _ (T : Table) (admitted : Admitted T) (k : Clocks) (bounds : bounds_of k ≡ T.bounds) (before out : List ℕ) (count start top step : ℕ) (walking e : Bool)
    (G : Grown T k before out count start top step walking e) (x : Row) (C : Comes T (listed_rows k.count out count) x) where
  abbrev n : ℕ
  n = k.count

  abbrev rows : List Row
  rows = listed_rows n out count

  -- a row that is new is kept, and is a row of the table's clocks
  pub comes_kept : Kept T x
  comes_kept = let p = G.kept C.parent C.listed in new_kept T rows C.by C.parent x (kept_row T admitted p).is_row p C.is_new

  pub comes_row : IsRow (bounds_of k) x
  comes_row = rw bounds (kept_row T admitted comes_kept).is_row

  module _ (few : count < 4096) (room : 4 + suc count * row_width n ≤ length out) (m : ℕ) (sp : Splits (listed_row n out) count x m) (out' : List ℕ)
      (I : Inserted n out count m x out') where
    abbrev rows' : List Row
    rows' = listed_rows n out' (suc count)

    more : (r : Row) → Mem r rows → Mem r rows'
    more r i = (inserted_mem n out count m x out' I r).1 (inr i)

    same_rest : drop (4 + suc count * row_width n) out ≡ drop (4 + suc count * row_width n) before
    same_rest =
        let w = row_width n in
        let p : 4 + count * w + w ≡ 4 + suc count * w = omega arith in
        subst (λ (t : ℕ). drop t out ≡ drop t before) p (sym (drop-drop w (4 + count * w) out) ∙ ap (drop w) G.rest ∙ drop-drop w (4 + count * w) before)

    pub grown_added : Grown T k before out' (suc count) start top step walking e
    grown_added = record {
      listed = inserted_listed k out count m x out' G.listed few room comes_row I;
      ascends = inserted_ascends n out count m x out' I G.ascends sp C.is_new.is_new;
      births = inserted_low n out count m x out' I G.births;
      born = inserted_born n out count m x out' I G.born;
      kept = λ r i. of_kept r ((inserted_mem n out count m x out' I r).0 i);
      begun = more _ G.begun;
      enters = G.enters;
      same_length = I.same_length ∙ G.same_length;
      rest = I.rest ∙ same_rest;
      low = G.low;
      high = omega (arith, G.high);
      walks = G.walks;
      follows = λ w. omega (arith, G.high);
      followed = λ s i h p l f. go_followed s i h p f (inserted_births n out count m x out' I i l);
      walked = λ s i h p l f. go_walked s i h p f (inserted_births n out count m x out' I i l);
    }
      where
        of_kept : (r : Row) → (r ≡ x) ⊎ Mem r rows → Kept T r
        of_kept r (inl q) = rw q comes_kept
        of_kept r (inr i) = G.kept r i

        go_followed : (s i : ℕ) → s ≤ length T.edges → plain T s ≡ true → Followed top step walking s (birth n out' i)
            → ((listed_row n out' i ≡ x) × (birth n out' i ≡ count)) ⊎ ((j : ℕ) × (j < count) × SameRow n out' i out j)
            → Settled T rows' e s (listed_row n out' i)
        go_followed s i h p (inl f) (inl (_, b)) = absurd (omega (arith, G.high))
        go_followed s i h p (inr (f, w, _)) (inl (_, b)) = absurd (omega (arith, G.follows w))
        go_followed s i h p f (inr (j, l, (q, b))) = rw q (settled_more T rows rows' e e s (listed_row n out j) more (λ z. z) (G.followed s j h p l (rw b at f)))

        go_walked : (s i : ℕ) → s ≤ length T.edges → plain T s ≡ false → Walked start top step walking s (birth n out' i)
            → ((listed_row n out' i ≡ x) × (birth n out' i ≡ count)) ⊎ ((j : ℕ) × (j < count) × SameRow n out' i out j)
            → Settled T rows' e s (listed_row n out' i)
        go_walked s i h p (inl f) (inl (_, b)) = absurd (omega (arith, G.low, G.high))
        go_walked s i h p (inr (w, f, _)) (inl (_, b)) = absurd (omega (arith, G.high))
        go_walked s i h p f (inr (j, l, (q, b))) = rw q (settled_more T rows rows' e e s (listed_row n out j) more (λ z. z) (G.walked s j h p l (rw b at f)))

    pub tied_added : (ws : List Region) (r : Region) → row_of n r ≡ x → count < length ws → Tied n out count ws → Tied n out' (suc count) (set ws count r)
    tied_added ws r q h t i l = go (inserted_births n out count m x out' I i l)
      where
        go : ((listed_row n out' i ≡ x) × (birth n out' i ≡ count)) ⊎ ((j : ℕ) × (j < count) × SameRow n out' i out j)
            → row_of n (get_or (set ws count r) (birth n out' i) blank) ≡ listed_row n out' i
        go (inl (p, b)) = rw (b, p) (ap (row_of n) (get_or-set_same ws count r blank h) ∙ q)
        go (inr (j, g, (p, b))) = rw (b, p) (ap (row_of n) (get_or-set_other ws count (birth n out j) r blank (λ z. omega (arith, G.births j g))) ∙ t j g)
