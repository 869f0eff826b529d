-- The test of closed lists says what it tests, so that whether a list is closed is decided. Assumes nothing.
use Prim.Native.Nat.{ℕ}
use mathlib.Core.Path.{◌≡◌, refl, ap}
use mathlib.Core.Bool.{Bool, true, false, ◌&&◌}
use mathlib.Core.Logic.{◌⊎◌, inl, inr}
use mathlib.Core.List.Memᴰ
use mathlib.Core.List.{List, [], ◌∷◌}
use lib.Dec.{eqb, ltb}
use Rattle.automata.specs.Row.{Row, Before, Below}
use Rattle.automata.specs.Automaton.{Table, Admitted, final}
use Rattle.automata.specs.Closed.{Mem, Ascends, first_row, RowOf, Closed}
use Rattle.automata.specs.Next.{Next, next_rows}
use Rattle.automata.specs.Checks.{every, any, same, beforeb, same_row, belowb, ascendsb, has, row_ofb, closedb}
use Rattle.automata.proofs.Laws.Tests.{Says, never, eqb_law, ltb_law, not_law, and_law, or_law, says}
use Rattle.automata.proofs.Laws.Rows.{isrowb_law}
use Rattle.automata.proofs.Laws.Next.{next_rows_law}

module _ {A : Type 0} {P : A → Type 0} (p : A → Bool) (law : (a : A) → Says (p a) (P a)) where
  pub every_law : (xs : List A) → Says (every p xs) ((a : A) → Mem a xs → P a)
  every_law [] = (λ h a m. absurd (Memᴰ.not-nil m), λ f. refl)
  every_law (x ∷ xs) = says _ (and_law (p x) (every p xs) (law x) (every_law xs)) (λ t a m. go t (Memᴰ.cases_cons m), λ f. (f x (Memᴰ.head refl), λ a m. f a (Memᴰ.tail m)))
    where
      go : {a : A} → P x × ((a : A) → Mem a xs → P a) → (a ≡ x) ⊎ Mem a xs → P a
      go t (inl e) = rw e t.0
      go {a} t (inr m) = t.1 a m

  pub any_law : (xs : List A) → Says (any p xs) ((a : A) × Mem a xs × P a)
  any_law [] = (λ h. never h, λ t. absurd (Memᴰ.not-nil t.1))
  any_law (x ∷ xs) = says _ (or_law (p x) (any p xs) (law x) (any_law xs)) (to, λ t. back t.0 (Memᴰ.cases_cons t.1) t.2)
    where
      to : P x ⊎ ((a : A) × Mem a xs × P a) → (a : A) × Mem a (x ∷ xs) × P a
      to (inl q) = (x, Memᴰ.head refl, q)
      to (inr (a, m, q)) = (a, Memᴰ.tail m, q)

      back : (a : A) → (a ≡ x) ⊎ Mem a xs → P a → P x ⊎ ((a : A) × Mem a xs × P a)
      back a (inl e) q = inl (rw e at q)
      back a (inr m) q = inr (a, m, q)

-- rows --------------------------------------------------------------------------------------------------------------------------------

pub same_law : (xs ys : List ℕ) → Says (same xs ys) (xs ≡ ys)
same_law [] [] = (λ h. refl, λ e. refl)
same_law [] (y ∷ ys) = (λ h. never h, λ e. let z : false ≡ true = cc in z)
same_law (x ∷ xs) [] = (λ h. never h, λ e. let z : false ≡ true = cc in z)
same_law (x ∷ xs) (y ∷ ys) = says _ (and_law (eqb x y) (same xs ys) (eqb_law x y) (same_law xs ys)) (λ t. λ i. t.0 i ∷ t.1 i, λ e. (cc, cc))

pub beforeb_law : (xs ys : List ℕ) → Says (beforeb xs ys) (Before xs ys)
beforeb_law [] [] = (λ h. never h, λ b. absurd b)
beforeb_law [] (y ∷ ys) = (λ h. tt, λ b. refl)
beforeb_law (x ∷ xs) [] = (λ h. never h, λ b. absurd b)
beforeb_law (x ∷ xs) (y ∷ ys) = or_law (ltb x y) (eqb x y && beforeb xs ys) (ltb_law x y) (and_law (eqb x y) (beforeb xs ys) (eqb_law x y) (beforeb_law xs ys))

pub same_row_law : (r s : Row) → Says (same_row r s) (r ≡ s)
same_row_law r s =
    says _ (and_law _ _ (and_law _ _ (eqb_law r.location s.location) (same_law r.intervals s.intervals)) (same_law r.ranks s.ranks)) (
      λ t. λ i. record { location = t.0.0 i; intervals = t.0.1 i; ranks = t.1 i },
      λ e. ((ap (λ (x : Row). x.location) e, ap (λ (x : Row). x.intervals) e), ap (λ (x : Row). x.ranks) e),
    )

pub belowb_law : (r s : Row) → Says (belowb r s) (Below r s)
belowb_law r s =
    or_law _ _ (ltb_law r.location s.location) (and_law _ _ (eqb_law r.location s.location)
    (or_law _ _ (beforeb_law r.intervals s.intervals) (and_law _ _ (same_law r.intervals s.intervals) (beforeb_law r.ranks s.ranks))))

pub ascendsb_law : (rows : List Row) → Says (ascendsb rows) (Ascends rows)
ascendsb_law [] = (λ h. tt, λ t. refl)
ascendsb_law (r ∷ []) = (λ h. tt, λ t. refl)
ascendsb_law (r ∷ (s ∷ rows)) = and_law (belowb r s) (ascendsb (s ∷ rows)) (belowb_law r s) (ascendsb_law (s ∷ rows))

pub has_law : (rows : List Row) (r : Row) → Says (has rows r) (Mem r rows)
has_law rows r = says _ (any_law (same_row r) (same_row_law r) rows) (λ t. rw t.2 t.1, λ m. (r, m, refl))

-- CLOSED ------------------------------------------------------------------------------------------------------------------------------

row_ofb_law : (T : Table) (r : Row) → Says (row_ofb T r) (RowOf T r)
row_ofb_law T r =
    says _ (and_law _ _ (ltb_law r.location T.locations) (isrowb_law T.bounds r)) (λ t. record { location_in = t.0; is_row = t.1 }, λ o. (o.location_in, o.is_row))

module _ (T : Table) (admitted : Admitted T) (rows : List Row) where
  abbrev Follows : Type 0
  Follows = (r : Row) → Mem r rows → (r' : Row) → Mem r' (next_rows T r) → Mem r' rows

  abbrev Parts : Type 0
  Parts =
      (((Ascends rows × ((r : Row) → Mem r rows → RowOf T r)) × Mem (first_row T) rows) × ((r : Row) → Mem r rows → final T r.location ≡ false))
      × Follows

  parts : Parts → Closed T rows
  parts t = record {
    ascends = t.0.0.0.0;
    are_rows = t.0.0.0.1;
    starts = t.0.0.1;
    not_final = t.0.1;
    waits = λ r r' m e. t.1 r m r' ((next_rows_law T admitted r r' (t.0.0.0.1 r m)).1 (inl e));
    leads = λ r r' i m h l. t.1 r m r' ((next_rows_law T admitted r r' (t.0.0.0.1 r m)).1 (inr (i, h, l)));
  }

  follows : Closed T rows → Follows
  follows k r m r' n = go ((next_rows_law T admitted r r' (k.are_rows r m)).0 n)
    where
      go : Next T r r' → Mem r' rows
      go (inl e) = k.waits r r' m e
      go (inr (i, h, l)) = k.leads r r' i m h l

  pub closed_law : Says (closedb T rows) (Closed T rows)
  unfolding closedb
  closed_law =
      says _ (and_law _ _ (and_law _ _ (and_law _ _ (and_law _ _ (ascendsb_law rows) (every_law (row_ofb T) (row_ofb_law T) rows)) (has_law rows (first_row T)))
      (every_law _ (λ r. not_law (final T r.location)) rows)) (every_law _ (λ r. every_law (has rows) (has_law rows) (next_rows T r)) rows))
      (parts, λ k. ((((k.ascends, k.are_rows), k.starts), k.not_final), follows k))
