-- A deterministic edge leads from a row to the row that the definitions compute, and to no other. Assumes nothing.
use Prim.Native.Nat.{ℕ, ◌+◌}
use Rattle.automata.proofs.Laws.Ordered.{below_itself}
use mathlib.Core.Path.{◌≡◌, refl, sym, ap, ◌∙◌}
use mathlib.Core.Bool.{Bool, true, false}
use mathlib.Core.List.Memᴰ
use mathlib.Core.List.{List, [], ◌∷◌}
use lib.ListN.{length}
use Rattle.automata.specs.Clocks.{greatest, allb}
use Rattle.automata.specs.Row.{Row, IsRow, Below}
use Rattle.automata.specs.Edge.{Edge, Bounded, Leads}
use Rattle.automata.specs.Closed.{Mem, Ascends}
use Rattle.automata.specs.Successors.{guardsb, held, edge_rows}
use Rattle.regions.specs.Image.{deterministic, reaches_at, moved, image}
use Rattle.automata.proofs.Laws.Tests.{never}
use Rattle.automata.proofs.Laws.Guards.{guards_law}
use Rattle.automata.proofs.Laws.Unique.{row_unique}
use Rattle.automata.proofs.Laws.Points.{some_point}
use Rattle.automata.proofs.Laws.Successors.{edge_rows_law, edge_rows_ascend}
use Rattle.regions.proofs.Laws.Landing.{landing, lands_somewhere, lands_reached, lands_row, lands_in}

-- lists of one row, and of none -------------------------------------------------------------------------------------------------------

only : (rows : List Row) (r : Row) → Ascends rows → Mem r rows → ((s : Row) → Mem s rows → s ≡ r) → rows ≡ r ∷ []
only [] r a m f = absurd (Memᴰ.not-nil m)
only (s ∷ []) r a m f = ap (λ (x : Row). x ∷ []) (f s (Memᴰ.head refl))
only (s ∷ (t ∷ rows)) r a m f =
    let p : s ≡ r = f s (Memᴰ.head refl) in
    let q : t ≡ r = f t (Memᴰ.tail (Memᴰ.head refl)) in
    let b : Below s t = a.0 in
    absurd (below_itself r (rw (p, q) at b))

no_rows : (rows : List Row) → ((s : Row) → Mem s rows → ⊥) → rows ≡ []
no_rows [] f = refl
no_rows (s ∷ rows) f = absurd (f s (Memᴰ.head refl))

-- IMAGE -------------------------------------------------------------------------------------------------------------------------------

module _ (c : List ℕ) (e : Edge) (r : Row) (R : IsRow c r) (B : Bounded c e) (S : deterministic (length c) e ≡ true) where
  -- what it leads to is the computed row
  leads_there : (s : Row) → Leads c e r s → s ≡ landing c e r
  leads_there s L =
      row_unique c L.D L.after s (landing c e r) L.enters L.is_row
      (lands_row c e r R B S L.D L.before L.from L.after L.to.sized L.allowed) L.to
      (lands_in c e r R B S L.D L.before L.from L.after L.to.sized L.allowed)

  -- it leads somewhere only if no value is below 0
  leads_reached : (s : Row) → Leads c e r s → allb (length c) (reaches_at c e r) ≡ true
  leads_reached s L = lands_reached c e r R B S L.D L.before L.from L.after L.to.sized L.allowed

  -- and it leads there
  there : r.location ≡ e.source → guardsb r e.guards ≡ true → allb (length c) (reaches_at c e r) ≡ true → Leads c e r (landing c e r)
  there l g h =
      let (v, C) = some_point c r R in
      let (v', s, A) = lands_somewhere c e r R B S _ v C h in
      record {
        D = greatest r.ranks + 1;
        before = v;
        after = v';
        from = C;
        to = lands_in c e r R B S _ v C v' s A;
        is_row = lands_row c e r R B S _ v C v' s A;
        leaves = l;
        enters = refl;
        guarded = (guards_law c _ v r C e.guards B.guards_in).0 g;
        allowed = A;
      }

  pub image_law : r.location ≡ e.source → guardsb r e.guards ≡ true → edge_rows c e r ≡ held (image c e r)
  unfolding image moved
  image_law l g = go (allb (length c) (reaches_at c e r)) refl
    where
      go : (b : Bool) → allb (length c) (reaches_at c e r) ≡ b → edge_rows c e r ≡ held (image c e r)
      go true h =
          rw h (only (edge_rows c e r) (landing c e r) (edge_rows_ascend c e r) ((edge_rows_law c e r (landing c e r) R B).1 (there l g h))
          (λ s m. leads_there s ((edge_rows_law c e r s R B).0 m)))
      go false h = rw h (no_rows (edge_rows c e r) (λ s m. let z : false ≡ true = sym h ∙ leads_reached s ((edge_rows_law c e r s R B).0 m) in never z))
