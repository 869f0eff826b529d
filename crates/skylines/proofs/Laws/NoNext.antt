-- Where an edge leads nowhere. Assumes nothing.
use mathlib.Core.Path.{◌≡◌, refl, sym, ap}
use mathlib.Core.Bool.{Bool, true, false, ◌&&◌}
use mathlib.Core.List.{List}
use Prim.Native.Nat.{ℕ}
use lib.Dec.{eqb}
use borrow.Author.Tests.{ne_eqb}
use Rattle.automata.specs.Row.{Row}
use Rattle.automata.specs.Edge.{Edge}
use Rattle.automata.specs.Rows.{isrowb, rows_at}
use Rattle.automata.specs.Successors.{guardsb, placedb, leadsb, edge_rows}
use Rattle.automata.specs.Checks.{every}
use Rattle.skylines.proofs.Laws.NoFurther.{select_none}

-- from another location it leads nowhere
pub edge_elsewhere : (c : List ℕ) (e : Edge) (r : Row) (p : Row → Bool) → (r.location ≡ e.source → ⊥) → true ≡ every p (edge_rows c e r)
unfolding edge_rows leadsb
edge_elsewhere c e r p h =
    ap (every p) (sym (select_none (leadsb c e r) (rows_at c e.target) (λ x. rw (ne_eqb r.location e.source h))))

-- where a guard fails it leads nowhere
pub edge_blocked : (c : List ℕ) (e : Edge) (r : Row) (p : Row → Bool) → guardsb r e.guards ≡ false → true ≡ every p (edge_rows c e r)
unfolding edge_rows leadsb
edge_blocked c e r p h =
    ap (every p) (sym (select_none (leadsb c e r) (rows_at c e.target) (λ x. rw h (go (eqb r.location e.source) (eqb x.location e.target) (isrowb c x) (placedb c e r x)))))
  where
    go : (a b k l : Bool) → (a && b && false && k && l) ≡ false
    go true true k l = refl
    go true false k l = refl
    go false b k l = refl
