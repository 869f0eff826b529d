-- A row that an edge leads from to a region that the list lacks is open. Assumes nothing.
use Prim.Native.Nat.{ℕ}
use mathlib.Core.Path.{◌≡◌, sym, subst}
use mathlib.Core.Bool.{Bool, true, false}
use mathlib.Core.List.{List}
use Rattle.automata.specs.Row.{Row, IsRow}
use Rattle.automata.specs.Closed.{Mem}
use Rattle.automata.specs.Rows.{select, rows_at}
use Rattle.automata.specs.Checks.{every, has}
use Rattle.automata.proofs.Laws.Tests.{refutes}
use Rattle.automata.proofs.Laws.Members.{select_in}
use Rattle.automata.proofs.Laws.Rows.{rows_at_in}
use Rattle.automata.proofs.Laws.Checks.{has_law, every_law}
use Rattle.regions.specs.Values.{bounds_of, row_of}
use Rattle.regions.specs.declared.clocks.Clocks.{Clocks}
use Rattle.regions.specs.declared.region.Region.{Region}
use Rattle.edge_walk.specs.Choice.{allowsb}
use Rattle.edge_walk.specs.Way.{rows_on}
use Rattle.edge_walk.specs.declared.way.Way.{Way}

pub lacking : (rows xs : List Row) (x : Row) → has rows x ≡ false → Mem x xs → every (has rows) xs ≡ true → ⊥
lacking rows xs x f m h = refutes (has rows x) (has_law rows x) f ((every_law (has rows) (has_law rows) xs).0 h x m)

-- a region of the target that some moves allow is on the way, whatever they are: the test is theirs
pub leads_there : (allowed : Row → Bool) (c : List ℕ) (n target : ℕ) (v : Region) → IsRow c (row_of n v) → v.location ≡ target → allowed (row_of n v) ≡ true
    → Mem (row_of n v) (select allowed (rows_at c target))
leads_there allowed c n target v i l t = select_in allowed (rows_at_in c target (row_of n v) l i) t

-- .. of a way that the code has
pub leads_on : (w : Way) (k : Clocks) → w.search.clocks ≡ k → (v : Region) → IsRow (bounds_of k) (row_of k.count v) → v.location ≡ w.target
    → allowsb w.search (row_of w.search.clocks.count v) ≡ true → Mem (row_of k.count v) (rows_on w)
unfolding rows_on
leads_on w k q v i l t =
    subst (λ (m : Clocks). Mem (row_of m.count v) (rows_on w)) q
    (leads_there (allowsb w.search) (bounds_of w.search.clocks) w.search.clocks.count w.target v (subst (λ (m : Clocks). IsRow (bounds_of m) (row_of m.count v)) (sym q) i) l t)
