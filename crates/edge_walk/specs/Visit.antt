-- What a visit of all rows that are ahead tells. Assumes nothing.
use Rattle.std.specs.Prelude.{◌+◌, ◌*◌, ◌<◌, ◌≡◌, Bool, true, false}
use Rattle.automata.specs.Row.{Row}
use Rattle.edge_walk.specs.Stand.{Begun, Ahead}
use Rattle.edge_walk.specs.declared.search.Search.{Search}
use Rattle.edge_walk.specs.declared.stand.Stand.{Stand}

-- the flag b says whether all rows that are sought pass the test p
pub record AllPass (Q : Row → Type 0) (p : Row → Bool) (b : Bool) : Type 0 where
  pub passed : b ≡ true → (x : Row) → Q x → p x ≡ true
  pub noticed : ((x : Row) → Q x → p x ≡ true) → b ≡ true

-- what is seen where a walk stands: if it is done with the rows that begin with the numbers chosen, b says that these pass the test p; it is false only
-- if a row that is ahead fails. Where all numbers are chosen it is done
pub record Seen (s : Search) (a : Stand) (p : Row → Bool) (b done : Bool) : Type 0 where
  pub passed : b ≡ true → done ≡ true → (x : Row) → Ahead s a x → Begun s a x → p x ≡ true
  pub noticed : ((x : Row) → Ahead s a x → p x ≡ true) → b ≡ true
  pub on : done ≡ false → a.depth < 1 + 2 * s.clocks.count
